use Rattle.std.proofs.Common.{rules, ◌≡◌, Some, None, refl, subst, sym, ap, ◌∙◌}
use Rattle.card_conversion.specs.ContactFates.{counted}
use Rattle.card_conversion.specs.Courses.{counts_of}
use Rattle.card_conversion.specs.internal.ContactStates.{ReadsRow}
use Rattle.card_conversion.proofs.ContactProgressLemmas.{all_done, begun, one_row}
use Rattle.card_conversion.proofs.contacts.run.convert_more_contacts.Goals as goal

pub loop-row_number-init : goal.loop-row_number-init
loop-row_number-init g c ready uids known =
    begun g.O.CardSink.writes g.R.Read.remaining c.args.reader uids (counts_of c.args.course.now)
    c.args.sink.now c.args.course.now.uids (counts_of c.args.course.now) known refl ready

pub returns-in_default : goal.returns-in_default
returns-in_default g c ready uids known =
    let p = c.loop-row_number.invariant ready uids known in
    let none : c.in_ok-row.field-0 ≡ None = search rules in
    all_done g.O.CardSink.writes g.R.Read.remaining c.args.reader uids c.args.course.now
    c.loop-row_number.course c.args.sink.now c.loop-row_number.sink
    c.loop-row_number.contacts c.next_row.new.contacts p
    (subst (λ row. ReadsRow g.R.Read.remaining c.loop-row_number.contacts c.next_row.new.contacts
    row) none (c.in_ok-row.ensures.row p.ready))

pub loop-row_number-preserved : goal.loop-row_number-preserved
loop-row_number-preserved g c ready uids known =
    let p = c.loop-row_number.invariant ready uids known in
    let some : c.in_ok-row.field-0 ≡ Some c.in-Some.row = search rules in
    one_row g.O.CardSink.writes g.R.Read.remaining c.args.reader uids (counts_of c.args.course.now)
    c.args.sink.now c.loop-row_number.sink c.take_row.new.sink
    c.loop-row_number.contacts c.next_row.new.contacts c.loop-row_number.course.uids
    c.take_row.new.uids c.in-Some.row c.in_ok-fate.fate (counts_of c.loop-row_number.course)
    c.count_row.new.summary p
    (subst (λ row. ReadsRow g.R.Read.remaining c.loop-row_number.contacts c.next_row.new.contacts
    row) some (c.in_ok-row.ensures.row p.ready))
    c.next_row.ensures.columns (c.in_ok-row.ensures.ready p.ready) c.in_ok-fate.ensures
    (c.count_row.ensures ∙ ap (λ numbers. counted numbers c.in_ok-fate.fate)
    c.next_number-number.ensures)
