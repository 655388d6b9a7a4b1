use Rattle.std.proofs.Common.{[], subst, sym}
use Rattle.card_conversion.specs.ContactAccounts.{ConvertsContacts}
use Rattle.card_conversion.proofs.ContactProgressLemmas.{first_done}
use Rattle.card_conversion.proofs.contacts.run.convert_contacts.Goals as goal

pub returns : goal.returns
returns g c ready =
    subst (ConvertsContacts g.O.CardSink.writes g.R.Read.remaining c.args.reader c.args.sink.now
    c.convert_more_contacts.new.sink) (sym c.summary-summary.ensures)
    (first_done g.O.CardSink.writes g.R.Read.remaining c.args.reader c.new-course.result
    c.convert_more_contacts.new.course c.args.sink.now c.convert_more_contacts.new.sink
    c.new-course.ensures.counts (c.in_ok-convert_more_contacts.ensures ready []
    c.new-course.ensures.uids))
