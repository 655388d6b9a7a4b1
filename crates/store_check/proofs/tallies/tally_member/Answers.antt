use Rattle.std.proofs.Common.{rules, ◌≡◌, ◌∙◌, find, true, None, sym, subst, of_z, to_z, w64}
use Rattle.store_tables.proofs.KeyedRows.{same_int}
use Rattle.store_rows.specs.TableRows.{load_member}
use Rattle.store_check.specs.MemberTallies.{IsTallyAt, has_book}
use Rattle.store_check.specs.RowChecks.{int_cell}
use Rattle.store_check.specs.RowFaults.{JudgesMember}
use Rattle.store_check.proofs.FaultLemmas.{absent_there, judged_there}
use Rattle.store_check.proofs.TallyLemmas.{counted_next, counted_there, distinct_tallies}
use Rattle.store_check.proofs.TallyLemmas.{found_there}
use Rattle.store_check.proofs.tallies.tally_member.Goals as goal

pub returns-in_default : goal.returns-in_default
returns-in_default c ms books distinct counts =
    let found : find (has_book (int_cell 1 c.args.member.now)) c.args.tallies.now ≡ None =
    search rules in
    absent_there ms books c.args.tallies.now counts c.args.member.now found

pub returns-in-Some-2 : goal.returns-in-Some-2
returns-in-Some-2 c ms books distinct counts =
    let member = c.args.member.now in
    let tallies = c.args.tallies.now in
    let tally = c.in-Some.tally in
    let at : IsTallyAt tallies c.in-Some.place (int_cell 1 member) tally = search rules in
    let apart = distinct_tallies ms books tallies distinct counts in
    let found = found_there (int_cell 1 member) tallies c.in-Some.place tally apart at.there
    at.of_book in
    let whole : to_z w64 (of_z w64 tally.horizon) ≡ tally.horizon = search rules in
    let judged = judged_there ms books tallies counts member tally found c.in_ok-fault.field-0
    (λ b number horizon. c.in_ok-fault.ensures b number (horizon ∙ sym whole)) in
    subst (JudgesMember books member) c.in-Some-2.is judged

pub returns : goal.returns
returns c ms books distinct counts =
    let member = c.args.member.now in
    let tallies = c.args.tallies.now in
    let tally = c.in-Some.tally in
    let at : IsTallyAt tallies c.in-Some.place (int_cell 1 member) tally = search rules in
    let apart = distinct_tallies ms books tallies distinct counts in
    let found = found_there (int_cell 1 member) tallies c.in-Some.place tally apart at.there
    at.of_book in
    let whole : to_z w64 (of_z w64 tally.horizon) ≡ tally.horizon = search rules in
    let judged = judged_there ms books tallies counts member tally found c.in_ok-fault.field-0
    (λ b number horizon. c.in_ok-fault.ensures b number (horizon ∙ sym whole)) in
    let shown : c.is_member_row.result ≡ true = search rules in
    let none : c.in_ok-fault.field-0 ≡ None = search rules in
    let set = counted_there (load_member member) tallies c.in-Some.place tally
    c.in_ok-tallies.field-0 apart at.there (same_int tally.id (int_cell 1 member) at.of_book)
    c.in_ok-tallies.ensures in (
      (c.is_member_row.ensures.0 shown, subst (JudgesMember books member) none judged),
      counted_next ms books tallies _ (load_member member) counts set,
    )
