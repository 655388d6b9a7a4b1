use Rattle.std.proofs.Common.{IfSome, subst, string_bytes}
use Rattle.contact_csv.specs.RowUids.{IsRowUid, of_cells}
use Rattle.contact_csv.proofs.ResultLemmas.{ok_then}
use Rattle.contact_csv.proofs.uid.chosen_uid.Goals as goal

pub returns-then-not-may_own-clause-row : goal.returns-then-not-may_own-clause-row
returns-then-not-may_own-clause-row c =
    ok_then c.row_uid.result (λ uid is. of_cells is) c.row_uid.ensures

pub returns-in-Some-clause-row : goal.returns-in-Some-clause-row
returns-in-Some-clause-row c =
    subst (λ o. IfSome o (λ uid. IsRowUid c.args.columns.now c.args.cells.now (string_bytes uid)))
    c.in-Some.is c.in_ok-uid.ensures
