use Rattle.std.proofs.Common.{IfSome, subst, string_bytes}
use Rattle.contact_csv.specs.RowUids.{IsRowUid}
use Rattle.contact_csv.proofs.uid.own_uid.Goals as goal

pub returns-in-Some : goal.returns-in-Some
returns-in-Some c = subst (λ o. IfSome o (λ uid. IsRowUid c.args.columns.now c.args.cells.now
    (string_bytes uid))) c.in-Some.is c.in_ok-uid.ensures
