use Rattle.std.proofs.Common.{◌≡◌, ◌∙◌, [], IfSome, get_or, subst, string_bytes}
use Rattle.std.proofs.lemmas.List.{get_or_default}
use Rattle.contact_csv.specs.Carrying.{column_at}
use Rattle.contact_csv.specs.RowUids.{IsOwnUid, of_cell}
use Rattle.contact_csv.proofs.uid.first_own_uid.Goals as goal

pub returns-in-Some : goal.returns-in-Some
returns-in-Some c =
    let columns = c.args.columns.now in
    let cells = c.args.cells.now in
    let place = c.loop-place.place in
    let uid = string_bytes c.in-Some.uid in
    let text : c.as_str.result.now ≡ get_or cells place [] = c.as_str.ensures
    ∙ c.index-cells-place.is ∙ get_or_default cells place _ [] c.loop-place-test.true in
    let own : IsOwnUid c.column_at-column.result.now c.as_str.result.now uid =
    subst (λ o. IfSome o (λ u. IsOwnUid c.column_at-column.result.now c.as_str.result.now
    (string_bytes u))) c.in-Some.is c.in_ok-uid.ensures in
    of_cell place c.loop-place-test.true
    (subst (λ t. IsOwnUid (column_at columns place) t uid) text
    (subst (λ column. IsOwnUid column c.as_str.result.now uid) c.column_at-column.ensures own))
