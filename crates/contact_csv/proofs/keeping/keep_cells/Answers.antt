use Rattle.std.proofs.Common.{◌≡◌, ◌∙◌, [], get_or, length, subst, string_bytes, arith}
use Rattle.std.proofs.lemmas.List.{get_or_default}
use Rattle.contact_csv.specs.Carrying.{column_at}
use Rattle.contact_csv.specs.internal.Keeping.{KeepsCell}
use Rattle.contact_csv.proofs.KeepLemmas.{keeps_more, keeps_fewer}
use Rattle.contact_csv.proofs.keeping.keep_cells.Goals as goal

pub loop-place-preserved : goal.loop-place-preserved
loop-place-preserved c =
    let columns = c.args.columns.now in
    let cells = c.args.cells.now in
    let place = c.loop-place.place in
    let old = c.loop-place.made in
    let new = c.keep_cell.new.self in
    let text : c.as_str.result.now ≡ get_or cells place [] = c.as_str.ensures
    ∙ c.index-cells-place.is ∙ get_or_default cells place _ [] c.loop-place-test.true in
    keeps_more (string_bytes c.args.uid) columns cells place old new c.loop-place.invariant
    (subst (λ t. KeepsCell (column_at columns place) place t old new) text
    (subst (λ column. KeepsCell column place c.as_str.result.now old new) c.column_at-column.ensures
    c.in_ok-keep_cell.ensures))

pub returns : goal.returns
returns c = keeps_fewer (string_bytes c.args.uid) c.args.columns.now c.args.cells.now
    (length c.args.cells.now) c.loop-place.place c.loop-place.made
    (omega (arith, c.loop-place-test.false)) c.loop-place.invariant
