use Rattle.std.proofs.Common.{◌≡◌, ◌+◌, ◌∙◌, ◌++◌, [], ap, get_or, arith, drop}
use Rattle.std.proofs.lemmas.List.{get_or_default}
use Rattle.contact_csv.specs.Carrying.{column_at}
use Rattle.contact_csv.specs.RowUids.{cell_octets, octets_from}
use Rattle.contact_csv.proofs.RowLemmas.{more_octets, all_octets}
use Rattle.contact_csv.proofs.uid.row_octets.Goals as goal

pub loop-place-preserved : goal.loop-place-preserved
loop-place-preserved c =
    let columns = c.args.columns.now in
    let cells = c.args.cells.now in
    let place = c.loop-place.place in
    let text : c.as_str-text.result.now ≡ get_or cells place [] = c.as_str-text.ensures
    ∙ c.index-cells-place.is ∙ get_or_default cells place _ [] c.loop-place-test.true in
    let pushed : c.push_cell.new.octets.items ≡ c.loop-place.octets.items
    ++ cell_octets (column_at columns place) (get_or cells place []) =
    c.in_ok-push_cell.ensures ∙ ap (λ column. c.loop-place.octets.items ++ cell_octets column
    c.as_str-text.result.now) c.column_at-column.ensures
    ∙ ap (λ t. c.loop-place.octets.items ++ cell_octets (column_at columns place) t) text in
    ap (λ l. l ++ octets_from columns (place + 1) (drop (place + 1) cells)) pushed
    ∙ more_octets columns cells place c.loop-place.octets.items (octets_from columns 0 cells)
    c.loop-place-test.true c.loop-place.invariant

pub returns : goal.returns
returns c = all_octets c.args.columns.now c.args.cells.now c.loop-place.place
    c.loop-place.octets.items _ (omega (arith, c.loop-place-test.false)) c.loop-place.invariant
