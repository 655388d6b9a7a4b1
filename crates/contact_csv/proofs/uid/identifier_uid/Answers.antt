use Rattle.std.proofs.Common.{◌∙◌, sym}
use Rattle.contact_csv.specs.RowUids.{of_identifier}
use Rattle.contact_csv.proofs.uid.identifier_uid.Goals as goal

pub returns-then-is_id_column : goal.returns-then-is_id_column
returns-then-is_id_column c =
    of_identifier (sym c.is_id_column.ensures ∙ c.if-is_id_column.true) (sym c.is_void.ensures
    ∙ c.if-is_void.false) c.in_ok-cell_uid.ensures
