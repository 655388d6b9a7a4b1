use Rattle.std.proofs.Common.{◌∙◌, sym}
use Rattle.contact_csv.specs.RowUids.{of_text}
use Rattle.contact_csv.proofs.ResultLemmas.{ok_some}
use Rattle.contact_csv.proofs.uid.given_uid.Goals as goal

pub returns-then-is_uid_column : goal.returns-then-is_uid_column
returns-then-is_uid_column c =
    ok_some c.legal_uid.result (λ uid is. of_text (sym c.is_uid_column.ensures
    ∙ c.if-is_uid_column.true) is) c.legal_uid.ensures
