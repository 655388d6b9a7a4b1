use Rattle.store_rows.proofs.WriteLemmas.{put_held, put_is_row}
use Rattle.store_rows.proofs.changes.put_member_is_with_row.Goals as goal

pub returns-clause-tables : goal.returns-clause-tables
returns-clause-tables c = put_held

pub returns-clause-row : goal.returns-clause-row
returns-clause-row c = put_is_row
