-- The UPDATE changes the row of this member and nothing else, or there is no such row.
-- Given here: `updates_row` says what this text does to rows of members; `execute` only says that
-- the engine runs it. The values that the code binds are its parameters (`card_bound`). If the
-- statement gets another text than `change_text`, this answer breaks.
use Rattle.std.proofs.Common.{option_copied}
use Rattle.std.proofs.Math.Facts.{to_z-of_z}
use Rattle.store_tables.proofs.MemberWrites.{updates_row}
use Rattle.store_tables.proofs.PutLemmas.{card_bound}
use Rattle.store_tables.proofs.members.update_member.Goals as goal

pub returns : goal.returns
returns g c =
    updates_row g.S.Store c.args.tx.now c.execute.new.self c.execute.ensures.same_reference
    c.execute.result
    c.execute.ensures.survives c.args.book c.args.uid.now c.args.changed
    (option_copied c.args.card)
    (λ clean inside. rw (
      c.params-to_sql.ensures,
      c.params-to_sql-2.ensures,
      c.params-to_sql-3.ensures,
      c.params-to_sql-4.ensures,
      card_bound c.args.card,
      to_z-of_z c.ranges.book,
      to_z-of_z c.ranges.changed,
    ) at (c.execute.ensures.runs clean inside))
