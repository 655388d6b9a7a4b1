use Rattle.std.proofs.Common.{option_copied}
use Rattle.std.proofs.Math.Facts.{to_z-of_z}
use Rattle.sqlite.specs.Held.{state}
use Rattle.store_tables.proofs.ReturningLemmas.{refused_unchanged}
use Rattle.store_tables.proofs.MemberWrites.{inserts_row}
use Rattle.store_tables.proofs.PutLemmas.{card_bound}
use Rattle.store_tables.proofs.members.insert_member.Goals as goal

pub returns-clause-inserts : goal.returns-clause-inserts
returns-clause-inserts g c =
    inserts_row g.S.Store c.args.tx.now c.execute.new.self c.execute.ensures.same_reference
    c.execute.result
    c.execute.ensures.survives c.args.book c.args.uid.now c.args.changed
    (option_copied c.args.card)
    (λ clean inside. rw (
      c.params-to_sql.ensures,
      c.params-to_sql-2.ensures,
      c.params-to_sql-3.ensures,
      c.params-to_sql-4.ensures,
      card_bound c.args.card,
      to_z-of_z c.ranges.book,
      to_z-of_z c.ranges.changed,
    ) at (c.execute.ensures.runs clean inside))

pub returns-clause-refused : goal.returns-clause-refused
returns-clause-refused g c clean inside =
    refused_unchanged _ _ (state g.S.Store c.args.tx.now.conn.now)
    (state g.S.Store c.execute.new.self.conn.now) c.execute.result (c.execute.ensures.runs clean
    inside)
