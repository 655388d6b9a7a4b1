use Rattle.std.proofs.Math.Facts.{to_z-of_z}
use Rattle.store_tables.proofs.MemberWrites.{forgets_rows}
use Rattle.store_tables.proofs.members.forget_members.Goals as goal

pub returns : goal.returns
returns g c =
    forgets_rows g.S.Store c.args.tx.now c.execute.new.self c.execute.ensures.same_reference
    c.execute.result c.execute.ensures.survives c.args.book c.args.upto
    (λ clean inside. rw (
      c.params-to_sql.ensures,
      c.params-to_sql-2.ensures,
      to_z-of_z c.ranges.book,
      to_z-of_z c.ranges.upto,
    ) at (c.execute.ensures.runs clean inside))
