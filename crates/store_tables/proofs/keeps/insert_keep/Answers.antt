use Rattle.std.proofs.Math.Facts.{to_z-of_z}
use Rattle.store_tables.proofs.RowWrites.{inserts_keep}
use Rattle.store_tables.proofs.keeps.insert_keep.Goals as goal

pub returns : goal.returns
returns g c =
    inserts_keep g.S.Store c.args.tx.now c.execute.new.self c.execute.ensures.same_reference
    c.execute.result c.execute.ensures.survives c.args.book c.args.keep c.ranges.book
    (λ clean inside. rw (
      c.params-to_sql.ensures,
      c.params-to_sql-2.ensures,
      to_z-of_z c.ranges.book,
      to_z-of_z c.ranges.keep,
    ) at (c.execute.ensures.runs clean inside))
