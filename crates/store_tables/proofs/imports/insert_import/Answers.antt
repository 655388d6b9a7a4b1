use Rattle.std.proofs.Math.Facts.{to_z-of_z}
use Rattle.store_tables.proofs.RowWrites.{inserts_import}
use Rattle.store_tables.proofs.imports.insert_import.Goals as goal

pub returns : goal.returns
returns g c =
    inserts_import g.S.Store c.args.tx.now c.execute.new.self c.execute.ensures.same_reference
    c.execute.result c.execute.ensures.survives c.args.book c.args.key.now
    c.args.added c.args.edited c.args.same c.args.number
    (λ clean inside. rw (
      c.params-to_sql.ensures,
      c.params-to_sql-2.ensures,
      c.params-to_sql-3.ensures,
      c.params-to_sql-4.ensures,
      c.params-to_sql-5.ensures,
      c.params-to_sql-6.ensures,
      to_z-of_z c.ranges.book,
      to_z-of_z c.ranges.added,
      to_z-of_z c.ranges.edited,
      to_z-of_z c.ranges.same,
      to_z-of_z c.ranges.number,
    ) at (c.execute.ensures.runs clean inside))
