use Rattle.std.proofs.Math.Facts.{to_z-of_z}
use Rattle.store_tables.proofs.RowWrites.{inserts_book}
use Rattle.store_tables.proofs.books.insert_book.Goals as goal

pub returns : goal.returns
returns g c =
    inserts_book g.S.Store c.args.tx.now c.execute.new.self c.execute.ensures.same_reference
    c.execute.result c.execute.ensures.survives c.args.id c.args.name.now c.ranges.id
    (λ clean inside. rw (
      c.params-to_sql.ensures,
      c.params-to_sql-2.ensures,
      to_z-of_z c.ranges.id,
    ) at (c.execute.ensures.runs clean inside))
