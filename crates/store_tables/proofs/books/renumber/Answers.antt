use Rattle.std.proofs.Math.Facts.{to_z-of_z}
use Rattle.store_tables.specs.Books.{numbers}
use Rattle.store_tables.proofs.RowWrites.{renumbers_book}
use Rattle.store_tables.proofs.books.renumber.Goals as goal

pub returns : goal.returns
returns g c =
    renumbers_book g.S.Store c.args.tx.now c.execute.new.self c.execute.ensures.same_reference
    c.execute.result c.execute.ensures.survives c.args.id
    (numbers c.args.number c.args.horizon c.args.created c.args.edited c.args.imported
    c.args.import_edited c.args.moved_in c.args.deleted c.args.moved_out) c.ranges.id
    (λ clean inside. rw (
      c.params-to_sql.ensures,
      c.params-to_sql-2.ensures,
      c.params-to_sql-3.ensures,
      c.params-to_sql-4.ensures,
      c.params-to_sql-5.ensures,
      c.params-to_sql-6.ensures,
      c.params-to_sql-7.ensures,
      c.params-to_sql-8.ensures,
      c.params-to_sql-9.ensures,
      c.params-to_sql-10.ensures,
      to_z-of_z c.ranges.id,
      to_z-of_z c.ranges.number,
      to_z-of_z c.ranges.horizon,
      to_z-of_z c.ranges.created,
      to_z-of_z c.ranges.edited,
      to_z-of_z c.ranges.imported,
      to_z-of_z c.ranges.import_edited,
      to_z-of_z c.ranges.moved_in,
      to_z-of_z c.ranges.deleted,
      to_z-of_z c.ranges.moved_out,
    ) at (c.execute.ensures.runs clean inside))
