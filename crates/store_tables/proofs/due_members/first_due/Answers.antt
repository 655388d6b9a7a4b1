use Rattle.std.proofs.Common.{pos, w64}
use Rattle.std.proofs.Math.Facts.{to_z-of_z}
use Rattle.sqlite.specs.Held.{state}
use Rattle.store_tables.proofs.Lookups.{reads_rows}
use Rattle.store_tables.proofs.Queries.{due_text}
use Rattle.store_tables.proofs.Texts.{due_is, due_selects}
use Rattle.store_tables.proofs.DueLemmas.{due_first}
use Rattle.store_tables.proofs.QueryFailures.{first_due_fails}
use Rattle.store_tables.proofs.due_members.first_due.Goals as goal

pub returns : goal.returns
returns g c =
    let old = state g.S.Store c.args.conn.now in
    let new = state g.S.Store c.query_all.new.self in
    let rest = reads_rows due_text _ old new due_selects due_is c.query_all.ensures.mode
    c.query_all.ensures.survives c.query_all.result c.query_all.ensures.ok c.query_all.ensures.err
    (λ clean has. first_due_fails old new c.args.book c.args.at c.args.base (pos c.args.most)
    c.query_all.result has
    (rw (
      c.params-to_sql.ensures,
      c.params-to_sql-2.ensures,
      c.params-to_sql-3.ensures,
      c.params-to_sql-4.ensures,
      to_z-of_z c.ranges.book,
      to_z-of_z c.ranges.at,
      to_z-of_z c.ranges.base,
      to_z-of_z {w = w64} {z = c.from-most.result}
          (record { sfits = c.from-most.type_inv }),
      c.from-most.ensures,
    ) at (c.query_all.ensures.err clean))) in
    record {
      returns = λ ms clean has rows. due_first old new c.args.book c.args.at c.args.base
          c.args.most ms
          c.query_all.result has rows
          (rw (
            c.params-to_sql.ensures,
            c.params-to_sql-2.ensures,
            c.params-to_sql-3.ensures,
            c.params-to_sql-4.ensures,
            to_z-of_z c.ranges.book,
            to_z-of_z c.ranges.at,
            to_z-of_z c.ranges.base,
            to_z-of_z {w = w64} {z = c.from-most.result}
                (record { sfits = c.from-most.type_inv }),
            c.from-most.ensures,
          ) at (c.query_all.ensures.ok clean));
      unchanged = rest.unchanged;
      fails_from_outside = rest.fails_from_outside;
      reads_only = rest.reads_only;
    }
