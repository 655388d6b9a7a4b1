use Rattle.std.proofs.Math.Facts.{to_z-of_z}
use Rattle.sqlite.specs.Held.{state}
use Rattle.store_tables.proofs.Lookups.{looks_up}
use Rattle.store_tables.proofs.Queries.{import_text}
use Rattle.store_tables.proofs.Texts.{import_is, import_selects}
use Rattle.store_tables.proofs.FindLemmas.{finds_import}
use Rattle.store_tables.proofs.QueryFailures.{find_import_fails}
use Rattle.store_tables.proofs.imports.find_import.Goals as goal

pub returns : goal.returns
returns g c =
    let old = state g.S.Store c.args.conn.now in
    let new = state g.S.Store c.query_row.new.self in
    let rest = looks_up import_text _ old new import_selects import_is c.query_row.ensures.mode
    c.query_row.ensures.survives c.query_row.result c.query_row.ensures.row
    (λ clean has. find_import_fails old new c.args.book c.args.key.now c.query_row.result has
    (rw (
      c.params-to_sql.ensures,
      c.params-to_sql-2.ensures,
      to_z-of_z c.ranges.book,
    ) at (c.query_row.ensures.row clean))) in
    record {
      returns = λ xs clean has rows. finds_import old new c.args.book c.args.key.now xs
          c.query_row.result has rows
          (rw (
            c.params-to_sql.ensures,
            c.params-to_sql-2.ensures,
            to_z-of_z c.ranges.book,
          ) at (c.query_row.ensures.row clean));
      unchanged = rest.unchanged;
      fails_from_outside = rest.fails_from_outside;
      reads_only = rest.reads_only;
    }
