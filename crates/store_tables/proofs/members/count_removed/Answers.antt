use Rattle.std.proofs.Common.{rules, refl, ◌≡◌, Err, Ok}
use Rattle.std.proofs.Math.Facts.{to_z-of_z}
use Rattle.sqlite.specs.Held.{state}
use Rattle.store_tables.proofs.Lookups.{reads_row}
use Rattle.store_tables.proofs.Queries.{count_text, count_tests}
use Rattle.store_tables.proofs.Texts.{count_is, count_selects}
use Rattle.store_tables.proofs.CountLemmas.{count_fails_as, counts_removed, counts_then, some_count}
use Rattle.store_tables.proofs.QueryFailures.{count_removed_fails}
use Rattle.store_tables.proofs.members.count_removed.Goals as goal

pub returns : goal.returns
returns g c =
    let old = state g.S.Store c.args.conn.now in
    let new = state g.S.Store c.query_row.new.self in
    let query = reads_row count_text _ old new count_selects count_is c.query_row.ensures.mode
    c.query_row.ensures.survives (Ok c.in_ok-row.row) c.in_ok-row.ensures.row
    (λ clean has. count_removed_fails old new c.args.book c.args.horizon (Ok c.in_ok-row.row) has
    (rw (
      c.params-to_sql.ensures,
      c.params-to_sql-2.ensures,
      to_z-of_z c.ranges.book,
      to_z-of_z c.ranges.horizon,
    ) at (c.in_ok-row.ensures.row clean))) in
    let rest = counts_then old new c.in_ok-row.row c.count_in.result query
    (λ clean has. some_count count_text _ old new 4 count_tests _ count_is refl c.in_ok-row.row has
    (c.in_ok-row.ensures.row clean)) c.count_in.ensures.memory in
    record {
      returns = λ xs clean has rows. c.count_in.ensures.count _
          (counts_removed old new c.args.book c.args.horizon xs (Ok c.in_ok-row.row) has rows
          (rw (
            c.params-to_sql.ensures,
            c.params-to_sql-2.ensures,
            to_z-of_z c.ranges.book,
            to_z-of_z c.ranges.horizon,
          ) at (c.in_ok-row.ensures.row clean)));
      unchanged = rest.unchanged;
      fails_from_outside = rest.fails_from_outside;
      reads_only = rest.reads_only;
    }

pub returns-in_err-row : goal.returns-in_err-row
returns-in_err-row g c =
    let old = state g.S.Store c.args.conn.now in
    let new = state g.S.Store c.query_row.new.self in
    let said : c.from_residual.result ≡ Err c.in_err-row.field-0.0 = search rules in
    let query = reads_row count_text _ old new count_selects count_is c.query_row.ensures.mode
    c.query_row.ensures.survives (Err c.in_err-row.field-0.0) c.in_err-row.ensures.row
    (λ clean has. count_removed_fails old new c.args.book c.args.horizon (Err
    c.in_err-row.field-0.0) has
    (rw (
      c.params-to_sql.ensures,
      c.params-to_sql-2.ensures,
      to_z-of_z c.ranges.book,
      to_z-of_z c.ranges.horizon,
    ) at (c.in_err-row.ensures.row clean))) in
    let rest = count_fails_as old new c.in_err-row.field-0.0 c.from_residual.result query said in
    record {
      returns = λ xs clean has rows. rw said tt;
      unchanged = rest.unchanged;
      fails_from_outside = rest.fails_from_outside;
      reads_only = rest.reads_only;
    }
