use Rattle.std.proofs.Math.Facts.{to_z-of_z}
use Rattle.sqlite.specs.Held.{state}
use Rattle.store_tables.proofs.Lookups.{reads_rows}
use Rattle.store_tables.proofs.Queries.{members_text}
use Rattle.store_tables.proofs.Texts.{members_is, members_selects}
use Rattle.store_tables.proofs.DueLemmas.{members_in_order}
use Rattle.store_tables.proofs.QueryFailures.{members_of_fails}
use Rattle.store_tables.proofs.members.members_of.Goals as goal

pub returns : goal.returns
returns g c =
    let old = state g.S.Store c.args.conn.now in
    let new = state g.S.Store c.query_all.new.self in
    let rest = reads_rows members_text _ old new members_selects members_is c.query_all.ensures.mode
    c.query_all.ensures.survives c.query_all.result c.query_all.ensures.ok c.query_all.ensures.err
    (λ clean has. members_of_fails old new c.args.book c.query_all.result has
    (rw (
      c.params-to_sql.ensures,
      to_z-of_z c.ranges.book,
    ) at (c.query_all.ensures.err clean))) in
    record {
      returns = λ xs clean has rows. members_in_order old new c.args.book xs c.query_all.result has
          rows
          (rw (
            c.params-to_sql.ensures,
            to_z-of_z c.ranges.book,
          ) at (c.query_all.ensures.ok clean));
      unchanged = rest.unchanged;
      fails_from_outside = rest.fails_from_outside;
      reads_only = rest.reads_only;
    }
