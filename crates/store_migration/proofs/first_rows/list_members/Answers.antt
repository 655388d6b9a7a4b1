use Rattle.std.proofs.Common.{refl}
use Rattle.sqlite.specs.Held.{state}
use Rattle.store_tables.proofs.Queries.{all_members_text, all_members_terms}
use Rattle.store_migration.proofs.FirstFailures.{members_fail}
use Rattle.store_migration.proofs.FirstLemmas.{members_is, first_unchanged, lists_first}
use Rattle.store_migration.proofs.FirstLemmas.{reads_first}
use Rattle.store_migration.proofs.first_rows.list_members.Goals as goal

pub returns-clause-lists : goal.returns-clause-lists
returns-clause-lists g c clean has = lists_first all_members_text 4 all_members_terms _ members_is
    (state g.S.Store c.args.conn.now) (state g.S.Store c.query_all.new.self) (λ _. refl)
    c.query_all.result has (c.query_all.ensures.ok clean)

pub returns-clause-unchanged : goal.returns-clause-unchanged
returns-clause-unchanged g c clean has =
    first_unchanged all_members_text 4 all_members_terms _ members_is
    (state g.S.Store c.args.conn.now) (state g.S.Store c.query_all.new.self) c.query_all.result has
    (c.query_all.ensures.ok clean)

pub returns-clause-reads_only : goal.returns-clause-reads_only
returns-clause-reads_only g c = reads_first all_members_text 4 all_members_terms _ members_is
    (state g.S.Store c.args.conn.now) (state g.S.Store c.query_all.new.self) c.query_all.result
    c.query_all.ensures.ok c.query_all.ensures.err c.query_all.ensures.mode
    c.query_all.ensures.survives

pub returns-clause-fails_from_outside : goal.returns-clause-fails_from_outside
returns-clause-fails_from_outside g c clean has =
    members_fail (state g.S.Store c.args.conn.now) (state g.S.Store c.query_all.new.self)
    c.query_all.result has (c.query_all.ensures.err clean)
