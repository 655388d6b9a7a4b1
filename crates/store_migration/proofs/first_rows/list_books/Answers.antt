use Rattle.std.proofs.Common.{refl}
use Rattle.sqlite.specs.Held.{state}
use Rattle.store_tables.proofs.Queries.{books_terms}
use Rattle.store_migration.proofs.FirstFailures.{books_fail}
use Rattle.store_migration.proofs.FirstLemmas.{books_text, books_is, first_unchanged, lists_first}
use Rattle.store_migration.proofs.FirstLemmas.{reads_first}
use Rattle.store_migration.proofs.first_rows.list_books.Goals as goal

pub returns-clause-lists : goal.returns-clause-lists
returns-clause-lists g c clean has =
    lists_first books_text 2 books_terms _ books_is (state g.S.Store c.args.conn.now)
    (state g.S.Store c.query_all.new.self) (λ _. refl) c.query_all.result has
    (c.query_all.ensures.ok clean)

pub returns-clause-unchanged : goal.returns-clause-unchanged
returns-clause-unchanged g c clean has =
    first_unchanged books_text 2 books_terms _ books_is (state g.S.Store c.args.conn.now)
    (state g.S.Store c.query_all.new.self) c.query_all.result has (c.query_all.ensures.ok clean)

pub returns-clause-reads_only : goal.returns-clause-reads_only
returns-clause-reads_only g c = reads_first books_text 2 books_terms _ books_is
    (state g.S.Store c.args.conn.now) (state g.S.Store c.query_all.new.self) c.query_all.result
    c.query_all.ensures.ok c.query_all.ensures.err c.query_all.ensures.mode
    c.query_all.ensures.survives

pub returns-clause-fails_from_outside : goal.returns-clause-fails_from_outside
returns-clause-fails_from_outside g c clean has =
    books_fail (state g.S.Store c.args.conn.now) (state g.S.Store c.query_all.new.self)
    c.query_all.result has (c.query_all.ensures.err clean)
