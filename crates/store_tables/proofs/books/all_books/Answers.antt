use Rattle.sqlite.specs.Held.{state}
use Rattle.store_tables.proofs.Lookups.{reads_rows}
use Rattle.store_tables.proofs.Queries.{books_text}
use Rattle.store_tables.proofs.Texts.{books_is, books_selects}
use Rattle.store_tables.proofs.ListLemmas.{books_in_order, books_listed}
use Rattle.store_tables.proofs.QueryFailures.{all_books_fails}
use Rattle.store_tables.proofs.books.all_books.Goals as goal

pub returns-clause-reads : goal.returns-clause-reads
returns-clause-reads g c =
    let old = state g.S.Store c.args.conn.now in
    let new = state g.S.Store c.query_all.new.self in
    let rest = reads_rows books_text _ old new books_selects books_is c.query_all.ensures.mode
    c.query_all.ensures.survives c.query_all.result c.query_all.ensures.ok c.query_all.ensures.err
    (λ clean has. all_books_fails old new c.query_all.result has
    (c.query_all.ensures.err clean)) in
    record {
      returns = λ bs clean has rows. books_in_order old new bs c.query_all.result has rows
          (c.query_all.ensures.ok clean);
      unchanged = rest.unchanged;
      fails_from_outside = rest.fails_from_outside;
      reads_only = rest.reads_only;
    }

pub returns-clause-lists : goal.returns-clause-lists
returns-clause-lists g c clean has =
    books_listed (state g.S.Store c.args.conn.now) (state g.S.Store c.query_all.new.self)
    c.query_all.result has (c.query_all.ensures.ok clean)
