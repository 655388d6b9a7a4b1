use Rattle.std.proofs.Common.{Ok}
use Rattle.sqlite.specs.Held.{state}
use Rattle.book_model.specs.Books.{Book}
use Rattle.store_tables.proofs.Lookups.{reads_then}
use Rattle.store_lookups.specs.CallResults.{IsExactly}
use Rattle.store_lookups.proofs.ReadLemmas.{returns_then}
use Rattle.store_queries.proofs.ResultLemmas.{found_returned}
use Rattle.store_queries.proofs.book_queries.keep_of_book.Goals as goal

pub returns-clause-answers : goal.returns-clause-answers
returns-clause-answers g c =
    returns_then IsExactly (λ (book : Book). Ok book.keep) c.args.name.now
    (state g.S.Store c.args.conn.now) (state g.S.Store c.find_header.new.conn)
    (state g.S.Store c.fetch_keep.new.conn) _ c.in_ok-header.header c.fetch_keep.result
    c.in_ok-header.ensures.finds c.in_ok-header.ensures.unchanged
    c.fetch_keep.ensures.reads_only.survives
    (λ rows clean holds sound name. found_returned _ c.fetch_keep.result
    (c.fetch_keep.ensures.keep rows clean holds sound name) c.fetch_keep.ensures.fault)

pub returns-clause-reads_only : goal.returns-clause-reads_only
returns-clause-reads_only g c =
    reads_then (state g.S.Store c.args.conn.now) (state g.S.Store c.find_header.new.conn)
    (state g.S.Store c.fetch_keep.new.conn) c.find_header.ensures.reads_only
    c.in_ok-header.ensures.unchanged c.fetch_keep.ensures.reads_only
