use Rattle.std.proofs.Common.{◌≡◌, Ok}
use Rattle.sqlite.specs.Held.{state}
use Rattle.base_types.specs.TextMaps.{octet_map}
use Rattle.book_model.specs.Books.{Book}
use Rattle.book_model.specs.BookQueries.{live_cards}
use Rattle.store_tables.proofs.Lookups.{reads_then}
use Rattle.store_lookups.proofs.ReadLemmas.{returns_then}
use Rattle.store_lookups.proofs.StoreFaultLemmas.{passed_cause, then_faults}
use Rattle.store_queries.proofs.list_queries.cards_of_book.Goals as goal

pub returns-clause-answers : goal.returns-clause-answers
returns-clause-answers g c =
    returns_then (λ wanted cards. octet_map cards ≡ wanted) (λ (book : Book). Ok (live_cards book))
    c.args.name.now (state g.S.Store c.args.conn.now) (state g.S.Store c.find_header.new.conn)
    (state g.S.Store c.cards_at.new.conn) _ c.in_ok-header.header c.cards_at.result
    c.in_ok-header.ensures.finds c.in_ok-header.ensures.unchanged
    c.cards_at.ensures.reads_only.survives c.cards_at.ensures.answers

pub returns-clause-reads_only : goal.returns-clause-reads_only
returns-clause-reads_only g c =
    reads_then (state g.S.Store c.args.conn.now) (state g.S.Store c.find_header.new.conn)
    (state g.S.Store c.cards_at.new.conn) c.find_header.ensures.reads_only
    c.in_ok-header.ensures.unchanged c.cards_at.ensures.reads_only

pub returns-in_err-header-clause-store_fault : goal.returns-in_err-header-clause-store_fault
returns-in_err-header-clause-store_fault g c rows clean holds faultless =
    passed_cause c.from_residual.result c.in_err-header.field-0.0 _ c.from_residual.ensures.1
    (c.in_err-header.ensures.store_fault rows clean holds faultless)

pub returns-clause-store_fault : goal.returns-clause-store_fault
returns-clause-store_fault g c =
    then_faults (state g.S.Store c.args.conn.now) (state g.S.Store c.find_header.new.conn)
    (state g.S.Store c.cards_at.new.conn) _ _ c.args.name.now c.in_ok-header.header
    c.cards_at.result c.find_header.ensures.reads_only.survives
    c.in_ok-header.ensures.unchanged c.in_ok-header.ensures.finds
    c.cards_at.ensures.reads_only.survives c.cards_at.ensures.store_fault
