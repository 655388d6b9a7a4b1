use Rattle.std.proofs.Common.{rules, refl, ◌≡◌, Err, Ok, []}
use Rattle.sqlite.specs.Held.{state}
use Rattle.store_tables.proofs.Lookups.{reads_row}
use Rattle.store_tables.proofs.Queries.{books_count_text}
use Rattle.store_tables.proofs.Texts.{books_count_is, books_count_selects}
use Rattle.store_tables.proofs.CountLemmas.{count_fails_as, counts_books, counts_then, some_count}
use Rattle.store_tables.proofs.QueryFailures.{count_books_fails}
use Rattle.store_tables.proofs.books.count_books.Goals as goal

pub returns : goal.returns
returns g c =
    let old = state g.S.Store c.args.conn.now in
    let new = state g.S.Store c.query_row.new.self in
    let query = reads_row books_count_text _ old new books_count_selects books_count_is
    c.query_row.ensures.mode
    c.query_row.ensures.survives (Ok c.in_ok-row.row) c.in_ok-row.ensures.row
    (λ clean has. count_books_fails old new (Ok c.in_ok-row.row) has
    (c.in_ok-row.ensures.row clean)) in
    let rest = counts_then old new c.in_ok-row.row c.count_in.result query
    (λ clean has. some_count books_count_text _ old new 2 [] _ books_count_is refl c.in_ok-row.row
    has
    (c.in_ok-row.ensures.row clean)) c.count_in.ensures.memory in
    record {
      returns = λ xs clean has rows. c.count_in.ensures.count _
          (counts_books old new xs (Ok c.in_ok-row.row) has rows
          (c.in_ok-row.ensures.row clean));
      unchanged = rest.unchanged;
      fails_from_outside = rest.fails_from_outside;
      reads_only = rest.reads_only;
    }

pub returns-in_err-row : goal.returns-in_err-row
returns-in_err-row g c =
    let old = state g.S.Store c.args.conn.now in
    let new = state g.S.Store c.query_row.new.self in
    let said : c.from_residual.result ≡ Err c.in_err-row.field-0.0 = search rules in
    let query = reads_row books_count_text _ old new books_count_selects books_count_is
    c.query_row.ensures.mode
    c.query_row.ensures.survives (Err c.in_err-row.field-0.0) c.in_err-row.ensures.row
    (λ clean has. count_books_fails old new (Err c.in_err-row.field-0.0) has
    (c.in_err-row.ensures.row clean)) in
    let rest = count_fails_as old new c.in_err-row.field-0.0 c.from_residual.result query said in
    record {
      returns = λ xs clean has rows. rw said tt;
      unchanged = rest.unchanged;
      fails_from_outside = rest.fails_from_outside;
      reads_only = rest.reads_only;
    }
