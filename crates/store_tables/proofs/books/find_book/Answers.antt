use Rattle.sqlite.specs.Held.{state}
use Rattle.store_tables.proofs.Lookups.{looks_up}
use Rattle.store_tables.proofs.Queries.{book_text}
use Rattle.store_tables.proofs.Texts.{book_is, book_selects}
use Rattle.store_tables.proofs.FindLemmas.{finds_book}
use Rattle.store_tables.proofs.QueryFailures.{find_book_fails}
use Rattle.store_tables.proofs.books.find_book.Goals as goal

pub returns : goal.returns
returns g c =
    let old = state g.S.Store c.args.conn.now in
    let new = state g.S.Store c.query_row.new.self in
    let rest = looks_up book_text _ old new book_selects book_is c.query_row.ensures.mode
    c.query_row.ensures.survives c.query_row.result c.query_row.ensures.row
    (λ clean has. find_book_fails old new c.args.name.now c.query_row.result has
    (rw (c.params-to_sql.ensures) at (c.query_row.ensures.row clean))) in
    record {
      returns = λ xs clean has rows. finds_book old new c.args.name.now xs c.query_row.result has
          rows
          (rw (c.params-to_sql.ensures) at (c.query_row.ensures.row clean));
      unchanged = rest.unchanged;
      fails_from_outside = rest.fails_from_outside;
      reads_only = rest.reads_only;
    }
