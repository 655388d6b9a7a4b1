use Rattle.std.proofs.Common.{◌≡◌, Ok, refl, subst}
use Rattle.book_model.specs.BookQueries.{book_lines}
use Rattle.book_model.specs.Books.{Books}
use Rattle.book_model.specs.Bounds.{Bounds}
use Rattle.sqlite.specs.Held.{state}
use Rattle.sqlite.specs.Tree.{Trees}
use Rattle.book_store.specs.StoreViews.{ReadsStore, StoreView}
use Rattle.book_store.proofs.AnswerLemmas.{tested_reads_store}
use Rattle.book_store.proofs.CountLemmas.{still_counts}
use Rattle.book_store.proofs.StoreLemmas.{still_store}
use Rattle.book_store.proofs.calls.SqlStoreBookStore.books.Goals as goal

pub returns : goal.returns
returns g c =
    let old : StoreView _ = record { conn = c.self.inside.conn; limits = c.self.inside.limits } in
    let mid : StoreView _ = record {
      conn = c.lines_of_books-answer.new.conn;
      limits = c.self.inside.limits;
    } in
    let new : StoreView _ = record {
      conn = c.answer_if_open.new.conn;
      limits = c.self.inside.limits;
    } in
    let query = λ (limits : Bounds) (books : Books). Ok (book_lines books) in
    record {
      reads = subst (λ (v : StoreView _). ReadsStore g.S.Store (λ expected lines. lines.items
          ≡ expected) v new c.answer_if_open.result query) c.self.view_is
          (tested_reads_store g.S.Store (λ expected lines. lines.items ≡ expected) old mid new
          c.lines_of_books-answer.result c.answer_if_open.result query c.self.invariant.0
          (λ (trees : Trees) up may. g.met.S.Store.settled c.answer_if_open.new.conn.store trees
          up may) refl
          c.lines_of_books-answer.ensures.reads_only c.lines_of_books-answer.ensures.store_fault
          c.answer_if_open.ensures.reads_only c.answer_if_open.ensures.stands
          c.answer_if_open.ensures.opened c.lines_of_books-answer.ensures.answers);
    }

pub invariant_of-self : goal.invariant_of-self
invariant_of-self g c =
    let old = state g.S.Store c.self.inside.conn in
    let mid = state g.S.Store c.lines_of_books-answer.new.conn in
    let new = state g.S.Store c.answer_if_open.new.conn in
    let stored = still_store old mid c.self.inside.limits c.self.invariant.0
    c.lines_of_books-answer.ensures.reads_only in (
      still_store mid new c.self.inside.limits stored c.answer_if_open.ensures.reads_only,
      still_counts mid new c.self.inside.limits c.self.inside.counts stored
          c.answer_if_open.ensures.reads_only (still_counts old mid c.self.inside.limits
          c.self.inside.counts c.self.invariant.0 c.lines_of_books-answer.ensures.reads_only
          c.self.invariant.1),
    )
