-- What writing a member changes in the tables.
use Rattle.std.proofs.Common.{◌+◌, ℕ, pos, List, Option, refl, ap, ◌∙◌}
use Rattle.std.specs.FinMap as finite
use Rattle.sqlite.specs.State.{State}
use Rattle.book_model.specs.declared.change.Change.{Change}
use Rattle.book_model.specs.BookChanges.{book_with_row}
use Rattle.book_model.specs.Counting.{counts_after_change}
use Rattle.store_tables.specs.Books.{HasBooks, with_book_numbers}
use Rattle.store_tables.specs.SchemaCreation.{HoldsInTx}
use Rattle.store_tables.specs.Members.{PutsRow}
use Rattle.store_tables.specs.StatementEffects.{WritesOnly}
use Rattle.store_rows.specs.ChangeLaws.{IsRowOfChange}
use Rattle.store_rows.specs.TableBooks.{HeaderRow, line_row, numbers_row, row_book, books_of}
use Rattle.store_rows.specs.TableRows.{TableRows, put_rows, renumbered_rows}
use Rattle.store_rows.proofs.BookLemmas.{changes_one, naturals_row, renumbering_held}
use Rattle.store_rows.proofs.WriteLemmas.{put_held, put_is_row}
use Rattle.store_writes.specs.TableChanges.{HasBookRow, HoldsChange}
use Rattle.store_writes.proofs.ForgetLemmas.{writes_table}
use Rattle.store_writes.proofs.HeldLemmas.{row_remains}

module _ (old mid new : State) (rows : TableRows) (name : List ℕ) (header : HeaderRow) (uid :
    List ℕ) (text : Option (List ℕ)) (change : Change) where
  pub row_put : HasBookRow old.now rows name header → IsRowOfChange uid text change
      → PutsRow mid.now.trees (pos header.id) uid (pos (header.number + 1)) text rows.members
      → WritesOnly 4 old mid
      → HasBooks new (with_book_numbers (pos header.id) (numbers_row (header.number + 1)
      header.horizon (counts_after_change change header.counts)) rows.books)
      → WritesOnly 2 mid new
      → HoldsInTx new (λ db. HoldsChange db rows (pos header.id) (finite.insert (books_of rows) name
      (book_with_row (row_book rows (line_row name header)) uid change)))
  row_put line is put first books second =
      let one = put_held old.now mid.now rows (line_row name header) uid (pos (header.number + 1))
      text line.holds line.sound line.there is.legal refl is.canonical put
      (writes_table 4 old mid first) in
      let with_it = put_rows one.id (pos header.id) uid (pos (header.number + 1)) text rows in
      let numbers = numbers_row (header.number + 1) header.horizon
      (counts_after_change change header.counts) in
      let two = renumbering_held mid.now new.now with_it (pos header.id) numbers one.holds
      one.within.sound (naturals_row (header.number + 1) header.horizon
      (counts_after_change change header.counts)) books (writes_table 2 mid new second) in
      record {
        holds = record {
          rows_after = renumbered_rows (pos header.id) numbers with_it;
          holds = two.holds;
          sound = two.sound;
          books_are = changes_one rows with_it (line_row name header) numbers line.sound line.there
              one.within
              ∙ ap (finite.insert (books_of rows) name) (put_is_row rows name header one.id uid text
              change line.sound is.card);
          others = λ b there apart. (
            row_remains (pos header.id) numbers rows.books b there apart,
            one.within.others b apart,
          );
        };
        inside = second.inside;
      }
