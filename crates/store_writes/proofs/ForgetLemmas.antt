-- What forgetting the tombstones of a book writes.
use Rattle.std.proofs.Common.{◌≡◌, ◌≤◌, arith, ℕ, pos, true, false, IsTrue, List, Result, Ok, Err}
use Rattle.std.proofs.Common.{IfErr, refl, ap, ◌∙◌}
use Rattle.std.specs.FinMap as finite
use Rattle.sqlite.specs.Effect.{Database}
use Rattle.sqlite.specs.Effect.{Database}
use Rattle.sqlite.specs.State.{State}
use Rattle.book_model.specs.declared.denied.Denied.{Denied}
use Rattle.book_model.specs.declared.denied.Denied.TheVariants.{Refused}
use Rattle.book_model.specs.declared.refusal.Refusal.{Refusal}
use Rattle.book_model.specs.declared.refusal.Refusal.TheVariants.{BadForget}
use Rattle.book_model.specs.Books.{Book, Books}
use Rattle.book_model.specs.Forgetting.{book_after_forget, dropped_row_count, may_forget}
use Rattle.book_model.specs.CallOutcomes.{MatchesStep, ◌>>=◌, refuse_unless}
use Rattle.store_tables.specs.Books.{HasBooks, with_book_numbers}
use Rattle.store_tables.specs.SchemaCreation.{HoldsInTx}
use Rattle.store_tables.specs.Members.{HasMembers, without_removed}
use Rattle.store_tables.specs.StatementEffects.{KeepsOtherTables, WritesOnly}
use Rattle.sqlite.specs.Tree.{Trees}
use Rattle.store_rows.specs.TableBooks.{HeaderRow, line_row, numbers_row, row_book, books_of}
use Rattle.store_rows.specs.TableBooks.{books_in}
use Rattle.store_rows.specs.TableRows.{TableRows, WritesTable, forgotten_rows, renumbered_rows}
use Rattle.store_rows.proofs.BookLemmas.{changes_one, naturals_row, renumbering_held}
use Rattle.store_rows.proofs.HeldRows.{books_held}
use Rattle.store_rows.proofs.RemovedLemmas.{forgetting_forgets, forgetting_held}
use Rattle.store_lookups.specs.Faults.{IsDeniedFault}
use Rattle.store_writes.specs.TableChanges.{HasBookRow, HoldBooksAfter, HoldsBooks, IsAtomic}
use Rattle.store_writes.specs.TableChanges.{TreesHold}
use Rattle.store_lookups.specs.StoredBooks.{stored_books}
use Rattle.store_writes.proofs.CallLemmas.{fault_does}

pub writes_table : (tree : ℕ) (old new : State) → WritesOnly tree old new
    → WritesTable tree old.now new.now
writes_table tree old new w = record {
  schema = w.schema;
  obeys = w.obeys;
  other_tables = w.other_tables;
}

pub spares_books : (old new : Trees) → KeepsOtherTables 4 old new → new 2 ≡ old 2
spares_books old new h = h.1.0 (λ e. cc)

-- a write of the table `book` leaves the members unchanged
pub spares_members : (old new : Trees) → KeepsOtherTables 2 old new → new 4 ≡ old 4
spares_members old new h = h.1.1.0 (λ e. cc)

module _ (old mid new : State) (rows : TableRows) (name : List ℕ) (header : HeaderRow) (upto : ℕ)
  where
    pub rows_forgotten : HasBookRow old.now rows name header
        → HasMembers mid (without_removed (pos header.id) (pos upto) rows.members)
        → WritesOnly 4 old mid
        → HasBooks new (with_book_numbers (pos header.id) (numbers_row header.number upto
        header.counts) rows.books) → WritesOnly 2 mid new
        → HoldsInTx new (λ db. HoldsBooks db (finite.insert (books_of rows) name
        (book_after_forget (row_book rows (line_row name header)) upto)))
    rows_forgotten line members first books second =
        let left = forgotten_rows (pos header.id) (pos upto) rows in
        let numbers = numbers_row header.number upto header.counts in
        let one = forgetting_held old.now mid.now rows (line_row name header) upto line.holds
        line.sound members (writes_table 4 old mid first) in
        let two = renumbering_held mid.now new.now left (pos header.id) numbers one.holds
        one.within.sound (naturals_row header.number upto header.counts) books
        (writes_table 2 mid new second) in
        record {
          holds = record {
            sound = record {
              rows = renumbered_rows (pos header.id) numbers left;
              holds = two.holds;
              sound = two.sound;
            };
            books_are = books_held new.now (renumbered_rows (pos header.id) numbers left) two.holds
                two.sound
                ∙ changes_one rows left (line_row name header) numbers line.sound line.there
                one.within
                ∙ ap (finite.insert (books_of rows) name) (forgetting_forgets rows name header upto
                line.sound);
          };
          inside = second.inside;
        }

-- ---- the step of the book

abbrev pub forget_of : Books → List ℕ → ℕ → Book → Result (ℕ × Books) Refusal
forget_of books name upto book = refuse_unless (may_forget book.horizon book.number upto) BadForget
    >>= λ _. Ok (
      dropped_row_count book.members upto,
      finite.insert books name (book_after_forget book upto),
    )

abbrev pub ForgetsRows : List ℕ → HeaderRow → ℕ → TableRows → ℕ → Database → Type 0
ForgetsRows name header upto rows count db =
    (count ≡ dropped_row_count (row_book rows (line_row name header)).members upto)
    × HoldsBooks db (finite.insert (books_of rows) name
    (book_after_forget (row_book rows (line_row name header)) upto))

pub refused_forget : (books : Books) (name : List ℕ) (upto : ℕ) (book : Book) (old new : Books)
    → may_forget book.horizon book.number upto ≡ false → new ≡ old
    → MatchesStep (Err (Refused BadForget)) (forget_of books name upto book) old new
refused_forget books name upto book old new denied same = rw denied (refl, same)

pub forget_does : (rows : TableRows) (name : List ℕ) (header : HeaderRow) (upto : ℕ) (old new :
    State) (r : Result ℕ Denied) → may_forget header.horizon header.number upto ≡ true
    → IfErr r IsDeniedFault → IsAtomic old new r (ForgetsRows name header upto rows)
    → IsTrue new.is_open
    → MatchesStep r (forget_of (books_of rows) name upto (row_book rows (line_row name header)))
    (stored_books old) (stored_books new)
forget_does rows name header upto old new (Ok count) may fault done up =
    rw may (done.0.0, done.0.1.books_are)
forget_does rows name header upto old new (Err denied) may fault done up =
    fault_does _ denied _ _ fault (ap (λ (d : Database). books_in d.trees) (done up).0)

pub forget_holds : (rows : TableRows) (name : List ℕ) (header : HeaderRow) (upto : ℕ) (db : Trees)
    → may_forget header.horizon header.number upto ≡ true
    → TreesHold (finite.insert (books_of rows) name
    (book_after_forget (row_book rows (line_row name header)) upto)) db
    → HoldBooksAfter (forget_of (books_of rows) name upto (row_book rows (line_row name header))) db
forget_holds rows name header upto db may made = rw may made

pub forgets_known : (horizon number upto : ℕ) → may_forget horizon number upto ≡ true
    → upto ≤ number
forgets_known horizon number upto may = grind arith

pub forgets_later : (horizon number upto : ℕ) → may_forget horizon number upto ≡ true
    → horizon ≤ upto
forgets_later horizon number upto may = grind arith
