-- The rows of one book, statement by statement, before its own row is written.
use Rattle.std.proofs.Common.{◌≡◌, ◌+◌, ℕ, ℤ, pos, Bool, true, false, List, [], ◌∷◌, filter, find}
use Rattle.std.proofs.Common.{Option, None, refl, sym, ap, subst, ◌∙◌}
use Rattle.std.specs.Option.{option_map}
use Rattle.std.specs.FinMap as finite
use Rattle.sqlite.specs.Effect.{Database}
use Rattle.sqlite.specs.State.{State, KeepsCommit}
use Rattle.sqlite_rules.specs.Lists.{Has}
use Rattle.book_model.specs.declared.answers.ImportTally.{ImportTally}
use Rattle.book_model.specs.declared.change.Change.{Change}
use Rattle.book_model.specs.Books.{Book}
use Rattle.book_model.specs.BookChanges.{book_with_row}
use Rattle.book_model.specs.Importing.{book_with_kept_import}
use Rattle.store_tables.specs.Books.{HasBooks, with_book_numbers}
use Rattle.store_tables.specs.Imports.{ImportRow, AddsImport, has_key}
use Rattle.store_tables.specs.SchemaCreation.{HoldsInTx}
use Rattle.store_tables.specs.Members.{PutsRow}
use Rattle.store_tables.specs.StatementEffects.{WritesOnly}
use Rattle.store_rows.specs.AddLaws.{import_tally_row}
use Rattle.store_rows.specs.ChangeLaws.{IsRowOfChange, WritesWithin, header_after}
use Rattle.store_rows.specs.TableBooks.{HeaderRow, row_book, books_of, line_row, numbers_row}
use Rattle.store_rows.specs.TableBooks.{row_tally}
use Rattle.store_rows.specs.TableRows.{TableRows, HoldsRows, put_rows, import_rows, renumbered_rows}
use Rattle.store_rows.proofs.AddedLemmas.{import_added, import_kept}
use Rattle.store_rows.proofs.BookLemmas.{changes_one, naturals_row, renumbering_held}
use Rattle.store_rows.proofs.HeldRows.{books_held}
use Rattle.store_rows.proofs.RowLemmas.{get-imports_in}
use Rattle.store_rows.proofs.WriteLemmas.{go_on, no_write, put_held, put_is_row}
use Rattle.store_writes.specs.TableChanges.{HasBookRow, HoldsBooks}
use Rattle.store_inserts.specs.internal.Importing.{IsImportKeyFree, WritesBook}
use Rattle.store_writes.proofs.ForgetLemmas.{writes_table}

-- before anything is written
pub unwritten_book : (db : Database) (rows : TableRows) (name : List ℕ) (header : HeaderRow)
    → HasBookRow db rows name header → WritesBook db rows name header
    (row_book rows (line_row name header))
unwritten_book db rows name header line = record {
  line = header;
  there = line.there;
  same_id = refl;
  sound = line.sound;
  now = rows;
  holds = line.holds;
  within = no_write (pos header.id) rows line.sound;
  is = refl;
}

-- its own row is unchanged
pub row_remains : (rows now : TableRows) (name : List ℕ) (line : HeaderRow) → now.books ≡ rows.books
    → Has rows.books (line_row name line) → Has now.books (line_row name line)
row_remains rows now name line same there =
    subst (λ bs. Has bs (line_row name line)) (sym same) there

-- a member was written
module _ (old new : State) (rows : TableRows) (name : List ℕ) (header : HeaderRow) (book : Book)
    (uid : List ℕ) (text : Option (List ℕ)) (change : Change) (wrote : WritesBook old.now rows name
    header book) where
  pub put_wrote : IsRowOfChange uid text change
      → PutsRow new.now.trees (pos header.id) uid (pos (header.number + 1)) text wrote.now.members
      → WritesOnly 4 old new
      → HoldsInTx new (λ db. WritesBook db rows name (header_after change header)
      (book_with_row book uid change))
  put_wrote is put writes =
      let same = ap pos wrote.same_id in
      let there = row_remains rows wrote.now name wrote.line wrote.within.books wrote.there in
      let one = put_held old.now new.now wrote.now (line_row name wrote.line) uid
      (pos (header.number + 1)) text wrote.holds wrote.within.sound there is.legal refl
      is.canonical
      (subst (λ z. PutsRow new.now.trees z uid (pos (header.number + 1)) text wrote.now.members)
      (sym same) put) (writes_table 4 old new writes) in
      let made = λ (z : ℤ). put_rows one.id z uid (pos (header.number + 1)) text wrote.now in
      let holds : HoldsRows new.now (made (pos header.id)) =
      subst (λ z. HoldsRows new.now (made z)) same one.holds in
      let within : WritesWithin (pos header.id) wrote.now (made (pos header.id)) =
      subst (λ z. WritesWithin z wrote.now (made z)) same one.within in
      record {
        holds = record {
          line = wrote.line;
          there = wrote.there;
          same_id = wrote.same_id;
          sound = wrote.sound;
          now = made (pos header.id);
          holds = holds;
          within = go_on (pos header.id) rows wrote.now (made (pos header.id)) wrote.within within;
          is = put_is_row wrote.now name header one.id uid text change wrote.within.sound is.card
              ∙ ap (λ b. book_with_row b uid change) wrote.is;
        };
        inside = writes.inside;
      }

-- no row has a key that no kept answer has
pub found_none : (test : ImportRow → Bool) (imports : List ImportRow)
    → option_map row_tally (find test imports) ≡ None → filter test imports ≡ []
found_none test [] none = refl
found_none test (row ∷ rows) none = by (test row) refl (found_none test rows)
  where
    by : (b : Bool) → test row ≡ b → (option_map row_tally (find test rows) ≡ None
        → filter test rows ≡ []) → filter test (row ∷ rows) ≡ []
    by true is rest = absurd (let bad = rw is at none in cc)
    by false is rest = rw is (rest (rw is at none))

key_free : (now : TableRows) (name : List ℕ) (header : HeaderRow) (book : Book) (key : List ℕ)
    → row_book now (line_row name header) ≡ book → IsImportKeyFree book key
    → filter (has_key (pos header.id) key) now.imports ≡ []
key_free now name header book key is free =
    found_none (has_key (pos header.id) key) now.imports
    (sym (get-imports_in (pos header.id) now.imports key)
    ∙ ap (λ (b : Book). finite.get b.imports key) is ∙ free)

-- the answer of an import was written
module _ (old new : State) (rows : TableRows) (name : List ℕ) (header : HeaderRow) (book : Book)
    (key : List ℕ) (tally : ImportTally) (wrote : WritesBook old.now rows name header book) where
  pub kept_wrote : IsImportKeyFree book key → AddsImport new (pos header.id) key (pos tally.added)
      (pos tally.edited) (pos tally.same) (pos tally.number) wrote.now.imports
      → WritesOnly 7 old new
      → HoldsInTx new (λ db. WritesBook db rows name header (book_with_kept_import book key tally))
  kept_wrote free kept writes =
      let same = ap pos wrote.same_id in
      let there = row_remains rows wrote.now name wrote.line wrote.within.books wrote.there in
      let row = import_tally_row kept.0 header.id key tally in
      let one = import_added old.now new.now wrote.now (line_row name wrote.line) row wrote.holds
      wrote.within.sound there (sym same) (record {
        added = refl;
        edited = refl;
        same = refl;
        number = refl;
      }) (key_free wrote.now name header book key wrote.is free) kept.1
      (writes_table 7 old new writes) in
      record {
        holds = record {
          line = wrote.line;
          there = wrote.there;
          same_id = wrote.same_id;
          sound = wrote.sound;
          now = import_rows row wrote.now;
          holds = one.holds;
          within = go_on (pos header.id) rows wrote.now (import_rows row wrote.now) wrote.within
              one.within;
          is = import_kept wrote.now name header kept.0 key tally
              ∙ ap (λ b. book_with_kept_import b key tally) wrote.is;
        };
        inside = writes.inside;
      }

  -- the same, of integers that are these numbers
  pub kept_as : (b a e s n : ℤ) → b ≡ pos header.id → a ≡ pos tally.added → e ≡ pos tally.edited
      → s ≡ pos tally.same → n ≡ pos tally.number → IsImportKeyFree book key
      → AddsImport new b key a e s n wrote.now.imports → WritesOnly 7 old new
      → HoldsInTx new (λ db. WritesBook db rows name header (book_with_kept_import book key tally))
  kept_as b a e s n p q r t u free kept writes = kept_wrote free
      (subst (λ z. AddsImport new (pos header.id) key (pos tally.added) (pos tally.edited)
      (pos tally.same) z wrote.now.imports) u
      (subst (λ z. AddsImport new (pos header.id) key (pos tally.added) (pos tally.edited) z n
      wrote.now.imports) t
      (subst (λ z. AddsImport new (pos header.id) key (pos tally.added) z s n wrote.now.imports) r
      (subst (λ z. AddsImport new (pos header.id) key z e s n wrote.now.imports) q
      (subst (λ z. AddsImport new z key a e s n wrote.now.imports) p kept))))) writes

-- its own row was written
module _ (old new : State) (rows : TableRows) (name : List ℕ) (header : HeaderRow) (book : Book)
    (wrote : WritesBook old.now rows name header book) where
  pub line_wrote : HasBooks new (with_book_numbers (pos header.id)
      (numbers_row header.number header.horizon header.counts) wrote.now.books)
      → WritesOnly 2 old new
      → HoldsInTx new (λ db. HoldsBooks db (finite.insert (books_of rows) name book))
  line_wrote books writes =
      let numbers = numbers_row header.number header.horizon header.counts in
      let two = renumbering_held old.now new.now wrote.now (pos header.id) numbers wrote.holds
      wrote.within.sound (naturals_row header.number header.horizon header.counts) books
      (writes_table 2 old new writes) in
      let one : books_of (renumbered_rows (pos header.id) numbers wrote.now)
      ≡ finite.insert (books_of rows) name (row_book wrote.now (line_row name header)) =
      subst (λ z. WritesWithin (pos z) rows wrote.now
      → books_of (renumbered_rows (pos z) numbers wrote.now) ≡ finite.insert (books_of rows)
      name (row_book wrote.now (line_row name (record header { id = z })))) wrote.same_id
      (λ within. changes_one rows wrote.now (line_row name wrote.line) numbers wrote.sound
      wrote.there within) wrote.within in
      record {
        holds = record {
          sound = record {
            rows = renumbered_rows (pos header.id) numbers wrote.now;
            holds = two.holds;
            sound = two.sound;
          };
          books_are = books_held new.now (renumbered_rows (pos header.id) numbers wrote.now)
              two.holds two.sound ∙ one ∙ ap (finite.insert (books_of rows) name) wrote.is;
        };
        inside = writes.inside;
      }

-- ---- commits that are kept

pub keeps_commit_then : (a b c : State) → KeepsCommit a b → KeepsCommit b c → KeepsCommit a c
keeps_commit_then a b c first second =
    record {
      was_open = λ up. first.was_open (second.was_open up);
      committed = λ up. second.committed up ∙ first.committed (second.was_open up);
    }
