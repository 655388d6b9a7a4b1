-- The tombstones of each book, counted while its members were read.
use Rattle.std.proofs.Common.{◌≡◌, inl, inr, ℕ, List, [], ◌∷◌, map, Some, refl, sym, ap, ap₂, subst}
use Rattle.std.proofs.Common.{◌∙◌}
use Rattle.std.specs.FinMap as finite
use Rattle.sqlite.specs.Effect.{Database}
use Rattle.sqlite.specs.Order.{Row}
use Rattle.sqlite_rules.specs.Lists.{Has}
use Rattle.book_model.specs.Books.{Book}
use Rattle.book_model.specs.BookQueries.{tombstone_count}
use Rattle.book_model.specs.Bounds.{Bounds}
use Rattle.store_tables.specs.Books.{BookRow}
use Rattle.store_tables.proofs.KeyedRows.{all_has}
use Rattle.store_rows.specs.SoundTables.{AreSoundRows, AreReadable, IsReadableBook}
use Rattle.store_rows.specs.TableBooks.{books_in, books_of, row_book}
use Rattle.store_rows.specs.TableRows.{HoldsRows, TableRows, load_member}
use Rattle.store_rows.proofs.HeldRows.{books_held}
use Rattle.store_check.specs.declared.counts.TombstoneCount.{TombstoneCount}
use Rattle.store_check.specs.RowChecks.{AreWellStored, decode_book, decode_rows}
use Rattle.store_check.specs.TombstoneCounts.{AreTombstoneCounts, IsCountOf, count_entry}
use Rattle.store_check.specs.TombstoneCounts.{removed_entry}
use Rattle.store_check.proofs.GetLemmas.{give_book, got_book}
use Rattle.store_check.proofs.ListLemmas.{all_from_has}
use Rattle.store_check.proofs.WellLemmas.{remembered_is}

-- ---- items of a list under a function

pub there_mapped : {X Y : Type 0} (f : X → Y) (xs : List X) (x : X) → Has xs x
    → Has (map f xs) (f x)
there_mapped f [] x h = absurd h
there_mapped f (y ∷ ys) x (inl h) = inl (ap f h)
there_mapped f (y ∷ ys) x (inr h) = inr (there_mapped f ys x h)

mapped_from : {X Y : Type 0} (f : X → Y) (xs : List X) (y : Y) → Has (map f xs) y → (x : X)
    × Has xs x × (y ≡ f x)
mapped_from f [] y h = absurd h
mapped_from f (x ∷ xs) y (inl h) = (x, inl refl, h)
mapped_from f (x ∷ xs) y (inr h) = let it = mapped_from f xs y h in (it.0, inr it.1, it.2)

-- ---- the counts are those of the books

module _ (rows : TableRows) (sound : AreSoundRows rows) (readable : AreReadable rows) (counts :
    List TombstoneCount) (counted : map count_entry counts ≡ map (removed_entry rows.members)
    rows.books) where
  entry_is : (b : BookRow) → Has rows.books b → removed_entry rows.members b ≡ (
    b.name,
    tombstone_count (row_book rows b),
  )
  entry_is b there = ap (λ n. (b.name, n))
      (sym (remembered_is rows b sound (all_has IsReadableBook rows.books b readable.books
      there).numbers.horizon))

  count_of : (c : TombstoneCount) → Has counts c → IsCountOf (books_of rows) c
  count_of c there =
      let it = mapped_from (removed_entry rows.members) rows.books (count_entry c)
      (subst (λ l. Has l (count_entry c)) counted (there_mapped count_entry counts c there)) in
      let same : count_entry c ≡ (it.0.name, tombstone_count (row_book rows it.0)) =
      it.2 ∙ entry_is it.0 it.1 in
      record {
        book = row_book rows it.0;
        listed = ap (finite.get (books_of rows)) (ap (λ e. e.0) same)
            ∙ give_book rows it.0 sound it.1;
        counted = sym (ap (λ e. e.1) same);
      }

  book_counted : (name : List ℕ) (book : Book) → finite.get (books_of rows) name ≡ Some book
      → Has (map count_entry counts) (name, tombstone_count book)
  book_counted name book found =
      let it = got_book rows name book found in
      let same : removed_entry rows.members it.row ≡ (name, tombstone_count book) =
      entry_is it.row it.there ∙ ap₂ (λ n b. (n, tombstone_count b)) it.name_is (sym it.is) in
      subst (λ l. Has l (name, tombstone_count book)) (sym counted)
      (subst (Has (map (removed_entry rows.members) rows.books)) same
      (there_mapped (removed_entry rows.members) rows.books it.row it.there))

  pub counts_of_rows : AreTombstoneCounts (books_of rows) counts
  counts_of_rows = record {
    each_count = all_from_has (IsCountOf (books_of rows)) counts count_of;
    each_book = book_counted;
  }

-- the same, of the tables that hold the rows
pub counts_held : (limits : Bounds) (db : Database) (books members imports keeps : List Row)
    (counts : List TombstoneCount) → HoldsRows db (decode_rows books members imports keeps)
    → AreWellStored limits books members imports keeps
    → map count_entry counts ≡ map (removed_entry (map load_member members))
    (map decode_book books) → AreTombstoneCounts (books_in db.trees) counts
counts_held limits db books members imports keeps counts holds w counted =
    let rows = decode_rows books members imports keeps in
    let sound = w.well_formed.sound in
    subst (λ bs. AreTombstoneCounts bs counts) (sym (books_held db rows holds sound))
    (counts_of_rows rows sound w.well_formed.sound.readable counts counted)
