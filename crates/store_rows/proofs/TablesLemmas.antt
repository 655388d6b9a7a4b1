-- The tables of well-formed books are computed from the books. Given here: inductions over lists of
-- items, by which some pass (`all_passing`, `flat_map_each`); and for each table, which columns of
-- an item are those of its book's entry.
use Rattle.std.proofs.Common.{◌≡◌, inl, inr, ℕ, ℤ, pos, Bool, true, false, ◌||◌, ◌≤◌, List, [], ◌∷◌}
use Rattle.std.proofs.Common.{◌++◌, drop, map, filter, find, flat_map, Option, Some, None, int_eq}
use Rattle.std.proofs.Common.{IfSome, IsPermutation, refl, sym, ap, ap₂, subst, ◌∙◌, arith}
use Rattle.std.specs.FinMap as finite
use Rattle.std.specs.List.{AllByRecursion, list_any}
use Rattle.std.specs.Option.{option_map, option_map_or}
use Rattle.std.proofs.lemmas.List.Concat.{flat_map_single}
use Rattle.std.proofs.lemmas.List.Sorted.{IsPermutation-append, IsPermutation-append_right}
use Rattle.std.proofs.lemmas.List.Sorted.{IsPermutation-cons, IsPermutation-map}
use Rattle.std.proofs.lemmas.List.Sorted.{IsPermutation-middle, IsPermutation-refl}
use Rattle.std.proofs.lemmas.List.Sorted.{IsPermutation-sym, IsPermutation-trans}
use Rattle.sqlite.specs.declared.types.Value.TheVariants.{Int, Text}
use Rattle.sqlite.specs.Effect.{Database}
use Rattle.sqlite.specs.Order.{Row, column}
use Rattle.sqlite.specs.Values.{or_null}
use Rattle.sqlite_rules.specs.Edit.{id_in}
use Rattle.sqlite_rules.specs.Lists.{Has}
use Rattle.sqlite_trees.specs.Tree.{IsAscending}
use Rattle.sqlite_trees.proofs.ListLemmas.{all-map, all-permutation, all_weaker, ascending-map}
use Rattle.sqlite_trees.proofs.ListLemmas.{ascending_weaker, flat_map-map, flat_map_none}
use Rattle.sqlite_trees.proofs.ListLemmas.{map-flat_map, map-map, IsPermutation-flat_map}
use Rattle.sqlite_trees.proofs.ListLemmas.{IsPermutation-same}
use Rattle.vcard_text.specs.Cards.{canonical_text}
use Rattle.book_model.specs.Books.{Book}
use Rattle.book_model.proofs.BasicLemmas.{same_Some_at}
use Rattle.book_model.specs.Bounds.{Bounds}
use Rattle.store_tables.specs.Books.{BookRow, AreBooks, book_cells, book_row, has_id}
use Rattle.store_tables.specs.Imports.{ImportRow, import_cells, import_row}
use Rattle.store_tables.specs.Keeps.{KeepRow, is_keep_of, keep_cells, keep_row}
use Rattle.store_tables.specs.Members.{MemberRow, is_in_book, member_cells, member_row}
use Rattle.store_tables.proofs.KeyedRows.{all_has, same_int}
use Rattle.store_rows.specs.Values.{IsCanonical, IsNatural, lines_or_none, natural, text_card}
use Rattle.store_rows.specs.TableRows.{TableRows, HoldsRows}
use Rattle.store_rows.specs.TableBooks.{book_entry, books_of, imports_in, keep_of_book}
use Rattle.store_rows.specs.TableBooks.{member_entry, members_in, model_row, row_book, row_tally}
use Rattle.store_rows.specs.TableBooks.{import_entry}
use Rattle.store_rows.specs.SoundTables.{AreSoundRows, AreWellFormed, HasBookId, IsReadableBook}
use Rattle.store_rows.specs.SoundTables.{IsReadableImport, IsReadableKeep, IsReadableMember}
use Rattle.store_rows.specs.TablesOfBooks.{AreTablesOf, AreUnderIds, TablesAreOfBooks, stored_book}
use Rattle.store_rows.specs.TablesOfBooks.{stored_import, stored_imports, stored_keep}
use Rattle.store_rows.specs.TablesOfBooks.{stored_member, stored_members}
use Rattle.store_rows.proofs.ApartLemmas.{apart_moved}
use Rattle.store_rows.proofs.BookLemmas.{book_at}
use Rattle.store_rows.proofs.HeldRows.{books_held}
use Rattle.store_rows.proofs.KeyedEntries.{Single, entries_are, found_has}
use Rattle.store_rows.proofs.RowLemmas.{each_book, every, books_map, get-books_of, import_of}
use Rattle.store_rows.proofs.RowLemmas.{int_turned, key_of, name_of, once_books, once_imports}
use Rattle.store_rows.proofs.RowLemmas.{once_members, single_keep, uid_of_row}

-- ---- lists

map_all : {X Y : Type 0} (f g : X → Y) (xs : List X) → AllByRecursion (λ x. f x ≡ g x) xs
    → map f xs ≡ map g xs
map_all f g [] h = refl
map_all f g (x ∷ xs) h = ap₂ (λ a l. a ∷ l) h.0 (map_all f g xs h.1)

all_of : {X : Type 0} (P : X → Type 0) → ((x : X) → P x) → (xs : List X) → AllByRecursion P xs
all_of P f [] = tt
all_of P f (x ∷ xs) = (f x, all_of P f xs)

-- what holds of all holds of those that pass, and these pass
all_passing : {X : Type 0} (P : X → Type 0) (p : X → Bool) (xs : List X) → AllByRecursion P xs
    → AllByRecursion (λ x. P x × (p x ≡ true)) (filter p xs)
all_passing P p [] h = tt
all_passing P p (x ∷ xs) h = step (p x) refl (all_passing P p xs h.1)
  where
    step : (b : Bool) → p x ≡ b → AllByRecursion (λ x. P x × (p x ≡ true)) (filter p xs)
        → AllByRecursion (λ x. P x × (p x ≡ true)) (filter p (x ∷ xs))
    step true e more = rw e ((h.0, e), more)
    step false e more = rw e more

flat_map_each : {X Y : Type 0} (f g : X → List Y) (xs : List X)
    → AllByRecursion (λ x. IsPermutation (f x) (g x)) xs
    → IsPermutation (flat_map f xs) (flat_map g xs)
flat_map_each f g [] h = IsPermutation-refl []
flat_map_each f g (x ∷ xs) h = IsPermutation-append _ _ _ _ h.0 (flat_map_each f g xs h.1)

-- ---- each item belongs to one book

module _ {X : Type 0} (of : X → ℤ) where
  abbrev part : List X → BookRow → List X
  part xs b = filter (λ x. int_eq (of x) b.id) xs

  untouched : (x : X) (xs : List X) (bs : List BookRow)
      → AllByRecursion (λ (b : BookRow). int_eq (of x) b.id ≡ false) bs
      → flat_map (part (x ∷ xs)) bs ≡ flat_map (part xs) bs
  untouched x xs [] h = refl
  untouched x xs (b ∷ bs) h = rw h.0 (ap (λ l. part xs b ++ l) (untouched x xs bs h.1))

  taken : (x : X) (xs : List X) (bs : List BookRow) → AreBooks bs → HasBookId bs (of x)
      → IsPermutation (flat_map (part (x ∷ xs)) bs) (x ∷ flat_map (part xs) bs)
  taken x xs [] kept is = absurd cc
  taken x xs (b ∷ bs) kept is = step (int_eq (of x) b.id) refl (λ later. taken x xs bs kept.1 later)
    where
      step : (t : Bool) → int_eq (of x) b.id ≡ t
          → (HasBookId bs (of x) → IsPermutation (flat_map (part (x ∷ xs)) bs)
          (x ∷ flat_map (part xs) bs)) → IsPermutation (flat_map (part (x ∷ xs)) (b ∷ bs))
          (x ∷ flat_map (part xs) (b ∷ bs))
      step true e later =
          let others = all_weaker _ (λ (c : BookRow). int_eq (of x) c.id ≡ false)
          (λ c h. ap (λ k. int_eq k c.id) (same_int (of x) b.id e) ∙ h.0) bs kept.0 in
          rw e (IsPermutation-same _ _ (ap (λ l. x ∷ (part xs b ++ l)) (untouched x xs bs others)))
      step false e later =
          let more = later (ap (λ t. t || list_any (has_id (of x)) bs) (sym (int_turned b.id (of x)
          ∙ e)) ∙ is) in
          rw e (IsPermutation-trans _ _ _ (IsPermutation-append_right (part xs b) _ _ more)
          (IsPermutation-middle (part xs b) x (flat_map (part xs) bs)))

  parts : (bs : List BookRow) (xs : List X) → AreBooks bs
      → AllByRecursion (λ x. HasBookId bs (of x)) xs → IsPermutation (flat_map (part xs) bs) xs
  parts bs [] kept h = IsPermutation-same _ _ (flat_map_none (part []) (λ b. refl) bs)
  parts bs (x ∷ xs) kept h = IsPermutation-trans _ _ _ (taken x xs bs kept h.0)
      (IsPermutation-cons x _ _ (parts bs xs kept h.1))

-- ---- one row

canonical_is : (text : List ℕ) → IsCanonical text → canonical_text (text_card text) ≡ text
canonical_is text h = ap (λ r. canonical_text (lines_or_none r)) h.spelled ∙ sym h.canonical

card_is : (card : Option (List ℕ)) → IfSome card IsCanonical
    → option_map canonical_text (option_map text_card card) ≡ card
card_is None h = refl
card_is (Some text) h = ap Some (canonical_is text h)

book_is : (rows : TableRows) (b : BookRow) → IsReadableBook b → stored_book (book_entry rows b)
    ≡ book_row b
book_is rows b h =
    let n = h.numbers in
    ap book_row (λ i. record b {
      id = sym h.id i;
      numbers = record b.numbers {
        number = sym n.number i;
        horizon = sym n.horizon i;
        created = sym n.created i;
        edited = sym n.edited i;
        imported = sym n.imported i;
        import_edited = sym n.import_edited i;
        moved_in = sym n.moved_in i;
        deleted = sym n.deleted i;
        moved_out = sym n.moved_out i;
      };
    })

member_is : (rows : TableRows) (b : BookRow) (m : MemberRow) → IsNatural b.id → IsReadableMember m
    × (is_in_book b.id m ≡ true) → stored_member (row_book rows b) (member_entry m)
    ≡ drop 1 (member_row m)
member_is rows b m id h =
    let book : Int (pos (natural b.id)) ≡ Int m.book =
    ap Int (sym id ∙ sym (same_int m.book b.id h.1)) in
    let changed : Int (pos (natural m.changed)) ≡ Int m.changed = ap Int (sym h.0.changed) in
    let card : or_null Text (option_map canonical_text (option_map text_card m.card))
    ≡ or_null Text m.card = ap (or_null Text) (card_is m.card h.0.card) in
    λ i. book i ∷ Text m.uid ∷ changed i ∷ card i ∷ []

import_is : (rows : TableRows) (b : BookRow) (m : ImportRow) → IsNatural b.id → IsReadableImport m
    × (import_of b.id m ≡ true) → stored_import (row_book rows b) (import_entry m)
    ≡ drop 1 (import_row m)
import_is rows b m id h =
    let book : Int (pos (natural b.id)) ≡ Int m.book =
    ap Int (sym id ∙ sym (same_int m.book b.id h.1)) in
    λ i. book i ∷ Text m.key ∷ Int (sym h.0.added i) ∷ Int (sym h.0.edited i) ∷ Int (sym h.0.same i)
    ∷ Int (sym h.0.number i) ∷ []

-- ---- the rows of all books

module _ (rows : TableRows) (sound : AreSoundRows rows) where
  entries_of : IsPermutation (map (book_entry rows) rows.books) (finite.entries (books_of rows))
  entries_of =
      subst (λ l. IsPermutation (map (book_entry rows) l) (finite.entries (books_of rows)))
      (every rows.books)
      (subst (λ m. IsPermutation (map (book_entry rows) (filter each_book rows.books))
      (finite.entries m)) (books_map rows rows.books)
      (entries_are each_book name_of (row_book rows) rows.books
      (once_books rows rows.books sound.books)))

  each_entry : {Y : Type 0} (f : List ℕ × Book → Y)
      → IsPermutation (map (λ b. f (book_entry rows b)) rows.books)
      (map f (finite.entries (books_of rows)))
  each_entry f = subst (λ l. IsPermutation l (map f (finite.entries (books_of rows))))
      (map-map f (book_entry rows) rows.books) (IsPermutation-map f _ _ entries_of)

  all_entries : {Y : Type 0} (f : List ℕ × Book → List Y)
      → IsPermutation (flat_map (λ b. f (book_entry rows b)) rows.books)
      (flat_map f (finite.entries (books_of rows)))
  all_entries f = subst (λ l. IsPermutation l (flat_map f (finite.entries (books_of rows))))
      (flat_map-map f (book_entry rows) rows.books) (IsPermutation-flat_map f _ _ entries_of)

  -- items of one table, of which each belongs to a book: their columns are those of the books'
  -- entries
  module _ {X : Type 0} (of : X → ℤ) (columns : X → Row) (stored : List ℕ × Book
      → List Row) (xs : List X) (listed : AllByRecursion (λ x. HasBookId rows.books (of x)) xs)
      (each : AllByRecursion (λ (b : BookRow). IsPermutation (map columns (part of xs b))
      (stored (book_entry rows b))) rows.books) where
    columns_are : IsPermutation (flat_map stored (finite.entries (books_of rows))) (map columns xs)
    columns_are =
        let whole : IsPermutation (map columns (flat_map (part of xs) rows.books))
        (map columns xs) = IsPermutation-map columns _ _ (parts of rows.books xs sound.books
        listed) in
        let cut : IsPermutation (flat_map (λ b. map columns (part of xs b)) rows.books)
        (map columns xs) = subst (λ l. IsPermutation l (map columns xs))
        (map-flat_map columns (part of xs) rows.books) whole in
        let stores = flat_map_each (λ b. map columns (part of xs b))
        (λ b. stored (book_entry rows b)) rows.books each in
        IsPermutation-trans _ _ _ (IsPermutation-sym _ _ (all_entries stored))
        (IsPermutation-trans _ _ _ (IsPermutation-sym _ _ stores) cut)

-- ---- the tables

module _ (limits : Bounds) (db : Database) (rows : TableRows) (holds : HoldsRows db rows) (well :
    AreWellFormed limits rows) where
  abbrev sound : AreSoundRows rows
  sound = well.sound

  books_are : IsPermutation (map stored_book (finite.entries (books_of rows)))
      (map book_cells (db.trees 2))
  books_are =
      let same = map_all (λ b. stored_book (book_entry rows b)) book_row rows.books
      (all_weaker _ (λ b. stored_book (book_entry rows b) ≡ book_row b)
      (λ b h. book_is rows b h) rows.books well.sound.readable.books) in
      IsPermutation-trans _ _ _ (IsPermutation-sym _ _
      (subst (λ l. IsPermutation l (map stored_book (finite.entries (books_of rows)))) same
      (each_entry rows sound stored_book))) holds.books

  member_columns : AllByRecursion (λ (b : BookRow). IsPermutation (map (λ m. drop 1 (member_row m))
      (part (λ (m : MemberRow). m.book) rows.members b)) (map (stored_member (row_book rows b))
      (finite.entries (members_in b.id rows.members)))) rows.books
  member_columns = all_weaker _ _ (λ b h.
      let entries = entries_are (is_in_book b.id) uid_of_row model_row rows.members
      (once_members b.id rows.members sound.members) in
      let mine = filter (is_in_book b.id) rows.members in
      let same = map_all (λ m. stored_member (row_book rows b) (member_entry m))
      (λ m. drop 1 (member_row m)) mine
      (all_weaker _ (λ m. stored_member (row_book rows b) (member_entry m) ≡ drop 1 (member_row m))
      (λ m r. member_is rows b m h.id r) mine (all_passing IsReadableMember (is_in_book b.id)
      rows.members well.sound.readable.members)) in
      subst (λ l. IsPermutation l (map (stored_member (row_book rows b))
      (finite.entries (members_in b.id rows.members))))
      (map-map (stored_member (row_book rows b)) member_entry mine
      ∙ same) (IsPermutation-map (stored_member (row_book rows b)) _ _ entries))
      rows.books well.sound.readable.books

  import_columns : AllByRecursion (λ (b : BookRow). IsPermutation (map (λ m. drop 1 (import_row m))
      (part (λ (m : ImportRow). m.book) rows.imports b)) (map (stored_import (row_book rows b))
      (finite.entries (imports_in b.id rows.imports)))) rows.books
  import_columns = all_weaker _ _ (λ b h.
      let entries = entries_are (import_of b.id) key_of row_tally rows.imports
      (once_imports b.id rows.imports sound.imports) in
      let mine = filter (import_of b.id) rows.imports in
      let same = map_all (λ m. stored_import (row_book rows b) (import_entry m))
      (λ m. drop 1 (import_row m)) mine
      (all_weaker _ (λ m. stored_import (row_book rows b) (import_entry m) ≡ drop 1 (import_row m))
      (λ m r. import_is rows b m h.id r) mine (all_passing IsReadableImport (import_of b.id)
      rows.imports well.sound.readable.imports)) in
      subst (λ l. IsPermutation l (map (stored_import (row_book rows b))
      (finite.entries (imports_in b.id rows.imports))))
      (map-map (stored_import (row_book rows b)) import_entry mine
      ∙ same) (IsPermutation-map (stored_import (row_book rows b)) _ _ entries))
      rows.books well.sound.readable.books

  abbrev IdsApart : Row → Row → Type 0
  IdsApart a b = int_eq (id_in (column a 0)) (id_in (column b 0)) ≡ false

  -- the rows of items, each an id and its columns
  module _ {X : Type 0} (row : X → Row) (id : X → ℤ) (first : (x : X)
      → column (row x) 0 ≡ Int (id x)) (cells : Row → Row) (xs : List X) (stored : List Row) (tree :
      List Row) (held : IsPermutation (map row xs) (map cells tree))
      (columns : IsPermutation stored (map (λ x. drop 1 (row x)) xs)) (apart :
      IsAscending (λ a b. int_eq (id a) (id b) ≡ false) xs) where
    under_ids : AreUnderIds stored (map cells tree)
    under_ids = record {
      same = IsPermutation-trans _ _ _ columns
          (subst (λ l. IsPermutation l (map (drop 1) (map cells tree))) (map-map (drop 1) row xs)
          (IsPermutation-map (drop 1) _ _ held));
      ids = all-permutation (λ r. column r 0 ≡ Int (id_in (column r 0))) _ _ held
          (all-map (λ r. column r 0 ≡ Int (id_in (column r 0))) row xs (all_of _ (λ x. first x
          ∙ ap (λ v. Int (id_in v)) (sym (first x))) xs));
      apart = apart_moved IdsApart (λ a b h. int_turned (id_in (column b 0)) (id_in (column a 0))
          ∙ h) _ _ held
          (ascending-map IdsApart row xs (ascending_weaker (λ a b. int_eq (id a) (id b) ≡ false)
          (λ a b. IdsApart (row a) (row b)) (λ a b h. ap₂ (λ v w. int_eq (id_in v) (id_in w))
          (first a) (first b) ∙ h) xs apart));
    }

  members_are : AreUnderIds (stored_members (books_of rows)) (map member_cells (db.trees 4))
  members_are = under_ids member_row (λ (m : MemberRow). m.id) (λ m. refl) member_cells rows.members
      _ (db.trees 4) holds.members
      (columns_are rows sound (λ (m : MemberRow). m.book) (λ m. drop 1 (member_row m))
      (λ e. map (stored_member e.1) (finite.entries e.1.members)) rows.members
      sound.listed_members member_columns)
      (ascending_weaker _ (λ (a b : MemberRow). int_eq a.id b.id ≡ false) (λ a b h. h.0)
      rows.members sound.members)

  imports_are : AreUnderIds (stored_imports (books_of rows)) (map import_cells (db.trees 7))
  imports_are = under_ids import_row (λ (m : ImportRow). m.id) (λ m. refl) import_cells rows.imports
      _ (db.trees 7) holds.imports
      (columns_are rows sound (λ (m : ImportRow). m.book) (λ m. drop 1 (import_row m))
      (λ e. map (stored_import e.1) (finite.entries e.1.imports)) rows.imports
      sound.listed_imports import_columns)
      (ascending_weaker _ (λ (a b : ImportRow). int_eq a.id b.id ≡ false) (λ a b h. h.0)
      rows.imports sound.imports)

  -- ---- keeps

  none_passes : {X : Type 0} (p : X → Bool) (xs : List X) → AllByRecursion (λ x. p x ≡ false) xs
      → filter p xs ≡ []
  none_passes p [] h = refl
  none_passes p (x ∷ xs) h = rw h.0 (none_passes p xs h.1)

  only_one : {X : Type 0} (p : X → Bool) (xs : List X) (x : X) → Single p xs → find p xs ≡ Some x
      → filter p xs ≡ x ∷ []
  only_one p [] x one h = absurd cc
  only_one p (y ∷ ys) x one h = step (p y) refl (λ later. only_one p ys x one.1 later)
    where
      step : (t : Bool) → p y ≡ t → (find p ys ≡ Some x → filter p ys ≡ x ∷ [])
          → filter p (y ∷ ys) ≡ x ∷ []
      step true e later =
          let same : y ≡ x = same_Some_at y x (rw e at h) in
          rw e (ap₂ (λ a l. a ∷ l) same (none_passes p ys (all_weaker _ (λ z. p z ≡ false)
          (λ z k. k e) ys one.0)))
      step false e later = rw e (later (rw e at h))

  -- a book's keep is at least 1, so it has a row
  keep_there : (b : BookRow) → 1 ≤ keep_of_book b.id rows.keeps → (k : KeepRow)
      × (find (is_keep_of b.id) rows.keeps ≡ Some k)
  keep_there b least = step (find (is_keep_of b.id) rows.keeps) refl
    where
      step : (o : Option KeepRow) → find (is_keep_of b.id) rows.keeps ≡ o → (k : KeepRow)
          × (find (is_keep_of b.id) rows.keeps ≡ Some k)
      step (Some k) e = (k, e)
      step None e = absurd (let none :
          1 ≤ 0 = subst (λ o. 1 ≤ option_map_or (λ (k : KeepRow). natural k.keep) o 0) e least in
          omega (arith, none))

  keep_is : (b : BookRow) → IsReadableBook b → 1 ≤ keep_of_book b.id rows.keeps
      → map keep_row (part (λ (k : KeepRow). k.book) rows.keeps b) ≡ stored_keep (book_entry rows b)
      ∷ []
  keep_is b readable least =
      let it = keep_there b least in
      let found = found_has (is_keep_of b.id) rows.keeps it.0 it.1 in
      let natural_keep = all_has IsReadableKeep rows.keeps it.0 well.sound.readable.keeps found.0 in
      let keep : pos (keep_of_book b.id rows.keeps) ≡ it.0.keep =
      ap (λ o. pos (option_map_or (λ (k : KeepRow). natural k.keep) o 0)) it.1
      ∙ sym natural_keep in
      let book : pos (natural b.id) ≡ it.0.book = sym readable.id
      ∙ sym (same_int it.0.book b.id found.1) in
      ap (map keep_row) (only_one (is_keep_of b.id) rows.keeps it.0 (single_keep b.id rows.keeps
      sound.keeps) it.1)
      ∙ (λ i. keep_row (record { book = sym book i; keep = sym keep i }) ∷ [])

  has_each : {X : Type 0} (xs : List X) → AllByRecursion (Has xs) xs
  has_each [] = tt
  has_each (x ∷ xs) = (inl refl, all_weaker (Has xs) (Has (x ∷ xs)) (λ y h. inr h) xs (has_each xs))

  keep_columns : AllByRecursion (λ (b : BookRow). IsPermutation
      (map keep_row (part (λ (k : KeepRow). k.book) rows.keeps b)) (stored_keep (book_entry rows b)
      ∷ [])) rows.books
  keep_columns = all_weaker (Has rows.books) _ (λ b there.
      let got = get-books_of rows b.name
      ∙ ap (option_map (row_book rows)) (book_at b.name rows.books b sound.books there refl) in
      IsPermutation-same _ _ (keep_is b (all_has IsReadableBook rows.books b
      well.sound.readable.books there) (well.books.each b.name (row_book rows b)
      got).keep_least))
      rows.books (has_each rows.books)

  keeps_are : IsPermutation (map stored_keep (finite.entries (books_of rows)))
      (map keep_cells (db.trees 9))
  keeps_are = IsPermutation-trans _ _ _
      (subst (λ l. IsPermutation l (map keep_row rows.keeps)) (flat_map_single stored_keep
      (finite.entries (books_of rows)))
      (columns_are rows sound (λ (k : KeepRow). k.book) keep_row (λ e. stored_keep e ∷ [])
      rows.keeps sound.listed_keeps keep_columns))
      holds.keeps

  tables_are : AreTablesOf (books_of rows) db
  tables_are = record {
    schema = holds.schema;
    obeys = holds.obeys;
    meta = holds.meta;
    each_book = books_are;
    each_member = members_are;
    each_import = imports_are;
    each_keep = keeps_are;
  }

pub tables_of_books : TablesAreOfBooks
tables_of_books limits db h = subst (λ books. AreTablesOf books db)
    (sym (books_held db h.rows h.holds h.well_formed.sound)) (tables_are limits db h.rows h.holds
    h.well_formed)
