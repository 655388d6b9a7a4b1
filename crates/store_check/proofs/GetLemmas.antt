-- Look-ups in the books of sound rows, and the rows that they find.
use Rattle.std.proofs.Common.{◌≡◌, ℕ, ℤ, Bool, true, false, ◌&&◌, List, [], ◌∷◌, filter, find}
use Rattle.std.proofs.Common.{length, is_some, bytes_eq, int_eq, Option, Some, None, refl, sym, ap}
use Rattle.std.proofs.Common.{ap₂, ◌∙◌, true≢false}
use Rattle.std.specs.List.{AllByRecursion}
use Rattle.std.specs.Option.{option_map, option_map_or, option_and_then}
use Rattle.std.specs.FinMap as finite
use Rattle.std.proofs.lemmas.List.{length-map}
use Rattle.std.proofs.lemmas.List.Sorted.{length_permutation}
use Rattle.std.proofs.lemmas.Map.Lookups.{exact_bytes}
use Rattle.std.proofs.lemmas.Bool.{and_parts}
use Rattle.sqlite_rules.specs.Lists.{Has}
use Rattle.base_types.specs.TextMaps.{text_cmp}
use Rattle.base_types.proofs.TextLemmas.{text_total, same_text}
use Rattle.book_model.specs.declared.answers.Stored.{Stored}
use Rattle.book_model.specs.declared.answers.ImportTally.{ImportTally}
use Rattle.book_model.specs.declared.row.Row.{Row as Kept}
use Rattle.book_model.specs.Books.{Book, stored_in_row}
use Rattle.book_model.specs.BookQueries.{live_cards, live_card_entry}
use Rattle.book_model.proofs.LiveCardLemmas.{find_live}
use Rattle.store_tables.specs.Books.{BookRow, AreBooks, has_name, has_id}
use Rattle.store_tables.specs.Imports.{ImportRow, has_key}
use Rattle.store_tables.specs.Members.{MemberRow, is_in_book, has_uid}
use Rattle.store_tables.proofs.KeyedRows.{same_int, int_itself, text_itself}
use Rattle.store_rows.specs.SoundTables.{AreSoundRows}
use Rattle.store_rows.specs.TableBooks.{model_row, row_tally, members_in, imports_in, book_entry}
use Rattle.store_rows.specs.TableBooks.{row_book, books_of}
use Rattle.store_rows.specs.TableRows.{TableRows}
use Rattle.store_rows.specs.Values.{natural, text_card}
use Rattle.store_rows.proofs.BookLemmas.{book_at}
use Rattle.store_rows.proofs.KeyedEntries.{Single, Once, map_of, here, get_is, entries_are}
use Rattle.store_rows.proofs.KeyedEntries.{find_single, found_has}
use Rattle.store_rows.proofs.RowLemmas.{once_members, single_member, single_import, uid_of_row}
use Rattle.store_rows.proofs.RowLemmas.{get-members_in, get-imports_in, get-books_of, once_books}
use Rattle.store_rows.proofs.RowLemmas.{books_map, each_book, name_of, every}
use Rattle.sqlite_trees.proofs.ListLemmas.{ascending_weaker, all_weaker}
use Rattle.store_check.specs.BookChecks.{is_live_in}

some_of : {X Y : Type 0} (f : X → Y) (o : Option X) (y : Y) → option_map f o ≡ Some y → (x : X)
    × (o ≡ Some x) × (y ≡ f x)
some_of f None y h = absurd cc
some_of f (Some x) y h = (x, refl, cc)

-- ---- books

pub record IsBookOf (rows : TableRows) (name : List ℕ) (book : Book) : Type 0 where
  pub row : BookRow
  pub there : Has rows.books row
  pub name_is : row.name ≡ name
  pub is : book ≡ row_book rows row

pub got_book : (rows : TableRows) (name : List ℕ) (book : Book) → finite.get (books_of rows) name
    ≡ Some book → IsBookOf rows name book
got_book rows name book h =
    let it = some_of (row_book rows) (find (has_name name) rows.books) book
    (sym (get-books_of rows name) ∙ h) in
    let found = found_has (has_name name) rows.books it.0 it.1 in
    record { row = it.0; there = found.0; name_is = same_text it.0.name name found.1; is = it.2 }

pub give_book : (rows : TableRows) (b : BookRow) → AreSoundRows rows → Has rows.books b
    → finite.get (books_of rows) b.name ≡ Some (row_book rows b)
give_book rows b sound there = get-books_of rows b.name
    ∙ ap (option_map (row_book rows)) (book_at b.name rows.books b sound.books there refl)

pub len_books : (rows : TableRows) → AreSoundRows rows
    → finite.len (books_of rows) ≡ length rows.books
len_books rows sound =
    ap finite.len (sym (books_map rows rows.books)) ∙ finite.len-entries _
    ∙ length_permutation _ _ (entries_are each_book name_of (row_book rows) rows.books
    (once_books rows rows.books sound.books))
    ∙ length-map (filter each_book rows.books) (book_entry rows) ∙ ap length (every rows.books)

-- the book with an id is the one that the look-up finds
pub found_by_id : (rows : TableRows) (b : BookRow) (id : ℤ) → AreSoundRows rows → Has rows.books b
    → id ≡ b.id → find (has_id id) rows.books ≡ Some b
found_by_id rows b id sound there is =
    find_single (has_id id) rows.books b (single_id id rows.books sound.books) there
    (ap (λ k. int_eq b.id k) is ∙ int_itself b.id)
  where
    single_id : (id : ℤ) (bs : List BookRow) → AreBooks bs → Single (has_id id) bs
    single_id id bs kept = ascending_weaker (λ (a b : BookRow). (int_eq a.id b.id ≡ false)
        × (has_name a.name b ≡ false)) (λ (a b : BookRow). has_id id a ≡ true → has_id id b ≡ false)
        (λ a b h e. Rattle.store_rows.proofs.RowLemmas.int_turned b.id id
        ∙ ap (λ k. int_eq k b.id) (sym (same_int a.id id e)) ∙ h.0) bs kept

-- ---- members

pub record IsMemberOf (rows : TableRows) (b : BookRow) (uid : List ℕ) (row : Kept) : Type 0 where
  pub m : MemberRow
  pub there : Has rows.members m
  pub book_is : m.book ≡ b.id
  pub uid_is : m.uid ≡ uid
  pub is : row ≡ model_row m

pub got_member : (rows : TableRows) (b : BookRow) (uid : List ℕ) (row : Kept)
    → finite.get (members_in b.id rows.members) uid ≡ Some row → IsMemberOf rows b uid row
got_member rows b uid row h =
    let it = some_of model_row (find (has_uid b.id uid) rows.members) row
    (sym (get-members_in b.id rows.members uid) ∙ h) in
    let found = found_has (has_uid b.id uid) rows.members it.0 it.1 in
    let at = and_parts (int_eq it.0.book b.id) (bytes_eq it.0.uid uid) found.1 in
    record {
      m = it.0;
      there = found.0;
      book_is = same_int it.0.book b.id at.0;
      uid_is = same_text it.0.uid uid at.1;
      is = it.2;
    }

pub give_member : (rows : TableRows) (b : BookRow) (m : MemberRow) → AreSoundRows rows
    → Has rows.members m → m.book ≡ b.id → finite.get (members_in b.id rows.members) m.uid
    ≡ Some (model_row m)
give_member rows b m sound there is =
    get-members_in b.id rows.members m.uid ∙ ap (option_map model_row)
    (find_single (has_uid b.id m.uid) rows.members m (single_member b.id m.uid rows.members
    sound.members) there (ap₂ (λ k t. k && t) (ap (λ k. int_eq k b.id) is ∙ int_itself b.id)
    (text_itself m.uid)))

-- ---- imports

pub record IsImportOf (rows : TableRows) (b : BookRow) (key : List ℕ) (tally : ImportTally) :
    Type 0 where
  pub i : ImportRow
  pub there : Has rows.imports i
  pub book_is : i.book ≡ b.id
  pub key_is : i.key ≡ key
  pub is : tally ≡ row_tally i

pub got_import : (rows : TableRows) (b : BookRow) (key : List ℕ) (tally : ImportTally)
    → finite.get (imports_in b.id rows.imports) key ≡ Some tally → IsImportOf rows b key tally
got_import rows b key tally h =
    let it = some_of row_tally (find (has_key b.id key) rows.imports) tally
    (sym (get-imports_in b.id rows.imports key) ∙ h) in
    let found = found_has (has_key b.id key) rows.imports it.0 it.1 in
    let at = and_parts (int_eq it.0.book b.id) (bytes_eq it.0.key key) found.1 in
    record {
      i = it.0;
      there = found.0;
      book_is = same_int it.0.book b.id at.0;
      key_is = same_text it.0.key key at.1;
      is = it.2;
    }

pub give_import : (rows : TableRows) (b : BookRow) (i : ImportRow) → AreSoundRows rows
    → Has rows.imports i → i.book ≡ b.id → finite.get (imports_in b.id rows.imports) i.key
    ≡ Some (row_tally i)
give_import rows b i sound there is =
    get-imports_in b.id rows.imports i.key ∙ ap (option_map row_tally)
    (find_single (has_key b.id i.key) rows.imports i (single_import b.id i.key rows.imports
    sound.imports) there (ap₂ (λ k t. k && t) (ap (λ k. int_eq k b.id) is ∙ int_itself b.id)
    (text_itself i.key)))

-- ---- live cards

get-live_cards : (members : finite.FinMap text_cmp Kept) (q : List ℕ)
    → finite.get (finite.from_entries {R = text_cmp} (Rattle.std.proofs.Common.flat_map
    live_card_entry (finite.entries members))) q ≡ option_and_then stored_in_row
    (finite.get members q)
get-live_cards members q =
    finite.get-from_entries text_total (Rattle.std.proofs.Common.flat_map live_card_entry
    (finite.entries members)) q ∙ find_live q (finite.entries members)
    (finite.entries_sorted members)
    ∙ ap (option_and_then stored_in_row) (sym (finite.get-entries members q))

-- the stored card of a live member's row
abbrev stored_of : MemberRow → Stored
stored_of m = record { version = natural m.changed; card = option_map_or text_card m.card [] }

module _ (book : ℤ) (q : List ℕ) where
  abbrev live_here : MemberRow → Bool
  live_here = here (is_live_in book) uid_of_row stored_of q

  none_live : (ms : List MemberRow) → AllByRecursion (λ m. has_uid book q m ≡ false) ms
      → find live_here ms ≡ None
  none_live [] h = refl
  none_live (m ∷ ms) h = step (is_in_book book m) (is_some m.card) (bytes_eq m.uid q) refl refl refl
      h.0 (none_live ms h.1)
    where
      step : (a b t : Bool) → is_in_book book m ≡ a → is_some m.card ≡ b → bytes_eq m.uid q ≡ t
          → has_uid book q m ≡ false → find live_here ms ≡ None → find live_here (m ∷ ms) ≡ None
      step false b t e j k away more = rw e more
      step true false t e j k away more = rw (e, j) more
      step true true false e j k away more = rw (e, j, k) more
      step true true true e j k away more =
          absurd (true≢false (sym (ap₂ (λ x y. x && y) e k) ∙ away))

  live_found : (ms : List MemberRow) → Single (has_uid book q) ms
      → option_map stored_of (find live_here ms) ≡ option_and_then stored_in_row
      (option_map model_row (find (has_uid book q) ms))
  live_found [] one = refl
  live_found (m ∷ ms) one = step (is_in_book book m) (bytes_eq m.uid q) refl refl m.card refl
      (live_found ms one.1)
    where
      step : (a t : Bool) → is_in_book book m ≡ a → bytes_eq m.uid q ≡ t → (card : Option (List ℕ))
          → m.card ≡ card → option_map stored_of (find live_here ms) ≡ option_and_then stored_in_row
          (option_map model_row (find (has_uid book q) ms))
          → option_map stored_of (find live_here (m ∷ ms)) ≡ option_and_then stored_in_row
          (option_map model_row (find (has_uid book q) (m ∷ ms)))
      step false t e k card c more = rw e more
      step true false e k None c more = rw (e, c, k) more
      step true false e k (Some text) c more = rw (e, c, k) more
      step true true e k (Some text) c more = rw (e, c, k)
      step true true e k None c more =
          let rest = none_live ms (all_weaker _ (λ (n : MemberRow). has_uid book q n ≡ false)
          (λ n f. f (ap₂ (λ x y. x && y) e k)) ms one.0) in
          rw (e, c, k) (ap (option_map stored_of) rest)

-- a book has as many live cards as live rows
pub live_count_is : (rows : TableRows) (b : BookRow) → AreSoundRows rows
    → finite.len (live_cards (row_book rows b)) ≡ length (filter (is_live_in b.id) rows.members)
live_count_is rows b sound =
    ap finite.len same ∙ finite.len-entries _
    ∙ length_permutation _ _ (entries_are (is_live_in b.id) uid_of_row stored_of rows.members once)
    ∙ length-map (filter (is_live_in b.id) rows.members) (λ m. (uid_of_row m, stored_of m))
  where
    once : Once (is_live_in b.id) uid_of_row stored_of rows.members
    once = ascending_weaker (λ (a c : MemberRow). is_in_book b.id a ≡ true
        → has_uid b.id a.uid c ≡ false) (λ (a c : MemberRow). is_live_in b.id a ≡ true
        → here (is_live_in b.id) uid_of_row stored_of a.uid c ≡ false)
        (λ a c h e. less (is_in_book b.id c) (is_some c.card) (bytes_eq c.uid a.uid)
        (h (and_parts (is_in_book b.id a) (is_some a.card) e).0)) rows.members
        (once_members b.id rows.members sound.members)
      where
        less : (x y z : Bool) → (x && z) ≡ false → ((x && y) && z) ≡ false
        less false y z h = refl
        less true false z h = refl
        less true true z h = h

    same : live_cards (row_book rows b) ≡ map_of (is_live_in b.id) uid_of_row stored_of rows.members
    same = finite.same_map text_total exact_bytes _ _ (λ q.
        get-live_cards (members_in b.id rows.members) q
        ∙ ap (option_and_then stored_in_row) (get-members_in b.id rows.members q)
        ∙ sym (live_found b.id q rows.members (single_member b.id q rows.members sound.members))
        ∙ sym (get_is (is_live_in b.id) uid_of_row stored_of rows.members q))
