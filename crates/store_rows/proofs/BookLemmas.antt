-- One book is with_book_numbers.
use Rattle.std.proofs.Common.{◌≡◌, inl, inr, ℕ, ℤ, Bool, true, false, ◌||◌, cond, List, [], ◌∷◌}
use Rattle.std.proofs.Common.{map, find, Option, Some, None, bytes_eq, int_eq, refl, sym, ap, ap₂}
use Rattle.std.proofs.Common.{subst, ◌∙◌, true≢false}
use Rattle.std.specs.List.{AllByRecursion, list_any}
use Rattle.std.specs.Option.{option_map}
use Rattle.std.specs.Ordering.{eq_by_cmp}
use Rattle.std.specs.FinMap as finite
use Rattle.std.proofs.lemmas.Map.Lookups.{exact_bytes}
use Rattle.sqlite_rules.specs.Lists.{Has}
use Rattle.sqlite_trees.proofs.ListLemmas.{all_weaker}
use Rattle.base_types.specs.TextMaps.{text_cmp}
use Rattle.base_types.proofs.TextLemmas.{text_total, same_text}
use Rattle.book_model.specs.declared.counts.Counts.{Counts}
use Rattle.store_tables.specs.Books.{BookRow, Numbers, AreBooks, has_name, has_id}
use Rattle.store_tables.specs.Books.{with_book_numbers}
use Rattle.store_tables.specs.Members.{HoldMembers}
use Rattle.store_tables.specs.Imports.{HoldImports}
use Rattle.store_tables.specs.Keeps.{HoldKeeps}
use Rattle.store_tables.specs.Meta.{meta_listed}
use Rattle.store_tables.proofs.KeyedRows.{all_has, int_itself, text_itself}
use Rattle.store_rows.specs.TableRows.{TableRows, renumbered_rows}
use Rattle.store_rows.specs.TableBooks.{numbers_row, row_book, books_of}
use Rattle.store_rows.specs.SoundTables.{AreNaturalNumbers, AreSoundRows, HasBookId, IsReadableBook}
use Rattle.store_rows.specs.ChangeLaws.{RenumberingIsHeld, WritesChangeOneBook}
use Rattle.store_rows.proofs.KeyedEntries.{find_single, found_has, key_is, text_turned}
use Rattle.store_rows.proofs.RowLemmas.{int_turned, single_named, get-books_of}

abbrev pub with_numbers : ℤ → Numbers → BookRow → BookRow
with_numbers id numbers b = cond (has_id id b) (record b { numbers = numbers }) b

-- ---- the keys are unchanged

abbrev Apart : BookRow → BookRow → Type 0
Apart a b = (int_eq a.id b.id ≡ false) × (has_name a.name b ≡ false)

all_renumbered : (id : ℤ) (numbers : Numbers) (b : BookRow) (bs : List BookRow)
    → AllByRecursion (Apart b) bs → AllByRecursion (Apart b) (with_book_numbers id numbers bs)
all_renumbered id numbers b [] h = tt
all_renumbered id numbers b (x ∷ xs) h =
    (step (has_id id x) refl, all_renumbered id numbers b xs h.1)
  where
    step : (t : Bool) → has_id id x ≡ t → Apart b (with_numbers id numbers x)
    step true e = rw e h.0
    step false e = rw e h.0

pub renumbered_kept : (id : ℤ) (numbers : Numbers) (bs : List BookRow) → AreBooks bs
    → AreBooks (with_book_numbers id numbers bs)
renumbered_kept id numbers [] h = tt
renumbered_kept id numbers (b ∷ bs) h = step (has_id id b) refl (all_renumbered id numbers b bs h.0)
    (renumbered_kept id numbers bs h.1)
  where
    step : (t : Bool) → has_id id b ≡ t → AllByRecursion (Apart b) (with_book_numbers id numbers bs)
        → AreBooks (with_book_numbers id numbers bs)
        → AreBooks (with_book_numbers id numbers (b ∷ bs))
    step true e all more = rw e (all, more)
    step false e all more = rw e (all, more)

same_listed : (id : ℤ) (numbers : Numbers) (bs : List BookRow) (book : ℤ)
    → list_any (has_id book) (with_book_numbers id numbers bs) ≡ list_any (has_id book) bs
same_listed id numbers [] book = refl
same_listed id numbers (b ∷ bs) book =
    ap₂ (λ s t. s || t) (step (has_id id b) refl) (same_listed id numbers bs book)
  where
    step : (t : Bool) → has_id id b ≡ t → has_id book (with_numbers id numbers b) ≡ has_id book b
    step true e = rw e refl
    step false e = rw e refl

readable_renumbered : (id : ℤ) (numbers : Numbers) (bs : List BookRow) → AreNaturalNumbers numbers
    → AllByRecursion IsReadableBook bs
    → AllByRecursion IsReadableBook (with_book_numbers id numbers bs)
readable_renumbered id numbers [] natural h = tt
readable_renumbered id numbers (b ∷ bs) natural h =
    (step (has_id id b) refl, readable_renumbered id numbers bs natural h.1)
  where
    step : (t : Bool) → has_id id b ≡ t → IsReadableBook (with_numbers id numbers b)
    step true e = rw e (record { id = h.0.id; numbers = natural })
    step false e = rw e h.0

-- the numbers of a row with a header
pub naturals_row : (number horizon : ℕ) (counts : Counts)
    → AreNaturalNumbers (numbers_row number horizon counts)
naturals_row number horizon counts = record {
  number = refl;
  horizon = refl;
  created = refl;
  edited = refl;
  imported = refl;
  import_edited = refl;
  moved_in = refl;
  deleted = refl;
  moved_out = refl;
}

pub renumbered_sound : (id : ℤ) (numbers : Numbers) (rows : TableRows) → AreSoundRows rows
    → AreNaturalNumbers numbers → AreSoundRows (renumbered_rows id numbers rows)
renumbered_sound id numbers rows sound natural =
    let still : (book : ℤ) → HasBookId rows.books book
    → HasBookId (with_book_numbers id numbers rows.books) book =
    λ book h. same_listed id numbers rows.books book ∙ h in
    record {
      books = renumbered_kept id numbers rows.books sound.books;
      members = sound.members;
      imports = sound.imports;
      keeps = sound.keeps;
      listed_members = all_weaker _ _ (λ m h. still m.book h) rows.members sound.listed_members;
      listed_imports = all_weaker _ _ (λ i h. still i.book h) rows.imports sound.listed_imports;
      listed_keeps = all_weaker _ _ (λ k h. still k.book h) rows.keeps sound.listed_keeps;
      readable = record {
        books = readable_renumbered id numbers rows.books natural
            sound.readable.books;
        members = sound.readable.members;
        imports = sound.readable.imports;
        keeps = sound.readable.keeps;
      };
    }

pub renumbering_held : RenumberingIsHeld
renumbering_held old new rows id numbers h sound natural books w = record {
  holds = record {
    schema = w.schema;
    obeys = w.obeys;
    meta = ap (map meta_listed) (w.other_tables.0 (λ e. cc)) ∙ h.meta;
    books = books;
    members = subst (λ t. HoldMembers t rows.members) (sym (w.other_tables.1.1.0 (λ e. cc)))
        h.members;
    imports = subst (λ t. HoldImports t rows.imports) (sym (w.other_tables.1.1.1.0 (λ e. cc)))
        h.imports;
    keeps = subst (λ t. HoldKeeps t rows.keeps) (sym (w.other_tables.1.1.1.1.0 (λ e. cc))) h.keeps;
  };
  sound = renumbered_sound id numbers rows sound natural;
}

-- ---- the books

pub find_renumbered : (q : List ℕ) (id : ℤ) (numbers : Numbers) (bs : List BookRow)
    → find (has_name q) (with_book_numbers id numbers bs) ≡ option_map (with_numbers id numbers)
    (find (has_name q) bs)
find_renumbered q id numbers [] = refl
find_renumbered q id numbers (b ∷ bs) =
    step (has_id id b) (has_name q b) refl refl (find_renumbered q id numbers bs)
  where
    step : (a t : Bool) → has_id id b ≡ a → has_name q b ≡ t
        → find (has_name q) (with_book_numbers id numbers bs) ≡ option_map (with_numbers id numbers)
        (find (has_name q) bs)
        → find (has_name q) (with_book_numbers id numbers (b ∷ bs))
        ≡ option_map (with_numbers id numbers) (find (has_name q) (b ∷ bs))
    step true true e k more = rw (e, k, e)
    step true false e k more = rw (e, k) more
    step false true e k more = rw (e, k, e)
    step false false e k more = rw (e, k) more

pub book_at : (name : List ℕ) (bs : List BookRow) (b : BookRow) → AreBooks bs → Has bs b
    → b.name ≡ name → find (has_name name) bs ≡ Some b
book_at name bs b kept there is = find_single (has_name name) bs b (single_named name bs kept) there
    (ap (λ n. bytes_eq n name) is ∙ text_itself name)

-- two books with one id are the same
pub same_row : (bs : List BookRow) (a b : BookRow) → AreBooks bs → Has bs a → Has bs b
    → int_eq a.id b.id ≡ true → a ≡ b
same_row [] a b kept h k e = absurd h
same_row (x ∷ xs) a b kept (inl h) (inl k) e = h ∙ sym k
same_row (x ∷ xs) a b kept (inl h) (inr k) e =
    absurd (true≢false (sym e ∙ ap (λ (y : BookRow). int_eq y.id b.id) h
    ∙ (all_has (Apart x) xs b kept.0 k).0))
same_row (x ∷ xs) a b kept (inr h) (inl k) e =
    absurd (true≢false (sym e ∙ ap (λ (y : BookRow). int_eq a.id y.id) k ∙ int_turned a.id x.id
    ∙ (all_has (Apart x) xs a kept.0 h).0))
same_row (x ∷ xs) a b kept (inr h) (inr k) e = same_row xs a b kept.1 h k e

pub changes_one : WritesChangeOneBook
changes_one old new b numbers sound there within = finite.same_map text_total exact_bytes _ _ (λ q.
    get-books_of (renumbered_rows b.id numbers new) q
    ∙ ap (option_map (row_book new)) (find_renumbered q b.id numbers new.books
    ∙ ap (λ bs. option_map (with_numbers b.id numbers) (find (has_name q) bs)) within.books)
    ∙ at q (eq_by_cmp text_cmp q b.name) refl
    ∙ sym (finite.get-insert text_total (books_of old) b.name
    (row_book new (record b { numbers = numbers })) q))
  where
    other : (q : List ℕ) → eq_by_cmp text_cmp q b.name ≡ false → (r : Option BookRow)
        → find (has_name q) old.books ≡ r
        → option_map (row_book new) (option_map (with_numbers b.id numbers) r)
        ≡ option_map (row_book old) r
    other q e None h = refl
    other q e (Some x) h =
        let it = found_has (has_name q) old.books x h in
        let away : int_eq x.id b.id ≡ false = go (int_eq x.id b.id) refl it in
        rw away (ap Some (within.others x away))
      where
        go : (t : Bool) → int_eq x.id b.id ≡ t → Has old.books x × (has_name q x ≡ true) → t ≡ false
        go false k it = refl
        go true k it =
            let same : x ≡ b = same_row old.books x b sound.books it.0 there k in
            absurd (true≢false (sym it.1 ∙ ap (λ (y : BookRow). bytes_eq y.name q) same
            ∙ text_turned b.name q ∙ sym (key_is q b.name) ∙ e))

    at : (q : List ℕ) (t : Bool) → eq_by_cmp text_cmp q b.name ≡ t
        → option_map (row_book new) (option_map (with_numbers b.id numbers)
        (find (has_name q) old.books)) ≡ cond (eq_by_cmp text_cmp q b.name)
        (Some (row_book new (record b { numbers = numbers }))) (finite.get (books_of old) q)
    at q true e = rw (
      e,
      book_at q old.books b sound.books there
          (sym (same_text q b.name (sym (key_is q b.name) ∙ e))),
      int_itself b.id,
    )
    at q false e = rw (e, get-books_of old q) (other q e (find (has_name q) old.books) refl)
