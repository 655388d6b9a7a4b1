-- The tables accept a planned book.
use Rattle.std.proofs.Common.{◌≡◌, ◌≤◌, ◌+◌, ℕ, pos, Bool, true, false, not, int_eq, List, [], ◌∷◌}
use Rattle.std.proofs.Common.{filter, length, min, Result, Ok, refl, sym, ap, ◌∙◌, true≢false}
use Rattle.std.proofs.Common.{arith}
use Rattle.std.specs.Prelude.{nat_le, nat_lt}
use Rattle.std.specs.FinMap as finite
use Rattle.std.specs.List.{AllByRecursion, list_all}
use Rattle.sqlite.specs.Effect.{Database}
use Rattle.sqlite.specs.declared.types.Value.TheVariants.{Int}
use Rattle.sqlite_rules.specs.Lists.{Has}
use Rattle.sqlite_rules.proofs.ListLemmas.{all_from, some_has}
use Rattle.book_model.specs.declared.refusal.Refusal.{Refusal}
use Rattle.book_model.specs.declared.refusal.Refusal.TheVariants.{BadBookName, BookExists}
use Rattle.book_model.specs.declared.refusal.Refusal.TheVariants.{TooManyBooks}
use Rattle.book_model.specs.BookNames.{is_legal_name, is_octet_of_name}
use Rattle.book_model.specs.Bounds.{Bounds}
use Rattle.book_model.specs.CallOutcomes.{◌>>=◌, refuse_unless}
use Rattle.store_tables.specs.Acceptance.{IsShort}
use Rattle.store_tables.specs.Books.{BookRow, has_id, has_name}
use Rattle.store_tables.specs.Keeps.{KeepRow, is_keep_of}
use Rattle.store_tables.specs.QueryResults.{count_value}
use Rattle.store_tables.proofs.KeyedRows.{all_has, same_int}
use Rattle.store_rows.specs.LookupLaws.{IsNameFree}
use Rattle.store_rows.specs.SoundTables.{HasBookId}
use Rattle.store_rows.specs.TableBooks.{books_of}
use Rattle.store_rows.specs.TableRows.{TableRows, HoldsRows}
use Rattle.store_rows.specs.Values.{natural}
use Rattle.store_rows.proofs.LineLemmas.{all_counted}
use Rattle.store_lookups.specs.ChangeFaults.{AcceptChanges}
use Rattle.store_writes.proofs.AcceptLemmas.{at_most, middle_true}
use Rattle.store_writes.proofs.NumberLemmas.{passed}
use Rattle.store_inserts.specs.internal.Creating.{AcceptsNewBook, new_id_among}

-- none of the items passes
pub none_passes : {X : Type 0} (p : X → Bool) (xs : List X) → filter p xs ≡ []
    → AllByRecursion (λ x. p x ≡ false) xs
none_passes p [] none = tt
none_passes p (x ∷ xs) none = go (p x) refl (none_passes p xs)
  where
    go : (b : Bool) → p x ≡ b → (filter p xs ≡ [] → AllByRecursion (λ y. p y ≡ false) xs)
        → AllByRecursion (λ y. p y ≡ false) (x ∷ xs)
    go true e more = absurd (let bad = rw e at none in cc)
    go false e more = (e, more (rw e at none))

name_short : (name : List ℕ) → is_legal_name name ≡ true → IsShort name
name_short name legal = let low = at_most (length name) 40 (middle_true (nat_le 1 (length name))
    (nat_le (length name) 40) (list_all is_octet_of_name name) legal) in omega (arith, low)

-- the new id, and the name, that a plan has
pub planned_id : (limits : Bounds) (name : List ℕ) (rows : TableRows) (id : ℕ)
    → new_id_among limits name (books_of rows) ≡ Ok id → (is_legal_name name ≡ true)
    × (id ≡ finite.len (books_of rows) + 1)
planned_id limits name rows id is =
    let books = books_of rows in
    let exists = finite.contains_key books name in
    let last : Result ℕ Refusal = Ok (finite.len books + 1) in
    let room = refuse_unless (nat_lt (finite.len books) limits.books_max) TooManyBooks >>= λ _.
    last in
    let legal = passed (is_legal_name name) BadBookName (refuse_unless (not exists) BookExists >>=
    λ _. room) id is in
    let free = passed (not exists) BookExists room id legal.1 in
    let left = passed (nat_lt (finite.len books) limits.books_max) TooManyBooks last id free.1 in
    (legal.0, let same = left.1 in cc)

module _ (rows : TableRows) (accept : AcceptChanges rows) (id : ℕ) (next :
    id ≡ finite.len (books_of rows) + 1) where
  counted : finite.len (books_of rows) ≡ length rows.books
  counted =
      let few = accept.few_books in
      let at : min (length rows.books) 9223372036854775807 ≡ length rows.books =
      omega (arith, few) in
      all_counted rows (count_value (length rows.books) ∷ []) (length rows.books)
      accept.faultless.sound refl (record { is = ap (λ n. Int (pos n)) at; below = few })

  above : (b : BookRow) → Has rows.books b → int_eq b.id (pos id) ≡ false
  above b there = go (int_eq b.id (pos id)) refl
    where
      go : (t : Bool) → int_eq b.id (pos id) ≡ t → t ≡ false
      go false e = refl
      go true e =
          let same = ap natural (same_int b.id (pos id) e) in
          let last = all_has (λ b. natural b.id ≤ length rows.books) rows.books b accept.last_id
          there in
          let count = counted in
          absurd (omega (arith, same, last, count, next))

  id_unused : AllByRecursion (λ b. has_id (pos id) b ≡ false) rows.books
  id_unused = all_from (λ b. has_id (pos id) b ≡ false) rows.books above

  no_keep : AllByRecursion (λ k. is_keep_of (pos id) k ≡ false) rows.keeps
  no_keep = all_from (λ k. is_keep_of (pos id) k ≡ false) rows.keeps keep
    where
      keep : (k : KeepRow) → Has rows.keeps k → is_keep_of (pos id) k ≡ false
      keep k there = go (is_keep_of (pos id) k) refl
        where
          go : (t : Bool) → is_keep_of (pos id) k ≡ t → t ≡ false
          go false e = refl
          go true e =
              let listed = all_has (λ k. HasBookId rows.books k.book) rows.keeps k
              accept.faultless.sound.listed_keeps there in
              let it = some_has (has_id k.book) rows.books listed in
              absurd (true≢false (sym it.2 ∙ (ap (λ z. int_eq it.0.id z) (same_int k.book (pos id)
              e) ∙ above it.0 it.1)))

pub accepts_book : (limits : Bounds) (db : Database) (rows : TableRows) (name : List ℕ) (id : ℕ)
    → HoldsRows db rows → AcceptChanges rows → IsNameFree rows name
    → new_id_among limits name (books_of rows) ≡ Ok id → AcceptsNewBook db rows (pos id) name
accepts_book limits db rows name id holds accept free is =
    let plan = planned_id limits name rows id is in
    record {
      lacks = record { holds = holds; sound = accept.faultless.sound; free = free };
      book = record {
        id_unused = id_unused rows accept id plan.1;
        name_unused = none_passes (has_name name) rows.books free.none;
        short = name_short name plan.0;
      };
      no_keep = no_keep rows accept id plan.1;
    }
