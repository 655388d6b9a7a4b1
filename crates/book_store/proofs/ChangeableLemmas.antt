-- The rows of well-formed books can be changed.
use Rattle.std.proofs.Common.{◌≡◌, ◌<◌, ◌≤◌, ◌^◌, ℕ, ℤ, Bool, true, false, ◌&&◌, ◌*◌, nat_le, List}
use Rattle.std.proofs.Common.{[], ◌∷◌, length, refl, sym, subst, true≢false, arith}
use Rattle.std.specs.FinMap as finite
use Rattle.std.specs.List.{list_all, list_any}
use Rattle.std.proofs.lemmas.Bool.{leb-true}
use Rattle.book_model.specs.BookNames.{is_legal_name, is_octet_of_name}
use Rattle.book_model.specs.Bounds.{Bounds}
use Rattle.store_tables.specs.Acceptance.{IsShort}
use Rattle.store_tables.specs.Keeps.{KeepRow, is_keep_of}
use Rattle.sqlite_trees.proofs.ListLemmas.{all_weaker}
use Rattle.vcard_text.specs.Cards.{is_uid}
use Rattle.store_rows.specs.SoundTables.{AreWellFormed, IsReadableMember}
use Rattle.store_rows.specs.TableBooks.{books_of, keep_of_book, row_book}
use Rattle.store_rows.specs.TableRows.{TableRows}
use Rattle.store_rows.specs.Values.{natural}
use Rattle.store_check.proofs.GetLemmas.{give_book, len_books}
use Rattle.store_check.proofs.ListLemmas.{all_from_has}
use Rattle.store_lookups.specs.ChangeFaults.{AcceptChanges, KnowsMembers}
use Rattle.book_store.proofs.FaultlessLemmas.{faultless_rows}

middle_true : (a b c : Bool) → (a && b && c) ≡ true → b ≡ true
middle_true true true c h = refl
middle_true true false c h = absurd (true≢false (sym h))
middle_true false b c h = absurd (true≢false (sym h))

short_name : (name : List ℕ) → is_legal_name name ≡ true → IsShort name
short_name name legal =
    let few = leb-true (length name) 40 (middle_true (nat_le 1 (length name))
    (nat_le (length name) 40) (list_all is_octet_of_name name) legal) in
    omega (arith, few)

some_keep : (book : ℤ) (keeps : List KeepRow) → 1 ≤ keep_of_book book keeps
    → list_any (is_keep_of book) keeps ≡ true
some_keep book [] h = absurd (omega (arith, h))
some_keep book (k ∷ ks) h = step (is_keep_of book k) refl (some_keep book ks)
  where
    step : (b : Bool) → is_keep_of book k ≡ b
        → (1 ≤ keep_of_book book ks → list_any (is_keep_of book) ks ≡ true)
        → list_any (is_keep_of book) (k ∷ ks) ≡ true
    step true e more = rw e refl
    step false e more = rw e (more (rw e at h))

short_uid : (uid : List ℕ) → is_uid uid ≡ true → IsShort uid
short_uid uid legal =
    let few = leb-true (length uid) 255 (middle_true (nat_le 1 (length uid))
    (nat_le (length uid) 255) _ legal) in
    omega (arith, few)

pub changeable_rows : (limits : Bounds) (rows : TableRows)
    → limits.books_max * limits.changes_max < 9223372036854775807
    → limits.books_max < 9223372036854775807 → limits.changes_max < 2 ^ 63
    → AreWellFormed limits rows → AcceptChanges rows
changeable_rows limits rows few few_books few_changes well =
    let count = len_books rows well.sound in
    let within : finite.len (books_of rows) ≤ limits.books_max = well.books.within_limit in
    record {
      faultless = faultless_rows limits rows few (omega (arith, few_books)) few_changes well;
      short_names = all_from_has (λ b. IsShort b.name) rows.books (λ b there.
          short_name b.name (well.books.legal_names b.name (row_book rows b)
          (give_book rows b well.sound there)));
      last_id = all_from_has (λ b. natural b.id ≤ length rows.books) rows.books (λ b there.
          subst (λ n. natural b.id ≤ n) count (well.books.last_id b.name (row_book rows b)
          (give_book rows b well.sound there)));
      few_books = omega (arith, count, within, few_books);
      short_uids = all_weaker IsReadableMember (λ m. IsShort m.uid)
          (λ m h. short_uid m.uid h.uid.legal) rows.members well.sound.readable.members;
      known = all_from_has (λ b. KnowsMembers (row_book rows b)) rows.books (λ b there uid row got.
          ((well.books.each b.name (row_book rows b) (give_book rows b well.sound there)).rows uid
          row got).known);
      keeps = well.sound.readable.keeps;
      kept = all_from_has (λ b. list_any (is_keep_of b.id) rows.keeps ≡ true) rows.books (λ b there.
          some_keep b.id rows.keeps (well.books.each b.name (row_book rows b)
          (give_book rows b well.sound there)).keep_least);
    }
