-- The rows of well-formed books cause no fault.
use Rattle.std.proofs.Common.{◌≡◌, ◌<◌, ◌≤◌, ◌*◌, ◌^◌, ℕ, Bool, true, false, List, IsUtf8, refl}
use Rattle.std.proofs.Common.{sym, ◌∙◌, true≢false, arith}
use Rattle.std.specs.FinMap as finite
use Rattle.std.specs.Str.{is_utf8}
use Rattle.std.proofs.lemmas.Str.{IsUtf8-from_is_utf8, is_utf8-from_IsUtf8}
use Rattle.book_model.specs.BookNames.{is_legal_name}
use Rattle.book_model.specs.Bounds.{Bounds}
use Rattle.store_tables.proofs.KeyedRows.{all_has}
use Rattle.store_rows.specs.SoundTables.{AreWellFormed, IsReadableBook, IsReadableMember}
use Rattle.store_rows.specs.TableBooks.{books_of, row_book}
use Rattle.store_rows.specs.TableRows.{TableRows}
use Rattle.store_rows.specs.Values.{natural}
use Rattle.store_check.proofs.GetLemmas.{give_book}
use Rattle.store_check.proofs.ListLemmas.{all_from_has}
use Rattle.store_check.proofs.NameLemmas.{no_name}
use Rattle.book_store.proofs.FewLemmas.{few_members}
use Rattle.store_lookups.specs.StoreFaults.{AreFaultless, IsFaultlessBook, IsFaultlessMember}

name_utf8 : (name : List ℕ) → is_legal_name name ≡ true → IsUtf8 name
name_utf8 name legal = go (is_utf8 name) refl
  where
    go : (b : Bool) → is_utf8 name ≡ b → IsUtf8 name
    go true e = IsUtf8-from_is_utf8 name e
    go false e = absurd (true≢false (sym legal
        ∙ sym (no_name name (λ utf8. true≢false (sym (is_utf8-from_IsUtf8 name utf8) ∙ e)))))

pub faultless_rows : (limits : Bounds) (rows : TableRows)
    → limits.books_max * limits.changes_max < 9223372036854775807 → limits.books_max < 2 ^ 63
    → limits.changes_max < 2 ^ 63 → AreWellFormed limits rows → AreFaultless rows
faultless_rows limits rows few few_books few_changes well = record {
  sound = well.sound;
  books = all_from_has IsFaultlessBook rows.books (λ b there.
      let got = give_book rows b well.sound there in
      let is = well.books.each b.name (row_book rows b) got in
      let id : natural b.id ≤ finite.len (books_of rows) =
      well.books.last_id b.name (row_book rows b) got in
      let books : finite.len (books_of rows) ≤ limits.books_max = well.books.within_limit in
      let number : natural b.numbers.number ≤ limits.changes_max = is.within_limit in
      record {
        readable = all_has IsReadableBook rows.books b well.sound.readable.books there;
        name = name_utf8 b.name (well.books.legal_names b.name (row_book rows b) got);
        id = omega (arith, id, books, few_books);
        number = omega (arith, number, few_changes);
        sum = sym is.counted_once;
        horizon = is.horizon_known;
      });
  members = all_from_has IsFaultlessMember rows.members (λ m there.
      let readable = all_has IsReadableMember rows.members m well.sound.readable.members there in
      record { readable = readable; uid = readable.uid.utf8 });
  imports = well.sound.readable.imports;
  few_members = omega (arith, few, few_members limits rows well);
}
