-- Rows that represent well-formed books pass the tests.
use Rattle.std.proofs.Common.{◌≡◌, inl, inr, ◌≤◌, ℕ, ℤ, Bool, true, false, ◌&&◌, List, [], ◌∷◌}
use Rattle.std.proofs.Common.{find, length, bytes_eq, int_eq, Option, Some, None, IfSome, IsTrue}
use Rattle.std.proofs.Common.{◌↔◌, is_some, refl, sym, ap, ap₂, subst, ◌∙◌, ◌+◌, true≢false}
use Rattle.std.specs.List.{list_any}
use Rattle.std.specs.Option.{option_map}
use Rattle.std.proofs.lemmas.Bool.{and_parts}
use Rattle.sqlite_rules.specs.Lists.{Has}
use Rattle.vcard_text.specs.Cards.{uid_of}
use Rattle.book_model.specs.Bounds.{Bounds}
use Rattle.book_model.specs.Counting.{departed_cards}
use Rattle.book_model.specs.WellFormed.{IsWellFormedBook, IsWellFormedRow}
use Rattle.book_model.proofs.BasicLemmas.{is_some-map}
use Rattle.store_tables.specs.Books.{BookRow, has_id}
use Rattle.store_tables.specs.Imports.{ImportRow}
use Rattle.store_tables.specs.Members.{MemberRow, has_uid}
use Rattle.store_tables.proofs.KeyedRows.{all_has, same_int, text_itself}
use Rattle.store_rows.specs.SoundTables.{HasBookId, AreWellFormed, IsReadableBook}
use Rattle.store_rows.specs.TableBooks.{model_row, row_tally, row_counts, keep_of_book, row_book}
use Rattle.store_rows.specs.TableRows.{TableRows}
use Rattle.store_rows.specs.Values.{natural, text_card}
use Rattle.store_rows.proofs.KeyedEntries.{found_has}
use Rattle.store_check.specs.BookChecks.{PassRowChecks, IsCheckedBook, IsCheckedMember}
use Rattle.store_check.specs.BookChecks.{IsCheckedImport, IfBook, is_written_by}
use Rattle.store_check.proofs.GetLemmas.{give_book, len_books, give_member, give_import}
use Rattle.store_check.proofs.GetLemmas.{live_count_is}
use Rattle.store_check.proofs.ListLemmas.{all_from_has, ascending_on}
use Rattle.store_check.proofs.WellLemmas.{remembered_is}

-- the listed book
listed_book : (bs : List BookRow) (id : ℤ) → list_any (has_id id) bs ≡ true → (b : BookRow)
    × Has bs b × (id ≡ b.id)
listed_book [] id h = absurd (true≢false (sym h))
listed_book (b ∷ bs) id h = step (has_id id b) refl h (listed_book bs id)
  where
    step : (t : Bool) → has_id id b ≡ t → list_any (has_id id) (b ∷ bs) ≡ true
        → (list_any (has_id id) bs ≡ true → (c : BookRow) × Has bs c × (id ≡ c.id)) → (c : BookRow)
        × Has (b ∷ bs) c × (id ≡ c.id)
    step true e h more = (b, inl refl, sym (same_int b.id id e))
    step false e h more = let it = more (rw e at h) in (it.0, inr it.1, it.2)

-- a property of each book that has the id holds of the one that the look-up finds
of_found : (bs : List BookRow) (id : ℤ) (P : BookRow → Type 0)
    → ((b : BookRow) → Has bs b → id ≡ b.id → P b) → IfBook bs id P
of_found bs id P h = go (find (has_id id) bs) refl
  where
    go : (o : Option BookRow) → find (has_id id) bs ≡ o → IfSome o P
    go None e = tt
    go (Some b) e = let it = found_has (has_id id) bs b e in h b it.0 (sym (same_int b.id id it.1))

member_checked : (rows : TableRows) (b : BookRow) (m : MemberRow)
    → IsWellFormedRow (row_book rows b) m.uid (model_row m) → IsCheckedMember m b
member_checked rows b m w = record {
  first = w.first;
  known = w.known;
  own_card = own m.card refl;
  remembered = λ e. w.remembered (ap (option_map text_card) e);
}
  where
    own : (text : Option (List ℕ)) → m.card ≡ text → IfSome text (λ t. uid_of (text_card t) ≡ m.uid)
    own None e = tt
    own (Some t) e = w.own_card (text_card t) (ap (option_map text_card) e)

module _ (limits : Bounds) (rows : TableRows) (well : AreWellFormed limits rows) where
  book_is : (b : BookRow) → Has rows.books b → IsWellFormedBook limits (row_book rows b)
  book_is b there = well.books.each b.name (row_book rows b) (give_book rows b well.sound there)

  checked_book : (b : BookRow) → Has rows.books b
      → IsCheckedBook limits (length rows.books) rows.members rows.keeps b
  checked_book b there =
      let got = give_book rows b well.sound there in
      let is = book_is b there in
      let horizon = (all_has IsReadableBook rows.books b well.sound.readable.books
      there).numbers.horizon in
      record {
        legal = well.books.legal_names b.name (row_book rows b) got;
        numbered = record {
          first = well.books.first_id b.name (row_book rows b) got;
          last = subst (λ n. natural b.id ≤ n) (len_books rows well.sound)
              (well.books.last_id b.name (row_book rows b) got);
        };
        bounds = record {
          counted_once = is.counted_once;
          within_limit = is.within_limit;
          horizon_known = is.horizon_known;
        };
        agrees = record {
          keep_least = is.keep_least;
          within_keep = subst (λ n. n ≤ keep_of_book b.id rows.keeps)
              (remembered_is rows b well.sound horizon) is.within_keep;
          cards_counted = ap (λ n. n + departed_cards (row_counts b.numbers))
              (sym (live_count_is rows b well.sound)) ∙ is.cards_counted;
        };
      }

  checked_member : (m : MemberRow) → Has rows.members m
      → IfBook rows.books m.book (IsCheckedMember m)
  checked_member m has = of_found rows.books m.book (IsCheckedMember m) (λ b there is.
      member_checked rows b m ((book_is b there).rows m.uid (model_row m)
      (give_member rows b m well.sound has is)))

  checked_import : (i : ImportRow) → Has rows.imports i
      → IfBook rows.books i.book (IsCheckedImport i)
  checked_import i has = of_found rows.books i.book (IsCheckedImport i) (λ b there is.
      let w = (book_is b there).imports i.key (row_tally i) (give_import rows b i well.sound has
      is) in
      record { legal = w.legal; known = w.known })

  -- two members with different keys were written by different changes
  changes_apart : (a b : MemberRow) → Has rows.members a → Has rows.members b
      → has_uid a.book a.uid b ≡ false → is_written_by a.book a.changed b ≡ false
  changes_apart a b has also away = go (is_written_by a.book a.changed b) refl
    where
      go : (t : Bool) → is_written_by a.book a.changed b ≡ t → t ≡ false
      go false e = refl
      go true e =
          let at = and_parts (int_eq b.book a.book) (int_eq b.changed a.changed) e in
          let book : b.book ≡ a.book = same_int b.book a.book at.0 in
          let changed : b.changed ≡ a.changed = same_int b.changed a.changed at.1 in
          let listed = listed_book rows.books a.book
          (all_has (λ (m : MemberRow). list_any (has_id m.book) rows.books ≡ true) rows.members
          a well.sound.listed_members has) in
          let same = (book_is listed.0 listed.1).rows_apart a.uid b.uid (model_row a) (model_row b)
          (give_member rows listed.0 a well.sound has listed.2) (give_member rows listed.0 b
          well.sound also (book ∙ listed.2)) (ap natural (sym changed)) in
          absurd (true≢false (sym (ap₂ (λ s t. s && t) at.0 (ap (λ k. bytes_eq k a.uid) (sym same)
          ∙ text_itself a.uid)) ∙ away))

  pub rows_checked : PassRowChecks limits rows
  rows_checked = record {
    few = subst (λ n. n ≤ limits.books_max) (len_books rows well.sound) well.books.within_limit;
    books = all_from_has (IsCheckedBook limits (length rows.books) rows.members rows.keeps)
        rows.books checked_book;
    members = all_from_has (λ (m : MemberRow). IfBook rows.books m.book (IsCheckedMember m))
        rows.members checked_member;
    apart = ascending_on (λ (a b : MemberRow). (int_eq a.id b.id ≡ false)
        × (has_uid a.book a.uid b ≡ false)) (λ (a b : MemberRow). is_written_by a.book a.changed b
        ≡ false) rows.members
        (λ a b h k r. changes_apart a b h k r.1) well.sound.members;
    imports = all_from_has (λ (i : ImportRow). IfBook rows.books i.book (IsCheckedImport i))
        rows.imports checked_import;
  }

-- ---- listed books

pub any_found : (p : BookRow → Bool) (bs : List BookRow) → is_some (find p bs) ≡ list_any p bs
any_found p [] = refl
any_found p (b ∷ bs) = step (p b) refl (any_found p bs)
  where
    step : (t : Bool) → p b ≡ t → is_some (find p bs) ≡ list_any p bs
        → is_some (find p (b ∷ bs)) ≡ list_any p (b ∷ bs)
    step true e more = rw e refl
    step false e more = rw e more

pub listed_is : {X : Type 0} (f : X → BookRow) (o : Option X) (bs : List BookRow) (id : ℤ)
    (returned : Bool) → returned ≡ is_some o → option_map f o ≡ find (has_id id) bs
    → IsTrue returned ↔ HasBookId bs id
listed_is f o bs id returned is found =
    let e : returned ≡ list_any (has_id id) bs = is ∙ sym (is_some-map f o)
    ∙ ap (λ r. is_some r) found ∙ any_found (has_id id) bs in
    (λ t. sym e ∙ t, λ h. e ∙ h)
