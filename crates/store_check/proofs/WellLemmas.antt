-- Rows that pass the tests represent well-formed books.
use Rattle.std.proofs.Common.{◌≡◌, inl, inr, ◌⊎◌, ◌≤◌, ℕ, ℤ, pos, true, false, ◌&&◌, List, filter}
use Rattle.std.proofs.Common.{length, int_eq, Option, Some, None, IfSome, refl, sym, ap, ap₂, subst}
use Rattle.std.proofs.Common.{◌∙◌, ◌+◌, true≢false}
use Rattle.std.specs.Option.{option_map}
use Rattle.std.specs.FinMap as finite
use Rattle.sqlite_rules.specs.Lists.{Has}
use Rattle.vcard_text.specs.Cards.{uid_of}
use Rattle.vcard_lines.specs.declared.line.Line.{Line}
use Rattle.book_model.specs.declared.answers.ImportTally.{ImportTally}
use Rattle.book_model.specs.declared.row.Row.{Row as Kept}
use Rattle.book_model.specs.BookNames.{is_legal_name}
use Rattle.book_model.specs.Bounds.{Bounds}
use Rattle.book_model.specs.Books.{Book}
use Rattle.book_model.specs.Counting.{departed_cards}
use Rattle.book_model.specs.Importing.{is_legal_key}
use Rattle.book_model.specs.BookQueries.{tombstone_count}
use Rattle.book_model.specs.WellFormed.{IsWellFormed, IsWellFormedBook, IsWellFormedRow}
use Rattle.book_model.specs.WellFormed.{IsWellFormedImport}
use Rattle.book_model.proofs.BasicLemmas.{same_Some_at}
use Rattle.store_tables.specs.Books.{BookRow}
use Rattle.store_tables.specs.Imports.{ImportRow}
use Rattle.store_tables.specs.Members.{MemberRow, is_removed_above}
use Rattle.store_tables.proofs.KeyedRows.{all_has, int_itself}
use Rattle.store_rows.specs.SoundTables.{AreSoundRows, AreWellFormed, IsReadableBook}
use Rattle.store_rows.specs.SoundTables.{IsReadableMember}
use Rattle.store_rows.specs.TableBooks.{model_row, row_counts, keep_of_book, members_in, imports_in}
use Rattle.store_rows.specs.TableBooks.{row_book, books_of}
use Rattle.store_rows.specs.TableRows.{TableRows}
use Rattle.store_rows.specs.Values.{IsNatural, natural, text_card}
use Rattle.store_rows.proofs.BookLemmas.{same_row}
use Rattle.store_rows.proofs.RemovedLemmas.{removed_count}
use Rattle.store_check.specs.BookChecks.{PassRowChecks, IsCheckedBook, IsCheckedMember}
use Rattle.store_check.specs.BookChecks.{IsCheckedImport, IfBook, is_written_by}
use Rattle.store_check.proofs.GetLemmas.{got_book, len_books, found_by_id, got_member, got_import}
use Rattle.store_check.proofs.GetLemmas.{live_count_is}
use Rattle.store_check.proofs.ListLemmas.{alike_or_apart}

pub same_natural : (y z : ℤ) → IsNatural y → IsNatural z → natural y ≡ natural z → y ≡ z
same_natural y z a b e = a ∙ ap pos e ∙ sym b

pub remembered_is : (rows : TableRows) (b : BookRow) → AreSoundRows rows
    → IsNatural b.numbers.horizon
    → tombstone_count (row_book rows b) ≡ length (filter (is_removed_above b.id b.numbers.horizon)
    rows.members)
remembered_is rows b sound is =
    removed_count b.id rows.members (natural b.numbers.horizon) sound.members
    ∙ ap (λ h. length (filter (is_removed_above b.id h) rows.members)) (sym is)

no_card : (c : Option (List ℕ)) → option_map text_card c ≡ None → c ≡ None
no_card None e = refl
no_card (Some t) e = absurd (let k = e in cc)

member_well : (rows : TableRows) (b : BookRow) (uid : List ℕ) (m : MemberRow) → m.uid ≡ uid
    → IsCheckedMember m b → IsWellFormedRow (row_book rows b) uid (model_row m)
member_well rows b uid m is c = record {
  first = c.first;
  known = c.known;
  own_card = own m.card c.own_card;
  remembered = λ e. c.remembered (no_card m.card e);
}
  where
    own : (text : Option (List ℕ)) → IfSome text (λ t. uid_of (text_card t) ≡ m.uid)
        → (card : List Line) → option_map text_card text ≡ Some card → uid_of card ≡ uid
    own None h card e = absurd (let k = e in cc)
    own (Some t) h card e = ap uid_of (sym (same_Some_at (text_card t) card e)) ∙ h ∙ is

-- a property of the book with an id holds of each book that has it
of_book : (rows : TableRows) (b : BookRow) (id : ℤ) (P : BookRow → Type 0) → AreSoundRows rows
    → Has rows.books b → id ≡ b.id → IfBook rows.books id P → P b
of_book rows b id P sound there is h =
    subst (λ o. IfSome o P) (found_by_id rows b id sound there is) h

module _ (limits : Bounds) (rows : TableRows) (sound : AreSoundRows rows) (c :
    PassRowChecks limits rows) where
  checked_member : (b : BookRow) (m : MemberRow) → Has rows.books b → Has rows.members m
      → m.book ≡ b.id → IsCheckedMember m b
  checked_member b m there has is =
      of_book rows b m.book (IsCheckedMember m) sound there is
      (all_has (λ (n : MemberRow). IfBook rows.books n.book (IsCheckedMember n)) rows.members m
      c.members has)

  checked_import : (b : BookRow) (i : ImportRow) → Has rows.books b → Has rows.imports i
      → i.book ≡ b.id → IsCheckedImport i b
  checked_import b i there has is =
      of_book rows b i.book (IsCheckedImport i) sound there is
      (all_has (λ (n : ImportRow). IfBook rows.books n.book (IsCheckedImport n)) rows.imports i
      c.imports has)

  checked_book : (b : BookRow) → Has rows.books b
      → IsCheckedBook limits (length rows.books) rows.members rows.keeps b
  checked_book b there = all_has (IsCheckedBook limits (length rows.books) rows.members rows.keeps)
      rows.books b c.books there

  readable_book : (b : BookRow) → Has rows.books b → IsReadableBook b
  readable_book b there = all_has IsReadableBook rows.books b sound.readable.books there

  -- two members of a book that the same change wrote are equal
  one_member : (b : BookRow) (m n : MemberRow) → Has rows.members m → Has rows.members n
      → m.book ≡ b.id → n.book ≡ b.id → natural m.changed ≡ natural n.changed → m ≡ n
  one_member b m n has also is too e =
      go (alike_or_apart (λ (x y : MemberRow). is_written_by x.book x.changed y ≡ false)
      rows.members m n c.apart has also)
    where
      same : m.changed ≡ n.changed
      same = same_natural m.changed n.changed (all_has IsReadableMember rows.members m
          sound.readable.members has).changed (all_has IsReadableMember rows.members n
          sound.readable.members also).changed e

      written : (x y : MemberRow) → y.book ≡ x.book → y.changed ≡ x.changed
          → is_written_by x.book x.changed y ≡ true
      written x y p q = ap₂ (λ s t. s && t) (ap (λ k. int_eq k x.book) p ∙ int_itself x.book)
          (ap (λ k. int_eq k x.changed) q ∙ int_itself x.changed)

      go : (m ≡ n) ⊎ ((is_written_by m.book m.changed n ≡ false)
          ⊎ (is_written_by n.book n.changed m ≡ false)) → m ≡ n
      go (inl h) = h
      go (inr (inl h)) = absurd (true≢false (sym (written m n (too ∙ sym is) (sym same)) ∙ h))
      go (inr (inr h)) = absurd (true≢false (sym (written n m (is ∙ sym too) same) ∙ h))

  member_rows : (b : BookRow) → Has rows.books b → (uid : List ℕ) (row : Kept)
      → finite.get (members_in b.id rows.members) uid ≡ Some row
      → IsWellFormedRow (row_book rows b) uid row
  member_rows b there uid row h =
      let it = got_member rows b uid row h in
      subst (IsWellFormedRow (row_book rows b) uid) (sym it.is) (member_well rows b uid it.m
      it.uid_is (checked_member b it.m there it.there it.book_is))

  rows_apart : (b : BookRow) (u v : List ℕ) (x y : Kept)
      → finite.get (members_in b.id rows.members) u ≡ Some x
      → finite.get (members_in b.id rows.members) v ≡ Some y → x.changed ≡ y.changed → u ≡ v
  rows_apart b u v x y h k e =
      let m = got_member rows b u x h in
      let n = got_member rows b v y k in
      let one = one_member b m.m n.m m.there n.there m.book_is n.book_is
      (sym (ap (λ (r : Kept). r.changed) m.is) ∙ e ∙ ap (λ (r : Kept). r.changed) n.is) in
      sym m.uid_is ∙ ap (λ (r : MemberRow). r.uid) one ∙ n.uid_is

  import_rows : (b : BookRow) → Has rows.books b → (key : List ℕ) (tally : ImportTally)
      → finite.get (imports_in b.id rows.imports) key ≡ Some tally
      → IsWellFormedImport (row_book rows b) key tally
  import_rows b there key tally h =
      let it = got_import rows b key tally h in
      let is = checked_import b it.i there it.there it.book_is in
      record {
        legal = subst (λ k. is_legal_key k ≡ true) it.key_is is.legal;
        known = subst (λ (t : ImportTally). t.number ≤ natural b.numbers.number) (sym it.is)
            is.known;
      }

  book_well : (b : BookRow) → Has rows.books b → IsWellFormedBook limits (row_book rows b)
  book_well b there =
      let is = checked_book b there in
      record {
        counted_once = is.bounds.counted_once;
        within_limit = is.bounds.within_limit;
        horizon_known = is.bounds.horizon_known;
        keep_least = is.agrees.keep_least;
        within_keep = subst (λ n. n ≤ keep_of_book b.id rows.keeps)
            (sym (remembered_is rows b sound (readable_book b there).numbers.horizon))
            is.agrees.within_keep;
        cards_counted = ap (λ n. n + departed_cards (row_counts b.numbers))
            (live_count_is rows b sound) ∙ is.agrees.cards_counted;
        rows = member_rows b there;
        rows_apart = rows_apart b;
        imports = import_rows b there;
      }

  one_book : (p q : BookRow) → Has rows.books p → Has rows.books q → natural p.id ≡ natural q.id
      → p ≡ q
  one_book p q there also e =
      let same = same_natural p.id q.id (readable_book p there).id (readable_book q also).id e in
      same_row rows.books p q sound.books there also (ap (λ k. int_eq k q.id) same
      ∙ int_itself q.id)

  books_well : IsWellFormed limits (books_of rows)
  books_well = record {
    within_limit = subst (λ n. n ≤ limits.books_max) (sym (len_books rows sound)) c.few;
    legal_names = λ name book h. let it = got_book rows name book h in
        subst (λ n. is_legal_name n ≡ true) it.name_is (checked_book it.row it.there).legal;
    first_id = λ name book h. let it = got_book rows name book h in
        subst (λ (k : Book). 1 ≤ k.id) (sym it.is) (checked_book it.row it.there).numbered.first;
    last_id = λ name book h. let it = got_book rows name book h in
        subst (λ n. book.id ≤ n) (sym (len_books rows sound))
        (subst (λ (k : Book). k.id ≤ length rows.books) (sym it.is)
        (checked_book it.row it.there).numbered.last);
    ids_apart = λ u v x y h k e.
        let p = got_book rows u x h in
        let q = got_book rows v y k in
        let one = one_book p.row q.row p.there q.there (sym (ap (λ (r : Book). r.id) p.is) ∙ e
        ∙ ap (λ (r : Book). r.id) q.is) in
        sym p.name_is ∙ ap (λ (r : BookRow). r.name) one ∙ q.name_is;
    each = λ name book h. let it = got_book rows name book h in
        subst (IsWellFormedBook limits) (sym it.is) (book_well it.row it.there);
  }

  pub rows_well : AreWellFormed limits rows
  rows_well = record { sound = sound; books = books_well }
