-- Faults of rows, and the tests that fail for them.
use Rattle.std.proofs.Common.{◌≡◌, ◌≤◌, ◌↔◌, ℕ, ℤ, List, map, find, length, Option, Some, None}
use Rattle.std.proofs.Common.{IfSome, IsTrue, Bool, true≢false, is_some, is_none, refl, sym, ap}
use Rattle.std.proofs.Common.{subst, ◌∙◌, arith, IsUtf8}
use Rattle.std.specs.List.{AllByRecursion}
use Rattle.std.specs.Option.{IsSomeAnd, option_map}
use Rattle.std.proofs.lemmas.List.{length-map}
use Rattle.sqlite.specs.Order.{Row}
use Rattle.sqlite_rules.specs.Lists.{Has}
use Rattle.sqlite_trees.proofs.ListLemmas.{all_from_map}
use Rattle.vcard_text.proofs.TextLemmas.{text_found}
use Rattle.book_model.specs.Bounds.{Bounds}
use Rattle.store_tables.specs.Books.{BookRow, has_id}
use Rattle.store_tables.specs.Members.{MemberRow}
use Rattle.store_tables.specs.Keeps.{KeepRow}
use Rattle.store_tables.proofs.KeyedRows.{all_has}
use Rattle.store_rows.specs.SoundTables.{HasBookId}
use Rattle.store_rows.specs.TableRows.{load_import, load_member}
use Rattle.store_rows.specs.Values.{IsCanonical, natural}
use Rattle.store_check.specs.declared.faults.BookFault.{BookFault}
use Rattle.store_check.specs.declared.faults.BookFault.TheVariants as book
use Rattle.store_check.specs.declared.faults.FaultyRow.{FaultyRow}
use Rattle.store_check.specs.declared.faults.ImportFault.{ImportFault}
use Rattle.store_check.specs.declared.faults.ImportFault.TheVariants as import_of
use Rattle.store_check.specs.declared.faults.KeepFault.{KeepFault}
use Rattle.store_check.specs.declared.faults.KeepFault.TheVariants as keep_of
use Rattle.store_check.specs.declared.faults.MemberFault.{MemberFault}
use Rattle.store_check.specs.declared.faults.MemberFault.TheVariants as member
use Rattle.store_check.specs.declared.faults.RowFault.{RowFault}
use Rattle.store_check.specs.declared.faults.RowFault.TheVariants as table
use Rattle.store_check.specs.declared.tallies.BookTally.{BookTally}
use Rattle.store_check.specs.BookChecks.{IsCheckedBook, IsCheckedImport}
use Rattle.store_check.specs.MemberTallies.{AreCounted, IsGoodMember, has_book, tally_of}
use Rattle.store_check.specs.RowChecks.{IsBookAnd, IsBookRow, IsImportRow, IsKeepRow, IsValidMember}
use Rattle.store_check.specs.RowChecks.{decode_book, decode_keep}
use Rattle.store_check.specs.RowFaults.{HasBookFault, HasImportFault, HasKeepFault, HasMemberFault}
use Rattle.store_check.specs.RowFaults.{IsAmong, IsFaultyRow, IsLabelled, JudgesMember}
use Rattle.store_check.specs.RowFaults.{JudgesMemberOf}
use Rattle.store_check.specs.StoredTests.{PassAllTests}
use Rattle.store_check.proofs.CheckedLemmas.{any_found}
use Rattle.store_check.proofs.CountLemmas.{there_mapped}
use Rattle.store_check.proofs.TallyLemmas.{tally_found}

-- the text of a card is valid UTF-8
pub canonical_utf8 : (text : List ℕ) → IsCanonical text → IsUtf8 text
canonical_utf8 text h = (text_found text h.lines h.spelled).utf8

-- ---- no row is bad, or one is

-- a list of which one item is bad is not all good
pub not_all : {X Y : Type 0} (P : Y → Type 0) (f : X → Y) (xs : List X) (x : X) → Has xs x
    → ¬ P (f x) → ¬ AllByRecursion P (map f xs)
not_all P f xs x there bad all = bad (all_has P (map f xs) (f x) all (there_mapped f xs x there))

pub not_every : {X : Type 0} (P : X → Type 0) (xs : List X) (x : X) → Has xs x → ¬ P x
    → ¬ AllByRecursion P xs
not_every P xs x there bad all = bad (all_has P xs x all there)

pub none_bad : {X A : Type 0} (P : X → Type 0) (o : Option X) (none : Bool) → none ≡ is_none o
    → (o ≡ None → A) → IfSome o P → ((x : X) → P x → ¬ A) → IsTrue none ↔ A
none_bad P None none is good bad fails = (λ _. good refl, λ _. is)
none_bad P (Some x) none is good bad fails =
    (λ t. absurd (true≢false (sym t ∙ is)), λ a. absurd (fails x bad a))

-- no book has the id
pub none_listed : (books : List BookRow) (id : ℤ) → ¬ HasBookId books id
    → find (has_id id) books ≡ None
none_listed books id none = go (find (has_id id) books) refl
  where
    go : (o : Option BookRow) → find (has_id id) books ≡ o → find (has_id id) books ≡ None
    go None e = e
    go (Some b) e = absurd (none (sym (any_found (has_id id) books) ∙ ap is_some e))

-- a labelled row
pub labelled : (limits : Bounds) (books members imports keeps : List Row) (r : Row) (fault :
    RowFault) (f : FaultyRow) → IsAmong limits books members imports keeps r fault
    → IsLabelled books r fault f
    → IsFaultyRow limits books members imports keeps f
labelled limits books members imports keeps r fault f among l = record {
  row = r;
  among = subst (IsAmong limits books members imports keeps r) (sym l.fault_is) among;
  label = subst (λ x. IsLabelled books r x f) (sym l.fault_is) l;
}

-- ---- the book of a member

module _ (ms : List MemberRow) (books : List BookRow) (tallies : List BookTally) (counts :
    AreCounted ms books tallies) (r : Row) where
  abbrev id : ℤ
  id = (load_member r).book

  found_in : (o : Option BookTally) → find (has_book id) tallies ≡ o
      → option_map (tally_of ms) (find (has_id id) books) ≡ o
  found_in o found = sym (tally_found ms id books) ∙ (ap (find (has_book id)) (sym counts) ∙ found)

  pub judged_there : (t : BookTally) → find (has_book id) tallies ≡ Some t
      → (fault : Option MemberFault)
      → ((b : BookRow) → natural b.numbers.number ≡ t.number → b.numbers.horizon ≡ t.horizon
      → JudgesMemberOf r b fault) → JudgesMember books r fault
  judged_there t found fault h = go (find (has_id id) books) refl (found_in (Some t) found)
    where
      go : (o : Option BookRow) → find (has_id id) books ≡ o → option_map (tally_of ms) o ≡ Some t
          → JudgesMember books r fault
      go None at e = absurd (let f = e in cc)
      go (Some b) at e =
          let same : tally_of ms b ≡ t = let f = e in cc in
          judged fault b at (h b (ap (λ (u : BookTally). u.number) same)
          (ap (λ (u : BookTally). u.horizon) same))
        where
          judged : (fault : Option MemberFault) (b : BookRow) → find (has_id id) books ≡ Some b
              → JudgesMemberOf r b fault → JudgesMember books r fault
          judged None b at k = subst (λ o. IsSomeAnd o (IsValidMember (load_member r))) (sym at) k
          judged (Some f) b at k = k books at

  pub absent_there : find (has_book id) tallies ≡ None → find (has_id id) books ≡ None
  absent_there found = go (find (has_id id) books) (found_in None found)
    where
      go : (o : Option BookRow) → option_map (tally_of ms) o ≡ None → o ≡ None
      go None e = refl
      go (Some b) e = absurd (let f = e in cc)

-- ---- a row with a fault fails a test

-- two properties of the book with the id
of_both : (books : List BookRow) (id : ℤ) (P Q : BookRow → Type 0) → ((b : BookRow) → P b → Q b → ⊥)
    → IsBookAnd books id P → IsBookAnd books id Q → ⊥
of_both books id P Q h = go (find (has_id id) books)
  where
    go : (o : Option BookRow) → IsSomeAnd o P → IsSomeAnd o Q → ⊥
    go None p q = p
    go (Some b) p q = h b p q

of_none : (books : List BookRow) (id : ℤ) (P : BookRow → Type 0) → find (has_id id) books ≡ None
    → IsBookAnd books id P → ⊥
of_none books _ P none h = subst (λ o. IsSomeAnd o P) none h

of_one : (books : List BookRow) (id : ℤ) (P : BookRow → Type 0) (A : Type 0)
    → ((b : BookRow) → P b → A) → IsBookAnd books id P → A
of_one books id P A h = go (find (has_id id) books)
  where
    go : (o : Option BookRow) → IsSomeAnd o P → A
    go None p = absurd p
    go (Some b) p = h b p

book_fails : (limits : Bounds) (count : ℕ) (members : List MemberRow) (keeps : List KeepRow) (r :
    Row) (fault : BookFault) → HasBookFault limits count members keeps r fault
    → IsBookRow r → count ≤ limits.books_max
    → IsCheckedBook limits count members keeps (decode_book r) → ⊥
book_fails limits count members keeps r book.Columns h shown few c = h shown
book_fails limits count members keeps r book.TooMany h shown few c = omega (arith, h, few)
book_fails limits count members keeps r book.Id h shown few c = h c.numbered
book_fails limits count members keeps r book.Name h shown few c = true≢false (sym c.legal ∙ h)
book_fails limits count members keeps r book.Numbers h shown few c = h c.bounds
book_fails limits count members keeps r book.Keep h shown few c =
    h (c.agrees.keep_least, c.agrees.within_keep)
book_fails limits count members keeps r book.Cards h shown few c = h c.agrees.cards_counted

pub member_fails : (books : List BookRow) (r : Row) (fault : MemberFault)
    → HasMemberFault books r fault → ¬ IsGoodMember books r
member_fails books r member.Columns h good = h good.0
member_fails books r member.NoBook h good =
    of_none books (load_member r).book (IsValidMember (load_member r)) h good.1
member_fails books r member.Number h good =
    of_both books (load_member r).book _ (IsValidMember (load_member r))
    (λ b no v. no (v.checked.first, v.checked.known)) h good.1
member_fails books r member.Card h good =
    h (of_one books (load_member r).book (IsValidMember (load_member r)) _ (λ b v. v.readable.card)
    good.1)
member_fails books r member.Uid h good =
    h (of_one books (load_member r).book (IsValidMember (load_member r)) _ (λ b v. v.readable.uid)
    good.1)
    (of_one books (load_member r).book (IsValidMember (load_member r)) _ (λ b v. v.checked.own_card)
    good.1)
member_fails books r member.Tombstone h good =
    of_both books (load_member r).book _ (IsValidMember (load_member r))
    (λ b low v. let above = v.checked.remembered h.0 in omega (arith, low, above)) h.1 good.1

import_fails : (books : List BookRow) (r : Row) (fault : ImportFault) → HasImportFault books r fault
    → IsImportRow r → IsBookAnd books (load_import r).book (IsCheckedImport (load_import r)) → ⊥
import_fails books r import_of.Columns h shown valid = h shown
import_fails books r import_of.NoBook h shown valid =
    of_none books (load_import r).book (IsCheckedImport (load_import r)) h valid
import_fails books r import_of.Key h shown valid =
    of_one books (load_import r).book (IsCheckedImport (load_import r)) ⊥
    (λ b v. true≢false (sym v.legal ∙ h)) valid
import_fails books r import_of.Number h shown valid =
    of_both books (load_import r).book _ (IsCheckedImport (load_import r))
    (λ b over v. let known = v.known in omega (arith, over, known)) h valid

keep_fails : (books : List BookRow) (r : Row) (fault : KeepFault) → HasKeepFault books r fault
    → IsKeepRow r → HasBookId books (decode_keep r).book → ⊥
keep_fails books r keep_of.Columns h shown listed = h shown
keep_fails books r keep_of.NoBook h shown listed =
    true≢false (sym (any_found (has_id (decode_keep r).book) books ∙ listed) ∙ ap is_some h)

module _ (limits : Bounds) (books members imports keeps : List Row) (t :
    PassAllTests limits books members imports keeps) where
  abbrev rows : List BookRow
  rows = map decode_book books

  fails : (fault : RowFault) (r : Row) → IsAmong limits books members imports keeps r fault → ⊥
  fails (table.Book fault) r h =
      let count : length rows ≡ length books = length-map books decode_book in
      book_fails limits (length books) (map load_member members) (map decode_keep keeps) r fault h.1
      (all_has IsBookRow books r t.own.each_book h.0) (subst (λ n. n ≤ limits.books_max) count
      t.own.few)
      (subst (λ n. IsCheckedBook limits n (map load_member members) (map decode_keep keeps)
      (decode_book r)) count
      (all_has (IsCheckedBook limits (length rows) (map load_member members)
      (map decode_keep keeps)) rows (decode_book r) t.passed.checked
      (there_mapped decode_book books r h.0)))
  fails (table.Member fault) r h = member_fails rows r fault h.1
      (all_has (IsGoodMember rows) members r t.passed.good h.0)
  fails (table.Import fault) r h = import_fails rows r fault h.1 (all_has IsImportRow imports r
      t.own.each_import h.0)
      (all_has _ imports r (all_from_map _ load_import imports t.own.valid_imports) h.0)
  fails (table.Keep fault) r h = keep_fails rows r fault h.1
      (all_has IsKeepRow keeps r t.own.each_keep h.0)
      (all_has _ keeps r (all_from_map _ decode_keep keeps t.own.listed_keeps) h.0)

  pub faulty_fails : (f : FaultyRow) → IsFaultyRow limits books members imports keeps f → ⊥
  faulty_fails f h = fails f.fault h.row h.among
