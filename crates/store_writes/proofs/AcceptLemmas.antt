-- A book accepts a member with the next number.
use Rattle.std.proofs.Common.{◌≡◌, ◌<◌, ◌≤◌, ◌+◌, ◌^◌, ℕ, pos, Bool, true, false, ◌&&◌, List, []}
use Rattle.std.proofs.Common.{◌∷◌, length, Option, IfSome, int_eq, refl, sym, ap, subst, ◌∙◌}
use Rattle.std.proofs.Common.{true≢false, arith}
use Rattle.std.proofs.lemmas.Bool.{and_from}
use Rattle.std.specs.Option.{option_map}
use Rattle.std.specs.List.{AllByRecursion}
use Rattle.sqlite_rules.specs.Lists.{Has}
use Rattle.sqlite_rules.proofs.ListLemmas.{all_from, some_from}
use Rattle.store_tables.specs.Acceptance.{AcceptsMember, IsShort, has_number}
use Rattle.store_tables.specs.Books.{BookRow, has_id}
use Rattle.store_tables.specs.Members.{MemberRow, has_uid}
use Rattle.store_tables.proofs.KeyedRows.{all_has, int_itself, same_int, text_itself}
use Rattle.store_rows.specs.SoundTables.{AreSoundRows}
use Rattle.store_rows.specs.TableBooks.{HeaderRow, line_row, model_row, row_book}
use Rattle.store_rows.specs.TableRows.{TableRows, HoldsRows}
use Rattle.store_rows.specs.Values.{IsLegalUid, natural}
use Rattle.store_rows.proofs.KeyedEntries.{find_single}
use Rattle.store_rows.proofs.RowLemmas.{get-members_in, single_member}
use Rattle.std.specs.Prelude.{codes, nat_le}
use Rattle.sqlite.specs.Effect.{Database}
use Rattle.vcard_lines.specs.declared.line.Line.{Line}
use Rattle.vcard_text.specs.Cards.{IsCard, IsCardLine, canonical_text, line_is_named, uid_of}
use Rattle.store_lookups.specs.ChangeFaults.{AcceptChanges, HaveFreeIds, KnowsMembers}
use Rattle.store_writes.specs.AcceptedChanges.{AcceptsHeader, AcceptsMemberOf}
use Rattle.store_writes.proofs.TransactionFaults.{fewer_ids}

module _ (rows : TableRows) (b : BookRow) (sound : AreSoundRows rows) (known :
    KnowsMembers (row_book rows b)) where
  below : (m : MemberRow) → Has rows.members m → m.book ≡ b.id
      → natural m.changed ≤ natural b.numbers.number
  below m there mine =
      let here : has_uid b.id m.uid m ≡ true = and_from _ _ (ap (λ z. int_eq m.book z) (sym mine)
      ∙ int_itself m.book) (text_itself m.uid) in
      known m.uid (model_row m) (get-members_in b.id rows.members m.uid
      ∙ ap (option_map model_row) (find_single (has_uid b.id m.uid) rows.members m
      (single_member b.id m.uid rows.members sound.members) there here))

  later_unused : (n : ℕ) → natural b.numbers.number < n → (m : MemberRow) → Has rows.members m
      → has_number b.id (pos n) m ≡ false
  later_unused n above m there = go (int_eq m.book b.id) refl (int_eq m.changed (pos n)) refl
    where
      go : (x : Bool) → int_eq m.book b.id ≡ x → (y : Bool) → int_eq m.changed (pos n) ≡ y
          → has_number b.id (pos n) m ≡ false
      go false e y k = rw e refl
      go true e false k = rw (e, k) refl
      go true e true k =
          let at : natural m.changed ≡ n = ap natural (same_int m.changed (pos n) k) in
          absurd (omega (arith, at, above, below m there (same_int m.book b.id e)))

-- the next number of the book is unused, and the texts are short
pub accepts_next : (rows : TableRows) (name : List ℕ) (header : HeaderRow) (uid : List ℕ) (card :
    Option (List ℕ)) → AreSoundRows rows → KnowsMembers (row_book rows (line_row name header))
    → (listed : BookRow) → Has rows.books listed → listed.id ≡ pos header.id → IsShort uid
    → IfSome card IsShort → AcceptsMember rows.books rows.members (pos header.id) uid
    (pos (header.number + 1)) card
accepts_next rows name header uid card sound known listed there same short slim = record {
  listed = some_from (has_id (pos header.id)) rows.books listed there
      (ap (λ z. int_eq z (pos header.id)) same ∙ int_itself (pos header.id));
  unused = all_from (λ m. has_uid (pos header.id) uid m ≡ false
      → has_number (pos header.id) (pos (header.number + 1)) m ≡ false) rows.members
      (λ m there other. later_unused rows (line_row name header) sound known (header.number + 1)
      (omega arith) m there);
  short_uid = short;
  short_card = slim;
}

-- ---- texts

pub middle_true : (a b c : Bool) → (a && b && c) ≡ true → b ≡ true
middle_true true true c h = refl
middle_true true false c h = absurd (true≢false (sym h))
middle_true false b c h = absurd (true≢false (sym h))

pub at_most : (m n : ℕ) → nat_le m n ≡ true → m ≤ n
at_most m n h = grind arith

uid_short : (lines : List Line) → AllByRecursion IsCardLine lines → IsShort (uid_of lines)
uid_short [] all = omega arith
uid_short (line ∷ lines) all = go (line_is_named (codes "UID") line) refl (uid_short lines all.1)
  where
    go : (b : Bool) → line_is_named (codes "UID") line ≡ b → IsShort (uid_of lines)
        → IsShort (uid_of (line ∷ lines))
    go false e more = rw e more
    go true e more =
        let legal = at_most (length line.value) 255 (middle_true (nat_le 1 (length line.value))
        (nat_le (length line.value) 255) _ (all.0.legal_uid e)) in
        rw e (omega (arith, legal))

pub legal_short : (uid : List ℕ) → IsLegalUid uid → IsShort uid
legal_short uid h =
    let most = at_most (length uid) 255 (middle_true (nat_le 1 (length uid))
    (nat_le (length uid) 255) _ h.legal) in
    omega (arith, most)

pub card_uid_short : (lines : List Line) → IsCard lines → IsShort (uid_of lines)
card_uid_short lines card = uid_short lines card.rules.each

pub card_text_short : (lines : List Line) (text : List ℕ) → IsCard lines
    → text ≡ canonical_text lines → IsShort text
card_text_short lines text card is = let within = card.within in
    subst IsShort (sym is) (omega (arith, within))

-- ---- rows that accept changes

pub accepts_header : (db : Database) (rows : TableRows) (name : List ℕ) (header : HeaderRow)
    → HoldsRows db rows → AcceptChanges rows → Has rows.books (line_row name header)
    → AcceptsHeader db rows name header
accepts_header db rows name header holds accept there = record {
  line = record { holds = holds; sound = accept.faultless.sound; there = there };
  short = all_has (λ b. IsShort b.name) rows.books (line_row name header) accept.short_names there;
}

pub knows_members : (rows : TableRows) (name : List ℕ) (header : HeaderRow) → AcceptChanges rows
    → Has rows.books (line_row name header) → KnowsMembers (row_book rows (line_row name header))
knows_members rows name header accept there =
    all_has (λ b. KnowsMembers (row_book rows b)) rows.books (line_row name header) accept.known
    there

pub accepts_member : (db : Database) (rows : TableRows) (name : List ℕ) (header : HeaderRow) (uid :
    List ℕ) (card : Option (List ℕ)) → HoldsRows db rows → AcceptChanges rows → HaveFreeIds db.trees
    → Has rows.books (line_row name header)
    → IsShort uid → IfSome card IsShort
    → AcceptsMemberOf db rows name header uid (pos (header.number + 1)) card
accepts_member db rows name header uid card holds accept free there short slim = record {
  book = accepts_header db rows name header holds accept there;
  free_id = fewer_ids 1 (2 ^ 62) (db.trees 4) (omega arith) free.members;
  member = accepts_next rows name header uid card accept.faultless.sound
      (knows_members rows name header accept there) (line_row name header) there refl short slim;
}
