-- The UIDs of cards are legal, those of stored ones too.
use Rattle.std.proofs.Common.{◌≡◌, ◌≤◌, ◌+◌, inl, ℕ, Bool, true, false, cond, List, [], ◌∷◌, Some}
use Rattle.std.proofs.Common.{count_by, filter, refl, sym, ap, subst, ◌∙◌, arith}
use Rattle.std.proofs.lemmas.List.Sums.{sum_by-cons}
use Rattle.std.specs.List.{AllByRecursion}
use Rattle.std.specs.Prelude.{codes}
use Rattle.vcard_lines.specs.declared.line.Line.{Line}
use Rattle.vcard_text.specs.Cards.{IsCard, IsCardLine, is_uid, line_is_named, uid_of}
use Rattle.sqlite_rules.specs.Lists.{Has}
use Rattle.book_model.specs.declared.answers.Stored.{Stored}
use Rattle.book_model.specs.Books.{live_at}
use Rattle.store_tables.specs.Books.{BookRow}
use Rattle.store_tables.specs.Members.{MemberRow, has_uid}
use Rattle.store_tables.proofs.KeyedRows.{all_has}
use Rattle.store_tables.proofs.RowLemmas.{at_parts}
use Rattle.store_rows.specs.SoundTables.{AreSoundRows, IsReadableMember}
use Rattle.store_rows.specs.TableBooks.{row_book}
use Rattle.store_rows.specs.TableRows.{TableRows}
use Rattle.store_rows.specs.Values.{IsLegalUid}
use Rattle.store_rows.proofs.KeyedEntries.{has_filtered}
use Rattle.store_rows.proofs.LookupLemmas.{member_missing}

-- of lines one of which is named UID
named_legal : (lines : List Line) → AllByRecursion IsCardLine lines
    → 1 ≤ count_by (line_is_named (codes "UID")) lines → is_uid (uid_of lines) ≡ true
named_legal [] all one = let none : count_by (line_is_named (codes "UID")) [] ≡ 0 = refl in
    absurd (omega (arith, one, none))
named_legal (line ∷ lines) all one =
    go (line_is_named (codes "UID") line) refl (named_legal lines all.1)
  where
    counted : count_by (line_is_named (codes "UID")) (line ∷ lines)
        ≡ cond (line_is_named (codes "UID") line) 1 0 + count_by (line_is_named (codes "UID")) lines
    counted = sum_by-cons (λ x. cond (line_is_named (codes "UID") x) 1 0) line lines

    go : (b : Bool) → line_is_named (codes "UID") line ≡ b
        → (1 ≤ count_by (line_is_named (codes "UID")) lines → is_uid (uid_of lines) ≡ true)
        → is_uid (uid_of (line ∷ lines)) ≡ true
    go true e more = rw e (all.0.legal_uid e)
    go false e more =
        let rest : count_by (line_is_named (codes "UID")) (line ∷ lines)
        ≡ 0 + count_by (line_is_named (codes "UID")) lines =
        counted ∙ ap (λ b. cond b 1 0 + count_by (line_is_named (codes "UID")) lines) e in
        rw e (more (omega (arith, one, rest)))

pub card_uid_legal : (lines : List Line) → IsCard lines → is_uid (uid_of lines) ≡ true
card_uid_legal lines card = let one = card.rules.one_uid in
    named_legal lines card.rules.each (omega (arith, one))

-- the UID of a live card is legal
pub live_legal : (rows : TableRows) (b : BookRow) (uid : List ℕ) (stored : Stored)
    → AreSoundRows rows → live_at (row_book rows b) uid ≡ Some stored → IsLegalUid uid
live_legal rows b uid stored sound live = go (filter (has_uid b.id uid) rows.members) refl
  where
    go : (found : List MemberRow) → filter (has_uid b.id uid) rows.members ≡ found → IsLegalUid uid
    go [] e = let none = member_missing rows b uid (λ _. e) in absurd (let bad = sym none ∙ live in
        cc)
    go (m ∷ ms) e =
        let it = has_filtered (has_uid b.id uid) rows.members m (subst (λ l. Has l m) (sym e)
        (inl refl)) in
        subst IsLegalUid (at_parts b.id uid m it.1).1 (all_has IsReadableMember rows.members m
        sound.readable.members it.0).uid
