-- Each live card of the rows that an opening takes has a text that spells it.
use Rattle.std.proofs.Common.{◌≡◌, ◌↔◌, List, ℕ, find, Option, Some, None, Ok, refl, sym, ap, subst}
use Rattle.std.proofs.Common.{◌∙◌, IfSome}
use Rattle.std.specs.Option.{option_map, option_and_then}
use Rattle.sqlite.specs.Effect.{Database}
use Rattle.sqlite.specs.Recovery.{Image}
use Rattle.book_model.specs.Books.{Books, live_at, stored_in_row}
use Rattle.book_model.specs.declared.answers.Stored.{Stored}
use Rattle.book_model.proofs.BasicLemmas.{same_Some_at}
use Rattle.book_resync.specs.ResyncLaws.{HasLegalCards}
use Rattle.store_check.specs.OpenResults.{max_limits}
use Rattle.store_rows.proofs.HeldRows.{books_held}
use Rattle.store_rows.proofs.KeyedEntries.{found_has}
use Rattle.store_rows.proofs.RowLemmas.{get-books_of, get-members_in}
use Rattle.store_rows.specs.SoundTables.{AreSoundRows, HoldsWellFormed, IsReadableMember}
use Rattle.store_rows.specs.TableBooks.{books_in, books_of, model_row, row_book}
use Rattle.store_rows.specs.TableRows.{TableRows}
use Rattle.store_rows.specs.Values.{IsCanonical, lines_or_none, text_card}
use Rattle.store_tables.proofs.KeyedRows.{all_has}
use Rattle.store_tables.specs.Books.{BookRow, has_name}
use Rattle.store_tables.specs.Members.{MemberRow, has_uid}
use Rattle.vcard_lines.specs.declared.line.Line.{Line}
use Rattle.vcard_text.specs.CardOfText.{card_of_text}
use Rattle.vcard_text.specs.Cards.{IsCard}
use Rattle.vcard_text.specs.Spelling.{Spells}
use Rattle.book_store.specs.Restarts.{HoldsStore}

module _ (computed : (text : List ℕ) (lines : List Line) → Spells text lines
    ↔ (card_of_text text ≡ Ok lines)) (spelled : (text : List ℕ) (lines : List Line)
    → Spells text lines → IsCard lines) where
  -- the card of a canonical text
  legal_text : (text : List ℕ) → IsCanonical text → IsCard (text_card text)
  legal_text text is = subst IsCard (sym (ap lines_or_none is.spelled))
      (spelled text is.lines ((computed text is.lines).1 is.spelled))

  -- the card of a row
  legal_row : (m : MemberRow) (stored : Stored) → IfSome m.card IsCanonical
      → stored_in_row (model_row m) ≡ Some stored → IsCard stored.card
  legal_row m stored canonical is = by m.card refl canonical
    where
      by : (card : Option (List ℕ)) → m.card ≡ card → IfSome card IsCanonical → IsCard stored.card
      by None none readable = absurd (let k = rw none at is in cc)
      by (Some text) some readable =
          let same : record { version = (model_row m).changed; card = text_card text } ≡ stored =
          same_Some_at _ stored (rw some at is) in
          subst (λ (s : Stored). IsCard s.card) same (legal_text text readable)

  -- the card under a UID of a book
  legal_member : (rows : TableRows) (b : BookRow) (uid : List ℕ) (stored : Stored)
      → AreSoundRows rows → live_at (row_book rows b) uid ≡ Some stored → IsCard stored.card
  legal_member rows b uid stored sound live =
      by (find (has_uid b.id uid) rows.members) refl (sym (ap (option_and_then stored_in_row)
      (get-members_in b.id rows.members uid)) ∙ live)
    where
      by : (found : Option MemberRow) → find (has_uid b.id uid) rows.members ≡ found
          → option_and_then stored_in_row (option_map model_row (find (has_uid b.id uid)
          rows.members)) ≡ Some stored → IsCard stored.card
      by None none is = absurd (let k = rw none at is in cc)
      by (Some m) some is =
          let has = found_has (has_uid b.id uid) rows.members m some in
          let readable = all_has IsReadableMember rows.members m sound.readable.members has.0 in
          legal_row m stored readable.card (rw some at is)

  legal_rows : (rows : TableRows) → AreSoundRows rows → HasLegalCards (books_of rows)
  legal_rows rows sound name uid book stored named live =
      by (find (has_name name) rows.books) refl (sym (get-books_of rows name) ∙ named)
    where
      by : (found : Option BookRow) → find (has_name name) rows.books ≡ found
          → option_map (row_book rows) (find (has_name name) rows.books) ≡ Some book
          → IsCard stored.card
      by None none is = absurd (let k = rw none at is in cc)
      by (Some b) some is =
          let same : row_book rows b ≡ book = same_Some_at _ book (rw some at is) in
          legal_member rows b uid stored sound (ap (λ k. live_at k uid) same ∙ live)

  -- the books of rows that an opening accepts
  pub accepted_cards : (db : Database) → HoldsWellFormed max_limits db
      → HasLegalCards (books_in db.trees)
  accepted_cards db rows =
      subst HasLegalCards (sym (books_held db rows.rows rows.holds rows.well_formed.sound))
      (legal_rows rows.rows rows.well_formed.sound)

  -- the books of a file that holds a store
  pub legal_cards : (image : Image) (books : Books) → HoldsStore image books → HasLegalCards books
  legal_cards image books holds =
      subst HasLegalCards holds.books_are (accepted_cards _ holds.well_formed)
