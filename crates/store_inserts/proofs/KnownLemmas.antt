-- A book that knows the numbers of its members, after cards are stored in it.
use Rattle.std.proofs.Common.{◌≡◌, ◌≤◌, ◌+◌, ℕ, Bool, true, false, cond, List, [], ◌∷◌, Some, refl}
use Rattle.std.proofs.Common.{sym, ap, ◌∙◌, arith}
use Rattle.std.specs.FinMap as finite
use Rattle.std.specs.Ordering.{eq_by_cmp}
use Rattle.base_types.specs.TextMaps.{text_cmp}
use Rattle.base_types.proofs.TextLemmas.{text_total}
use Rattle.vcard_text.specs.Cards.{uid_of}
use Rattle.book_model.specs.declared.change.Change.{Change}
use Rattle.book_model.specs.declared.change.Change.TheVariants.{Stores}
use Rattle.book_model.specs.declared.row.Row.{Row}
use Rattle.book_model.specs.Books.{Book}
use Rattle.book_model.specs.BookChanges.{book_with_row, card_after}
use Rattle.store_lookups.specs.ChangeFaults.{KnowsMembers}
use Rattle.store_inserts.specs.declared.import_plan.PlannedCard.{PlannedCard}
use Rattle.store_inserts.specs.internal.Importing.{book_with_pair, book_with_stored, planned_pair}

pub knows_with_row : (book : Book) (uid : List ℕ) (change : Change) → KnowsMembers book
    → KnowsMembers (book_with_row book uid change)
knows_with_row book uid change known q row found = go (eq_by_cmp text_cmp q uid) refl
  where
    new : Row
    new = record { changed = book.number + 1; card = card_after change }

    at : finite.get (finite.insert book.members uid new) q ≡ cond (eq_by_cmp text_cmp q uid)
        (Some new) (finite.get book.members q)
    at = finite.get-insert text_total book.members uid new q

    go : (b : Bool) → eq_by_cmp text_cmp q uid ≡ b → row.changed ≤ book.number + 1
    go true e =
        let same : Some new ≡ Some row =
        sym (at ∙ ap (λ t. cond t (Some new) (finite.get book.members q)) e) ∙ found in
        let is : new ≡ row = cc in
        let number = ap (λ (r : Row). r.changed) is in
        omega (arith, number)
    go false e =
        let was : finite.get book.members q ≡ Some row =
        sym (at ∙ ap (λ t. cond t (Some new) (finite.get book.members q)) e) ∙ found in
        let low = known q row was in
        omega (arith, low)

pub knows_stored : (stored : List PlannedCard) (book : Book) → KnowsMembers book
    → KnowsMembers (book_with_stored book stored)
knows_stored [] book known = known
knows_stored (card ∷ cards) book known =
    knows_stored cards (book_with_pair book (planned_pair card))
    (knows_with_row book (uid_of (planned_pair card).0) (Stores (planned_pair card).0
    (planned_pair card).1) known)
