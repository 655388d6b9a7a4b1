-- The live cards of a book are what its members' last events stored.
use Rattle.std.specs.Prelude.{ℕ, ◌≡◌, ◌↔◌, List, Some}
use Rattle.std.specs.FinMap as finite
use Rattle.book_model.specs.declared.answers.Stored.{Stored}
use Rattle.book_laws.specs.EventLogs.{BookEvent, live}
use Rattle.book_laws.specs.LastChanges.{IsStoredLast}

-- a card is live exactly where the last change of its UID stored it; its version is the number of
-- that change
abbrev pub LiveCardsAreStoredLast : Type 0
LiveCardsAreStoredLast = (h : List BookEvent) (uid : List ℕ) (stored : Stored) →
    (finite.get (live h) uid ≡ Some stored) ↔ IsStoredLast h uid stored
