-- The versions of live cards.
use Rattle.std.specs.Prelude.{ℕ, ◌≡◌, List, Some}
use Rattle.std.specs.FinMap as finite
use Rattle.book_model.specs.declared.answers.Stored.{Stored}
use Rattle.book_laws.specs.EventLogs.{BookEvent, live, last_number}

-- a live card's version is the number of its UID's last event
abbrev pub VersionsAreLastNumbers : Type 0
VersionsAreLastNumbers = (h : List BookEvent) (uid : List ℕ) (stored : Stored) →
    finite.get (live h) uid ≡ Some stored → stored.version ≡ last_number h uid
