-- The event log of a book: the changes of a collection's members (RFC 6578, sections 3.1 and 3.5).
-- A log lists events newest first; the oldest event has the number 1.
use Rattle.std.specs.Prelude.{ℕ, ◌+◌, ◌≡◌, ◌<◌, Bool, not, List, [], ◌∷◌, ◌++◌, length, filter}
use Rattle.std.specs.Prelude.{if◌then◌else◌}
use Rattle.std.specs.Ordering.{eq_by_cmp}
use Rattle.std.specs.FinMap as finite
use Rattle.base_types.specs.TextMaps.{text_cmp}
use Rattle.book_model.specs.declared.change.Change.{Change}
use Rattle.book_model.specs.declared.change.Change.TheVariants.{Stores, TakesAway}
use Rattle.book_model.specs.Books.{LiveCards}

-- a change of one member
pub record BookEvent : Type 0 where
  pub uid : List ℕ
  pub change : Change

-- two UIDs are the same where their octets are equal
abbrev pub same_uid : List ℕ → List ℕ → Bool
same_uid a b = eq_by_cmp text_cmp a b

-- the version of a stored card is the number of its event
abbrev pub cards_after_change : LiveCards → List ℕ → Change → ℕ → LiveCards
cards_after_change cards uid (Stores card why) number =
    finite.insert cards uid (record { version = number; card = card })
cards_after_change cards uid (TakesAway why) number = finite.remove cards uid

-- the live cards after all events of the log
abbrev pub live : List BookEvent → LiveCards
live [] = finite.empty
live (e ∷ h) = cards_after_change (live h) e.uid e.change (length h + 1)

-- the number of the UID's last event, or 0 where it has none
abbrev pub last_number : List BookEvent → List ℕ → ℕ
last_number [] uid = 0
last_number (e ∷ h) uid = if same_uid uid e.uid then length h + 1 else last_number h uid

-- the UIDs with events, each once, in the order of their last events
abbrev pub touched_uids : List BookEvent → List (List ℕ)
touched_uids [] = []
touched_uids (e ∷ h) = filter (λ uid. not (same_uid uid e.uid)) (touched_uids h) ++ e.uid ∷ []

-- the event with this number is of the UID
pub record IsEventOf (h : List BookEvent) (number : ℕ) (uid : List ℕ) : Type 0 where
  pub later : List BookEvent
  pub event : BookEvent
  pub earlier : List BookEvent
  pub parts : h ≡ later ++ event ∷ earlier
  pub number_is : number ≡ length earlier + 1
  pub uid_is : event.uid ≡ uid

-- the member has an event with a number above this one
pub record HasEventAbove (h : List BookEvent) (bound : ℕ) (uid : List ℕ) : Type 0 where
  pub number : ℕ
  pub above : bound < number
  pub event : IsEventOf h number uid
