-- Which tombstones a book keeps, and which it drops by itself.
use Rattle.std.specs.Prelude.{ℕ, ◌≡◌, ◌<◌, ◌⊎◌, ◌↔◌, List, [], ◌∷◌, ◌++◌, length, map, Option, Some}
use Rattle.std.specs.Prelude.{IsSome, Ok, Contains}
use Rattle.std.specs.List.Sorted.{IsStrictlyIncreasing}
use Rattle.std.specs.FinMap as finite
use Rattle.vcard_lines.specs.declared.line.Line.{Line}
use Rattle.book_model.specs.declared.answers.Moved.{Moved}
use Rattle.book_model.specs.declared.change.Change.TheVariants.{Stores, TakesAway}
use Rattle.book_model.specs.declared.change.RemovalReason.{RemovalReason}
use Rattle.book_model.specs.declared.change.StoreReason.{StoreReason}
use Rattle.book_laws.specs.EventLogs.{live, last_number}
use Rattle.book_laws.specs.LastChanges.{IsLastChange}
use Rattle.book_laws.specs.StoreHistories.{BookHistory, BookHistories, IsSoundHistory}
use Rattle.book_laws.specs.StoreHistories.{AreSoundHistories, StoreHistory, tombstone_uids}
use Rattle.book_laws.specs.HistoryChanges.{event, remove_on_histories, move_on_histories}
use Rattle.book_laws.specs.HistorySteps.{with_event}

-- ---- tombstones

-- the UID's last change removed its card, after the horizon
pub record RemovedAfterHorizon (history : BookHistory) (uid : List ℕ) : Type 0 where
  pub number : ℕ
  pub why : RemovalReason
  pub change : IsLastChange history.log uid number (TakesAway why)
  pub after : history.horizon < number

-- the tombstones are exactly those members
abbrev pub TombstonesAreRemovedMembers : Type 0
TombstonesAreRemovedMembers = (history : BookHistory) (uid : List ℕ) →
    Contains (tombstone_uids history) uid ↔ RemovedAfterHorizon history uid

-- they are in the order of their removals
abbrev pub TombstonesAreInOrder : Type 0
TombstonesAreInOrder = (history : BookHistory) →
    IsStrictlyIncreasing (map (last_number history.log) (tombstone_uids history))

-- ---- tombstones after a removal

-- there was room: the member's tombstone is added, and the horizon is unchanged
pub record AddsTombstone (old new : BookHistory) (uid : List ℕ) : Type 0 where
  pub room : length (tombstone_uids old) < old.keep
  pub remembered : tombstone_uids new ≡ tombstone_uids old ++ uid ∷ []
  pub horizon : new.horizon ≡ old.horizon

-- The book was at its tombstone limit. It drops the oldest tombstone, keeps the others, and adds
-- the member's. The horizon rises to the number of the dropped removal.
pub record ReplacesOldestTombstone (old new : BookHistory) (uid : List ℕ) : Type 0 where
  pub first : List ℕ
  pub others : List (List ℕ)
  pub tombstones_before : tombstone_uids old ≡ first ∷ others
  pub full : length (tombstone_uids old) ≡ old.keep
  pub remembered : tombstone_uids new ≡ others ++ uid ∷ []
  pub horizon : new.horizon ≡ last_number old.log first

-- every removal of a live member does one of the two
abbrev pub RemovalsDropOldestTombstone : Type 0
RemovalsDropOldestTombstone =
    (history : BookHistory) (uid : List ℕ) (why : RemovalReason) → IsSoundHistory history →
    IsSome (finite.get (live history.log) uid) →
    let new = with_event history (event uid (TakesAway why)) in
    AddsTombstone history new uid ⊎ ReplacesOldestTombstone history new uid

-- storing a card doesn't change the horizon
abbrev pub StoredCardsKeepHorizon : Type 0
StoredCardsKeepHorizon =
    (history : BookHistory) (uid : List ℕ) (card : List Line) (why : StoreReason) →
    (with_event history (event uid (Stores card why))).horizon ≡ history.horizon

-- ---- the calls that remove a card

-- the book of this name dropped no more than the removal of the member made it drop
pub record DropsByRemoval (histories : BookHistories) (name uid : List ℕ) (after : BookHistories)
    : Type 0 where
  pub old : BookHistory
  pub new : BookHistory
  pub old_named : finite.get histories name ≡ Some old
  pub new_named : finite.get after name ≡ Some new
  pub removal : AddsTombstone old new uid ⊎ ReplacesOldestTombstone old new uid

abbrev pub RemoveCallsDropOldestTombstone : Type 0
RemoveCallsDropOldestTombstone =
    (store : StoreHistory) (name uid : List ℕ) (expect : Option ℕ) (number : ℕ)
    (after : BookHistories) → AreSoundHistories store.books →
    remove_on_histories store.limits store.books name uid expect ≡ Ok (number, after) →
    DropsByRemoval store.books name uid after

-- a move does so in the source book
abbrev pub MoveCallsDropOldestTombstone : Type 0
MoveCallsDropOldestTombstone = (store : StoreHistory) (from to uid : List ℕ) (expect : Option ℕ)
    (moved : Moved) (after : BookHistories) → AreSoundHistories store.books →
    move_on_histories store.limits store.books from to uid expect ≡ Ok (moved, after) →
    DropsByRemoval store.books from uid after
