-- The effect of a move on all books: one card changes books, and nothing else changes.
use Rattle.std.specs.Prelude.{ℕ, ◌≡◌, ◌≢◌, ◌+◌, List, length, sum_by, Option, Some, None}
use Rattle.std.specs.FinMap as finite
use Rattle.book_model.specs.declared.answers.Moved.{Moved}
use Rattle.book_model.specs.declared.answers.Stored.{Stored}
use Rattle.book_model.specs.declared.change.Change.{Change}
use Rattle.book_model.specs.declared.change.Change.TheVariants.{Stores, TakesAway}
use Rattle.book_model.specs.declared.change.StoreReason.TheVariants.{MoveIn}
use Rattle.book_model.specs.declared.change.RemovalReason.TheVariants.{MoveOut}
use Rattle.book_laws.specs.EventLogs.{live}
use Rattle.book_laws.specs.StoreHistories.{BookHistory, BookHistories}
use Rattle.book_laws.specs.HistorySteps.{with_event}

-- the number of live cards in all books together
abbrev pub live_card_count : BookHistories → ℕ
live_card_count histories =
    sum_by (λ named. finite.len (live named.1.log)) (finite.entries histories)

-- The book of this name has one more event, of this member. The member is then live as given, and
-- every other member is as before.
pub record ChangesOneMember (histories : BookHistories) (name uid : List ℕ) (change : Change)
    (then_live : Option Stored) (after : BookHistories) : Type 0 where
  pub old : BookHistory
  pub new : BookHistory
  pub old_named : finite.get histories name ≡ Some old
  pub new_named : finite.get after name ≡ Some new
  pub extended_by : new ≡ with_event old (record { uid = uid; change = change })
  pub member : finite.get (live new.log) uid ≡ then_live
  pub others : (other : List ℕ) → other ≢ uid →
      finite.get (live new.log) other ≡ finite.get (live old.log) other

-- The card was removed from the source book and stored in the target book, where its UID wasn't
-- live, with the returned numbers. All other books, and the number of live cards of all books
-- together, are unchanged.
pub record TransfersOneCard (histories : BookHistories) (from to uid : List ℕ) (moved : Moved)
    (after : BookHistories) : Type 0 where
  pub stored : Stored
  pub source_change : ChangesOneMember histories from uid (TakesAway MoveOut) None after
  pub target_change : ChangesOneMember histories to uid (Stores stored.card MoveIn)
      (Some (record { version = moved.version; card = stored.card })) after
  pub card : finite.get (live source_change.old.log) uid ≡ Some stored
  pub free : finite.get (live target_change.old.log) uid ≡ None
  pub numbers : moved
      ≡ record {
        from = length source_change.old.log + 1;
        version =
            length target_change.old.log + 1;
      }
  pub other_books : (name : List ℕ) → name ≢ from → name ≢ to →
      finite.get after name ≡ finite.get histories name
  pub same_card_count : live_card_count after ≡ live_card_count histories
