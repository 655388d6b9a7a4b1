-- The last change of a member.
use Rattle.std.specs.Prelude.{ℕ, ◌≡◌, ◌≢◌, ◌+◌, List, ◌∷◌, ◌++◌, length, All}
use Rattle.book_model.specs.declared.answers.Stored.{Stored}
use Rattle.book_model.specs.declared.change.Change.{Change}
use Rattle.book_model.specs.declared.change.Change.TheVariants.{Stores}
use Rattle.book_model.specs.declared.change.StoreReason.{StoreReason}
use Rattle.book_laws.specs.EventLogs.{BookEvent}

-- The last change of the UID, which is the event with this number: all later events are of other
-- members.
pub record IsLastChange (h : List BookEvent) (uid : List ℕ) (number : ℕ) (change : Change)
    : Type 0 where
  pub later : List BookEvent
  pub earlier : List BookEvent
  pub parts : h ≡ later ++ record { uid = uid; change = change } ∷ earlier
  pub number_is : number ≡ length earlier + 1
  pub others : All (λ (event : BookEvent). event.uid ≢ uid) later

-- the UID's last change stored this card, with this version
pub record IsStoredLast (h : List BookEvent) (uid : List ℕ) (stored : Stored) : Type 0 where
  pub why : StoreReason
  pub change : IsLastChange h uid stored.version (Stores stored.card why)
