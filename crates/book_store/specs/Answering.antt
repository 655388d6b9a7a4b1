-- What becomes of a call's answer once its connection was tested.
use Rattle.std.specs.Prelude.{◌≡◌, ◌⊎◌, IsTrue, Result, Err}
use Rattle.sqlite.specs.State.{State, HasCleanDisk}
use Rattle.book_model.specs.declared.denied.Denied.{Denied}
use Rattle.store_lookups.specs.Faults.{IsDeniedFault}
use Rattle.store_lookups.specs.StoreFaults.{FaultsFromOutside}
use Rattle.sync_core.specs.StoreCrashes.{UnlessFault}

-- The result is a fault of the test. Over rows that cause no fault, it comes from outside.
pub record IsTestFault {A : Type 0} (old new : State) (result : Result A Denied) : Type 0 where
  pub denied : Denied
  pub result_is : result ≡ Err denied
  pub is_fault : IsDeniedFault denied
  pub from_outside : FaultsFromOutside old new result

-- the answer stands, or a fault took its place
abbrev pub StandsOrFaults : {A : Type 0} → State → State → Result A Denied → Result A Denied
    → Type 0
StandsOrFaults old new answer result = (result ≡ answer) ⊎ IsTestFault old new result

-- if the disk has returned what was written, the connection is open, or the result is a fault
abbrev pub IsOpenUnlessFault : {A : Type 0} → State → Result A Denied → Type 0
IsOpenUnlessFault new result = HasCleanDisk new → UnlessFault result (IsTrue new.is_open)
