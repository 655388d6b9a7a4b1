-- Laws of every list of calls.
use Rattle.std.specs.Prelude.{ℕ, ◌≡◌, List, ◌∷◌, Some, Ok}
use Rattle.std.specs.FinMap as finite
use Rattle.vcard_lines.specs.declared.line.Line.{Line}
use Rattle.book_model.specs.declared.answers.ImportTally.{ImportTally}
use Rattle.book_model.specs.Bounds.{Bounds, IsInRange}
use Rattle.book_laws.specs.Calls.{Call, ImportCall, ReturnedImport, call_on_histories, answer_only}
use Rattle.book_laws.specs.Calls.{answers_to_calls, histories_after_calls}
use Rattle.book_model.specs.Devices.{DeviceState}
use Rattle.book_laws.specs.DeviceConsistency.{IsConsistentDevice}
use Rattle.book_laws.specs.HistoryExtension.{Extends}
use Rattle.book_laws.specs.RowsAfterCalls.{rows_after_calls}
use Rattle.book_laws.specs.StoreHistories.{BookHistory, BookHistories, AreSoundHistories}
use Rattle.book_laws.specs.StoreHistories.{StoreHistory, rows_of}

-- Every log stays valid, no horizon exceeds the length of its log, and no book has more tombstones
-- than its limit.
abbrev pub CallsKeepHistoriesSound : Type 0
CallsKeepHistoriesSound = (store : StoreHistory) (calls : List Call) → IsInRange store.limits →
    AreSoundHistories store.books →
    AreSoundHistories (histories_after_calls store.limits store.books calls)

-- The rows after calls are the rows of the histories after the same calls.
abbrev pub RowsMatchHistoriesAfterCalls : Type 0
RowsMatchHistoriesAfterCalls = (store : StoreHistory) (calls : List Call) → IsInRange store.limits →
    AreSoundHistories store.books →
    rows_after_calls store.limits (rows_of store.books) calls
    ≡ rows_of (histories_after_calls store.limits store.books calls)

-- Two stores answer these calls alike, and have the same rows afterwards.
pub record AreIndistinguishable (a b : StoreHistory) (calls : List Call) : Type 0 where
  pub answers_are : answers_to_calls a.limits a.books calls
      ≡ answers_to_calls b.limits b.books calls
  pub rows_are : rows_of (histories_after_calls a.limits a.books calls)
      ≡ rows_of (histories_after_calls b.limits b.books calls)

-- Two stores with sound histories and the same limits and rows are indistinguishable by any calls:
-- the rows hold everything that a later call needs.
abbrev pub RowsDetermineAnswers : Type 0
RowsDetermineAnswers = (a b : StoreHistory) (calls : List Call) → IsInRange a.limits →
    AreSoundHistories a.books → AreSoundHistories b.books →
    a.limits ≡ b.limits → rows_of a.books ≡ rows_of b.books → AreIndistinguishable a b calls

-- No call deletes a book, and no call undoes an event: each history is extended.
abbrev pub CallsExtendHistories : Type 0
CallsExtendHistories =
    (limits : Bounds) (histories : BookHistories) (calls : List Call) (name : List ℕ)
    (old : BookHistory) → finite.get histories name ≡ Some old →
    (new : BookHistory)
    × (finite.get (histories_after_calls limits histories calls) name ≡ Some new)
    × Extends old new

-- Imports are idempotent: after an accepted import and any calls, another import with the same key,
-- of whatever cards, returns the same tally and changes nothing.
abbrev pub ImportCallsAreIdempotent : Type 0
ImportCallsAreIdempotent = (limits : Bounds) (histories : BookHistories) (name key : List ℕ)
    (cards others : List (List Line)) (tally : ImportTally) (between : List Call) →
    answer_only (call_on_histories limits histories (ImportCall name key cards))
    ≡ Ok (ReturnedImport tally) →
    let later = histories_after_calls limits histories (ImportCall name key cards ∷ between) in
    call_on_histories limits later (ImportCall name key others) ≡ Ok (ReturnedImport tally, later)

-- A consistent device stays consistent after any calls, on its own book and on others.
abbrev pub CallsKeepDevicesConsistent : Type 0
CallsKeepDevicesConsistent =
    (limits : Bounds) (histories : BookHistories) (calls : List Call) (device : DeviceState) →
    IsConsistentDevice histories device
    → IsConsistentDevice (histories_after_calls limits histories calls) device
