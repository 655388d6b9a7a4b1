-- How the file at a path is opened: which calls are made of the system, and what comes of them.
use Rattle.std.specs.Prelude.{◌≡◌, ◌⊎◌, ℕ, Bool, List, Option, None, Some, Result, Ok, Err}
use Rattle.std.specs.Prelude.{true, false}
use Rattle.std.specs.declared.io.Error as io
use Rattle.sqlite.specs.declared.error.Error.{Error}
use Rattle.sqlite.specs.declared.error.Error.TheVariants.{SqliteFailure}
use Rattle.sqlite.specs.declared.error.ErrorCode.TheVariants.{CannotOpen}
use Rattle.named_files.specs.FileCalls.{FileLog, log_path, logged}
use Rattle.named_files.specs.FileCalls.FileCall.{Connects, LooksFor, LooksInto}
use Rattle.store_schema.specs.OpenFaults.{open_fault_of_error}
use Rattle.store_schema.specs.declared.open_fault.OpenFault.{OpenFault}
use Rattle.store_schema.specs.declared.open_fault.OpenFault.TheVariants.{Memory, NotOurs}

-- A refusal: if no file was opened, the fault is that of the error; otherwise the files come with
-- it.
abbrev pub IsRefusalOf : {L : Type 0} → Option Error → OpenFault × Option L → Type 0
IsRefusalOf (Some error) refused = refused ≡ (open_fault_of_error error, None)
IsRefusalOf None refused = ¬ (refused.1 ≡ None)

-- the result, if this was the error by which no file was opened
abbrev pub ComesOf : {A L : Type 0} → Option Error → Result A (OpenFault × Option L) → Type 0
ComesOf error (Ok value) = error ≡ None
ComesOf error (Err refused) = IsRefusalOf error refused

module _ (path : List ℕ) where
  -- ---- the calls

  -- nothing is found at the path, and nothing else is called
  abbrev pub FindsNothing : FileLog → FileLog → Type 0
  FindsNothing before after = (found : Result Bool io.Error) × (¬ (found ≡ Ok true))
      × (after ≡ logged (LooksFor path found) before)

  -- A connection is opened to the file at the path, but only if something is found there. This is
  -- the error if no file is opened.
  abbrev pub ConnectsFound : Option Error → FileLog → FileLog → Type 0
  ConnectsFound error before after =
      (FindsNothing before after × (error ≡ Some (SqliteFailure CannotOpen)))
      ⊎ (after ≡ logged (Connects path false error) (logged (LooksFor path (Ok true)) before))

  -- the file at the path is empty, and nothing is at the path of its log
  abbrev pub FindsEmpty : FileLog → FileLog → Type 0
  FindsEmpty before after =
      after ≡ logged (LooksFor (log_path path) (Ok false)) (logged (LooksInto path true) before)

  -- the file at the path isn't found to be empty, or something may be at the path of its log
  abbrev pub FindsFilled : FileLog → FileLog → Type 0
  FindsFilled before after = (after ≡ logged (LooksInto path false) before)
      ⊎ ((found : Result Bool io.Error) × (¬ (found ≡ Ok false))
      × (after ≡ logged (LooksFor (log_path path) found) (logged (LooksInto path true) before)))

  -- whether the file is empty and has no log; nothing is called if there is no memory
  abbrev pub TellsEmpty : {E : Type 0} → Result Bool E → FileLog → FileLog → Type 0
  TellsEmpty (Ok true) = FindsEmpty
  TellsEmpty (Ok false) = FindsFilled
  TellsEmpty (Err error) = λ before after. after ≡ before

  -- ---- what comes of them

  module _ {A L : Type 0} (result : Result A (OpenFault × Option L)) where
    -- One connection is opened to the file at the path, which is created if there is none, and
    -- nothing else is called.
    abbrev pub OpensOrCreates : Bool → FileLog → FileLog → Type 0
    OpensOrCreates new_has_sums before after = (error : Option Error)
        × (after ≡ logged (Connects path new_has_sums error) before) × ComesOf error result

    -- the same, if something is found at the path; otherwise the fault is `Store`
    abbrev pub OpensFound : FileLog → FileLog → Type 0
    OpensFound before after = (error : Option Error) × ConnectsFound error before after
        × ComesOf error result

    -- The same, but a file that is empty and has no log isn't opened either. Nothing is called if
    -- there is no memory for the path of the log.
    abbrev pub OpensFilled : FileLog → FileLog → Type 0
    OpensFilled before after = ((after ≡ before) × (result ≡ Err (Memory, None)))
        ⊎ ((FindsEmpty before after × (result ≡ Err (NotOurs, None)))
        ⊎ ((middle : FileLog) × FindsFilled before middle × OpensFound middle after))
