-- The calls that are made of a system of files.
use Rattle.std.specs.Prelude.{◌++◌, ℕ, Bool, List, ◌∷◌, Option, None, Some, Result, Ok, Err}
use Rattle.std.specs.Prelude.{codes}
use Rattle.std.specs.declared.io.Error as io
use Rattle.sqlite.specs.declared.error.Error.{Error}

-- One call with its answer.
pub data FileCall : Type 0 where
  -- whether something is at the path
  LooksFor : List ℕ → Result Bool io.Error → FileCall
  -- whether the file at the path is there, and is empty
  LooksInto : List ℕ → Bool → FileCall
  -- opening a connection to the file at the path, and to the log beside it: whether each page of a
  -- new file is to end in a sum of its octets, and the error if no file was opened
  Connects : List ℕ → Bool → Option Error → FileCall

-- all calls that were made of a system so far, the newest first, if they are known
abbrev pub FileLog : Type 0
FileLog = Option (List FileCall)

-- these calls, and then this one
abbrev pub logged : FileCall → FileLog → FileLog
logged call None = None
logged call (Some calls) = Some (call ∷ calls)

-- the path of the log beside the file at the path
abbrev pub log_path : List ℕ → List ℕ
log_path path = path ++ codes "-wal"

-- the error, if nothing is left of files
abbrev pub unless_left : {L : Type 0} → Error → Option L → Option Error
unless_left error None = Some error
unless_left error (Some left) = None

-- the error of opening a connection, if no file was opened
abbrev pub unopened : {C L : Type 0} → Result C (Error × Option L) → Option Error
unopened (Ok connection) = None
unopened (Err (error, left)) = unless_left error left
