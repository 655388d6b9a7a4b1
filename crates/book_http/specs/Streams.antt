-- What is read from a reader, and what is written of a text.
use Rattle.std.specs.Prelude.{ℕ, ◌≡◌, ◌≤◌, List, length, take, Option, Result, Ok, Err}
use Rattle.std.specs.Io.KnownBytes.{Appends, Consumes}
use Rattle.book_http.specs.declared.serve_fault.ServeFault.{ServeFault}
use Rattle.book_http.specs.declared.serve_fault.ServeFault.TheVariants.{Write}

-- a prefix of the input was read, of at most `most` octets
pub record ReadsAtMost (most : ℕ) (before after : Option (List ℕ)) : Type 0 where
  pub octets : List ℕ
  pub read : Consumes before after octets
  pub within : length octets ≤ most

-- a prefix of the text was written, perhaps none
pub record WritesPrefix (text : List ℕ) (before after : Option (List ℕ)) : Type 0 where
  pub count : ℕ
  pub written : Appends before after (take count text)

-- the text was written; or the writer failed, and a prefix of it is written
abbrev pub WritesText :
    List ℕ → Option (List ℕ) → Option (List ℕ) → Result (Unit {0}) ServeFault → Type 0
WritesText text before after (Ok done) = Appends before after text
WritesText text before after (Err fault) = WritesPrefix text before after × (fault ≡ Write)
