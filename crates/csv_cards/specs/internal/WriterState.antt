-- The state of the loop that writes rows.
use Rattle.std.specs.Prelude.{ℕ, ◌≡◌, List, Some, false}
use Rattle.std.specs.Io.KnownBytes.{Appends}
use Rattle.std.specs.declared.alloc.Global.{Global}
use Rattle.std.specs.declared.vec.Vec.{Vec}
use Rattle.csv.specs.Writing.{default_writer, fields_written, has_written, text_written}
use Rattle.csv.specs.Writing.{writer_setup}
use Rattle.csv.specs.declared.writer.Writer.{Writer}

-- The writer has the library's default settings and is at the start of a row.
pub record IsAtRowStart (writer : Writer (Vec ℕ Global)) : Type 0 where
  pub setup : writer_setup writer ≡ default_writer
  pub fields : fields_written writer ≡ 0
  pub wrote : has_written writer ≡ false

-- The octets were appended to those written before.
abbrev pub AppendsOctets : Writer (Vec ℕ Global) → Writer (Vec ℕ Global) → List ℕ → Type 0
AppendsOctets old new octets =
    Appends (text_written (λ vec. Some vec.items) old) (text_written (λ vec. Some vec.items) new)
    octets
