use Rattle.std.specs.Io.KnownBytes.{Keeps}
use Rattle.import_text.specs.internal.Unread.{units_left}
use Rattle.import_text.proofs.utf16_reader.Utf16ReaderRead.read.Given as goal

-- no octet is lost or given
abbrev pub invariant-loop-read : goal.invariant-loop-read
invariant-loop-read g l = Keeps (units_left g.R.Read.remaining l.fn.self)
    (units_left g.R.Read.remaining l.self)
