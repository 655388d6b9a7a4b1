use Rattle.std.proofs.Common.{◌≡◌, ◌≤◌, length, take}
use Rattle.std.specs.Io.KnownBytes.{Consumes}
use Rattle.import_text.proofs.filling.fill.Given as goal

-- what the room has at its front was read
abbrev pub invariant-loop-read : goal.invariant-loop-read
invariant-loop-read g l =
    Consumes (g.R.Read.remaining l.fn.reader) (g.R.Read.remaining l.reader) (take l.count l.room)
    × (l.count ≤ length l.room) × (length l.room ≡ length l.fn.room)
