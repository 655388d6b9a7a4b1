use Rattle.std.proofs.Common.{◌≤◌, length, take}
use Rattle.std.specs.Io.KnownBytes.{Appends}
use Rattle.cli_orders.proofs.writing.write_whole.Given as goal

-- the front of the octets is written
abbrev pub invariant-loop-write : goal.invariant-loop-write
invariant-loop-write g l =
    Appends (g.W.Write.contents l.fn.writer) (g.W.Write.contents l.writer) (take l.count l.octets)
    × (l.count ≤ length l.octets)
