use Rattle.std.proofs.Common.{◌≡◌, ◌++◌, map}
use Rattle.vcard_import.specs.Conversions.{addition}
use Rattle.vcard_import.proofs.missing_lines.add_lines.Given as goal

-- the lines so far and their changes were appended
abbrev pub invariant-loop-line : goal.invariant-loop-line
invariant-loop-line l = record {
  lines : l.lines ≡ l.fn.lines ++ l.yielded;
  changes : l.changes ≡ l.fn.changes ++ map addition l.yielded;
}
