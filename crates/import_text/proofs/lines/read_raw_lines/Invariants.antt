use Rattle.std.proofs.Common.{◌≡◌, ◌++◌, drop}
use Rattle.import_text.specs.RawLines.{lines_from, raw_line, raw_lines}
use Rattle.import_text.specs.internal.Heads.{head_of}
use Rattle.import_text.proofs.RawLineLemmas.{texts}
use Rattle.import_text.proofs.lines.read_raw_lines.Given as goal

-- what the head of the line so far says is known, and the lines so far and those of what is left
-- are all lines
abbrev pub invariant-loop-place : goal.invariant-loop-place
invariant-loop-place l = (l.line.head ≡ head_of l.line.octets.items)
    × (l.lines.items ++ lines_from l.folding (raw_line l.line.place l.line.octets.items) l.place
    (texts (drop l.place l.piece-items)) ≡ raw_lines l.folding l.octets)
