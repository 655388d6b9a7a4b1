use Rattle.std.proofs.Common.{◌≡◌, ◌++◌, length}
use Rattle.import_text.specs.QuotedPrintable.{quoted_printable}
use Rattle.import_text.proofs.quoted_printable.read_quoted_printable.Given as goal

-- the octets so far, and those of what is left, are all octets
abbrev pub invariant-loop-octet : goal.invariant-loop-octet
invariant-loop-octet l = l.read.items ++ quoted_printable l.rest ≡ quoted_printable l.octets

abbrev pub decreases-loop-octet : goal.decreases-loop-octet
decreases-loop-octet l = length l.rest
