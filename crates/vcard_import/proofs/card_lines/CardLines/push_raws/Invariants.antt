use Rattle.std.proofs.Common.{take}
use Rattle.vcard_import.specs.internal.Steps.{Extends}
use Rattle.vcard_import.proofs.card_lines.CardLines.push_raws.Given as goal

-- the logical lines so far were read
abbrev pub invariant-loop-raw : goal.invariant-loop-raw
invariant-loop-raw l = Extends l.reading (take l.raw-index l.raws) l.fn.self l.self
