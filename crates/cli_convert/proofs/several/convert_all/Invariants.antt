use Rattle.std.proofs.Common.{◌≡◌, ◌∷◌, ℕ, List, Option, map, take}
use Rattle.card_conversion.specs.Courses.{ConvertsParts, Part}
use Rattle.cli_convert.specs.FileTexts.{ArePartsOf, known_text}
use Rattle.cli_convert.specs.Sources.{GivesText}
use Rattle.cli_convert.proofs.several.convert_all.Given as goal

-- the first file and those so far were converted
abbrev pub invariant-loop-file : goal.invariant-loop-file
invariant-loop-file g l = (whole : Option (List ℕ))
    → GivesText l.fn.content (g.R.Read.remaining l.fn.text) whole → (parts : List Part)
    × ArePartsOf (whole ∷ map (λ path. known_text l.fn.wanted.charset
    (g.F.FileSystem.octets l.fn.files path)) (take l.file-index l.fn.wanted.more.now)) parts
    × ConvertsParts g.O.CardSink.writes parts l.course l.fn.sink l.sink
