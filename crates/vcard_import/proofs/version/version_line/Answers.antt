use Rattle.std.proofs.Common.{rules, tests, codes}
use Rattle.std.proofs.lemmas.Iterator.Search.{find_from_yields_List}
use Rattle.std.proofs.lemmas.Iterator.Splits.{YieldsList-from_slice_split}
use Rattle.import_text.specs.RawLines.{begins_with_word}
use Rattle.vcard_import.proofs.version.version_line.Goals as goal

pub returns : goal.returns
returns c =
    find_from_yields_List (begins_with_word (codes "VERSION:")) _ _ c.find.result c.find.ensures.ran
    (YieldsList-from_slice_split _ _ c.args.octets.now c.split.ensures.rest c.split.ensures.done
    c.split.ensures.closure (λ x r q k. search (rules, tests)))
    (λ x b q k. search (rules, tests))
