use Rattle.std.proofs.Common.{rules, tests}
use Rattle.std.proofs.lemmas.Iterator.{YieldsList-from_map, items_from_collect}
use Rattle.std.proofs.lemmas.Iterator.Consumers.{YieldsList-at}
use Rattle.std.proofs.lemmas.Iterator.Splits.{YieldsList-from_slice_split}
use Rattle.vcard_import.specs.Folds.{physical_line}
use Rattle.vcard_import.proofs.folds.physical_lines.Goals as goal

pub returns : goal.returns
returns c = items_from_collect _ c.collect.ensures.ran (YieldsList-from_map _ physical_line
    (YieldsList-at c.map.ensures.source (YieldsList-from_slice_split _ _ c.args.octets.now
    c.split.ensures.rest c.split.ensures.done c.split.ensures.closure (λ x r q k. search (
      rules,
      tests,
    )))) c.map.ensures.closure (λ x r q k. search (rules, tests)))
