use Rattle.std.proofs.Common.{rules, tests, ◌==◌, ◌∙◌, ap}
use Rattle.std.specs.List.{list_any, slice_split}
use Rattle.std.proofs.lemmas.Iterator.Search.{any_from_yields_List}
use Rattle.std.proofs.lemmas.Iterator.Splits.{YieldsList-from_slice_split}
use Rattle.base_types.specs.Octets.{semicolon}
use Rattle.vcard_values.specs.ValueTexts.{names_ascii}
use Rattle.vcard_values.proofs.value_texts.says_ascii.Goals as goal

pub returns : goal.returns
returns c =
    any_from_yields_List names_ascii _ _ c.any.result c.any.ensures.ran
    (YieldsList-from_slice_split _ _ c.params.result.now c.split.ensures.rest c.split.ensures.done
    c.split.ensures.closure (λ x r q k. search (rules, tests)))
    (λ x b q k. search (rules, tests))
    ∙ ap (λ octets. list_any names_ascii (slice_split (λ octet. octet == semicolon) octets)) c.params.ensures
