use Rattle.std.proofs.Common.{rules, tests, ◌==◌, ◌∙◌, ap}
use Rattle.std.specs.List.{list_any, slice_split}
use Rattle.std.proofs.lemmas.Iterator.Search.{any_from_yields_List}
use Rattle.std.proofs.lemmas.Iterator.Splits.{YieldsList-from_slice_split}
use Rattle.base_types.specs.Octets.{dot}
use Rattle.vcard_values.specs.Values.{may_lack_backslash}
use Rattle.vcard_values.proofs.values.is_named_as_text.Goals as goal

pub returns : goal.returns
returns c =
    any_from_yields_List may_lack_backslash _ _ c.any.result c.any.ensures.ran
    (YieldsList-from_slice_split _ _ c.written_name.result.now c.split.ensures.rest c.split.ensures.done
    c.split.ensures.closure (λ x r q k. search (rules, tests)))
    (λ x b q k. search (rules, tests))
    ∙ ap (λ octets. list_any may_lack_backslash (slice_split (λ octet. octet == dot) octets)) c.written_name.ensures
