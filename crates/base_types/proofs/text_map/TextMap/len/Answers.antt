use Rattle.std.proofs.Common.{length, sym, ap, ◌∙◌}
use Rattle.std.specs.FinMap as finite
use Rattle.std.proofs.lemmas.List.{length-map}
use Rattle.base_types.proofs.TextMapLemmas.{octet_entry, entries-texts}
use Rattle.base_types.proofs.text_map.TextMap.len.Goals as goal

pub returns : goal.returns
returns g c =
    c.len.ensures.len ∙ sym (length-map c.self.inside.inner.entries octet_entry)
    ∙ ap length (sym (entries-texts c.self.inside.inner c.len.ensures.ordered))
    ∙ sym (finite.len-entries _) ∙ ap finite.len c.self.view_is
