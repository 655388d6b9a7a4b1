use Rattle.std.proofs.Common.{◌≡◌, map, sym, ap, ◌∙◌, rules}
use Rattle.std.specs.FinMap as finite
use Rattle.std.specs.Map.Iter.{deref_pair}
use Rattle.std.proofs.lemmas.Map.Iter.{iter_end}
use Rattle.base_types.proofs.TextMapLemmas.{octet_entry, entries-texts}
use Rattle.base_types.proofs.text_map.TextMap.entries.Goals as goal

pub returns : goal.returns
returns g c =
    let all : map deref_pair c.loop-key.yielded ≡ c.self.inside.inner.entries =
    search (rules, iter_end) in
    c.loop-key.invariant ∙ ap (map octet_entry) all
    ∙ sym (entries-texts c.self.inside.inner c.iter-key-items.ensures.ordered)
    ∙ ap finite.entries c.self.view_is
