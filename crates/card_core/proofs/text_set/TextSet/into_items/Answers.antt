use Rattle.std.proofs.Common.{◌≡◌, rules, map, string_bytes, sym, ap, subst, ◌∙◌}
use Rattle.std.specs.List.Sorted.{IsStrictlySortedBy}
use Rattle.std.proofs.lemmas.List.{map-id}
use Rattle.std.proofs.lemmas.Map.Iter.{iter_end}
use Rattle.base_types.specs.TextMaps.{text_cmp}
use Rattle.card_core.proofs.TextSetLemmas.{texts_rise}
use Rattle.card_core.proofs.text_set.TextSet.into_items.Goals as goal

all_given : (c : goal.After-from_vec)
    → c.from_vec.result ≡ map string_bytes c.self.inside.inner.keys
all_given c =
    let all : map (λ k. k) c.loop-text.yielded ≡ c.self.inside.inner.keys =
    search (rules, iter_end) in
    c.from_vec.ensures ∙ c.loop-text.invariant
    ∙ ap (map string_bytes) (sym (map-id c.loop-text.yielded) ∙ all)

pub returns-clause-texts : goal.returns-clause-texts
returns-clause-texts c = all_given c ∙ c.self.view_is

pub returns-clause-order : goal.returns-clause-order
returns-clause-order c = subst (IsStrictlySortedBy text_cmp) (sym (all_given c))
    (texts_rise c.self.inside.inner.keys c.len.ensures.ordered)
