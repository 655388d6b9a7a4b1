use Rattle.std.proofs.Common.{◌≡◌, nat_eq, false, ◌&&◌, bytes_eq, string_bytes, map, sym, ap, ◌∙◌}
use Rattle.std.proofs.Common.{rules}
use Rattle.std.specs.FinMap as finite
use Rattle.std.specs.Cmp.Lexicographic.{pointwise}
use Rattle.base_types.specs.TextMaps.{same_entry}
use Rattle.base_types.proofs.TextMapLemmas.{octet_entry, entries-texts, same_entries, other_lengths}
use Rattle.base_types.proofs.text_map.TextMapPartialEq.eq.Goals as goal

pub returns-then-len : goal.returns-then-len
returns-then-len g c =
    let same = g.V.PartialEq.eq in
    let here : map octet_entry c.self.inside.inner.entries ≡ finite.entries c.args.self.now =
    sym (entries-texts c.self.inside.inner c.len.ensures.ordered)
    ∙ ap finite.entries c.self.view_is in
    let there : map octet_entry c.other.inside.inner.entries ≡ finite.entries c.args.other.now =
    sym (entries-texts c.other.inside.inner c.len-2.ensures.ordered)
    ∙ ap finite.entries c.other.view_is in
    c.eq.ensures ∙ same_entries same c.self.inside.inner.entries c.other.inside.inner.entries
    ∙ ap (λ es. pointwise (same_entry same) es (map octet_entry c.other.inside.inner.entries)) here
    ∙ ap (pointwise (same_entry same) (finite.entries c.args.self.now)) there

pub returns-else-len : goal.returns-else-len
returns-else-len g c =
    let same = g.V.PartialEq.eq in
    let here : map octet_entry c.self.inside.inner.entries ≡ finite.entries c.args.self.now =
    sym (entries-texts c.self.inside.inner c.len.ensures.ordered)
    ∙ ap finite.entries c.self.view_is in
    let there : map octet_entry c.other.inside.inner.entries ≡ finite.entries c.args.other.now =
    sym (entries-texts c.other.inside.inner c.len-2.ensures.ordered)
    ∙ ap finite.entries c.other.view_is in
    let not_same : nat_eq c.len.result c.len-2.result ≡ false = search (rules) in
    not_same
    ∙ sym (other_lengths (λ p q. bytes_eq (string_bytes p.0) (string_bytes q.0) && same p.1 q.1)
    c.self.inside.inner.entries c.other.inside.inner.entries
    (λ e. c.if-len.false (c.len.ensures.len ∙ e ∙ sym c.len-2.ensures.len)))
    ∙ same_entries same c.self.inside.inner.entries c.other.inside.inner.entries
    ∙ ap (λ es. pointwise (same_entry same) es (map octet_entry c.other.inside.inner.entries)) here
    ∙ ap (pointwise (same_entry same) (finite.entries c.args.self.now)) there
