use Rattle.std.proofs.Common.{◌≡◌, ◌∙◌, [], true, get_or, map, string_bytes, bytes_eq, ap, subst}
use Rattle.contact_csv.proofs.carried.is_component.Goals as goal

pub returns : goal.returns
returns c = λ t.
    subst (λ parts. bytes_eq (get_or parts c.args.index []) c.args.text.now ≡ true)
    (ap (map string_bytes) c.as_slice.ensures.value ∙ c.in_ok-parts.ensures.components)
    (c.is_part.ensures t)
