use Rattle.std.proofs.Common.{ap, ◌∙◌, sym, string_bytes, bytes_eq}
use Rattle.std.specs.List.{list_any}
use Rattle.contact_csv.proofs.TextLemmas.{any_mapped}
use Rattle.contact_csv.proofs.carried.has_component.Goals as goal

pub returns : goal.returns
returns c =
    c.has_part.ensures
    ∙ ap (list_any (λ part. bytes_eq (string_bytes part) c.args.text.now)) c.as_slice.ensures.value
    ∙ sym (any_mapped (λ part. bytes_eq part c.args.text.now) string_bytes
    c.in_ok-parts.parts.items)
    ∙ ap (list_any (λ part. bytes_eq part c.args.text.now)) c.in_ok-parts.ensures.components
