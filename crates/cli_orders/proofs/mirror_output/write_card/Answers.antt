use Rattle.std.proofs.Common.{◌++◌, ◌∷◌, [], ◌∙◌, ap}
use Rattle.std.specs.Fmt.{styled_decimal}
use Rattle.cli_orders.proofs.PaddingLemmas.{styled_13}
use Rattle.cli_orders.proofs.mirror_output.write_card.Goals as goal

pub returns : goal.returns
returns c =
    c.in_ok-extend_from_slice.ensures.items
    ∙ ap (λ octets. c.args.out.now.items ++ octets)
    (c.as_bytes.ensures.value ∙ c.in_ok-line.ensures.ok
    ∙ ap (λ digits. digits ++ (32 ∷ (c.args.uid.now ++ 10 ∷ [])))
    (ap (λ spec. styled_decimal spec c.args.version) c.laid_out.ensures
    ∙ styled_13 c.args.version))
