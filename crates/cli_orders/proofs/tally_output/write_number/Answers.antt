use Rattle.std.proofs.Common.{◌++◌, ◌∷◌, [], ◌∙◌, ap, arith}
use Rattle.std.specs.Fmt.{styled_decimal, styled_text}
use Rattle.cli_orders.proofs.PaddingLemmas.{left_in_14, styled_13}
use Rattle.cli_orders.proofs.tally_output.write_number.Goals as goal

pub returns : goal.returns
returns c =
    let name = ap (λ spec. styled_text spec c.args.name.now) c.laid_out.ensures
    ∙ left_in_14 c.args.name.now c.requires.ascii (omega arith) in
    let number = ap (λ spec. styled_decimal spec c.args.number) c.laid_out-2.ensures
    ∙ styled_13 c.args.number in
    c.in_ok-extend_from_slice.ensures.items
    ∙ ap (λ octets. c.args.out.now.items ++ octets) (c.as_bytes.ensures.value
    ∙ c.in_ok-line.ensures.ok ∙ (λ i. name i ++ (number i ++ 10 ∷ [])))
