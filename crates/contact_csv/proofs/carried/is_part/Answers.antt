use Rattle.std.proofs.Common.{◌≡◌, ◌∙◌, [], true, string_bytes, bytes_eq, ap, sym, rules, arith}
use Rattle.std.proofs.lemmas.List.{get_or-map}
use Rattle.contact_csv.proofs.carried.is_part.Goals as goal

pub returns : goal.returns
returns c = λ t.
    let part = c.index-parts-index.result in
    let same : bytes_eq (string_bytes part) c.args.text.now ≡ true = search rules in
    ap (λ p. bytes_eq p c.args.text.now)
    (get_or-map string_bytes c.args.parts.now c.args.index part []
    (omega (arith, c.if-index-parts.false))
    ∙ ap string_bytes (sym c.index-parts-index.is))
    ∙ same
