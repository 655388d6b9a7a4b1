use Rattle.std.proofs.Common.{◌<◌, ◌∙◌, map, length, sym, ap, arith, []}
use Rattle.std.proofs.lemmas.List.{get_or-map, length-map, take_more_same}
use Rattle.contact_csv.proofs.carried.are_texts.Goals as goal

pub loop-place-preserved : goal.loop-place-preserved
loop-place-preserved c =
    let within : c.loop-place.place < length c.args.values.now =
    omega (arith, c.if-values-texts.false, c.loop-place-test.true) in
    take_more_same (map (λ value. value.text) c.args.values.now)
    (map (λ text. text.now) c.args.texts.now) c.loop-place.place []
    (omega (arith, length-map c.args.values.now (λ value. value.text), within))
    (omega (arith, length-map c.args.texts.now (λ text. text.now), c.loop-place-test.true))
    c.loop-place.invariant
    (get_or-map (λ value. value.text) c.args.values.now c.loop-place.place
    c.index-values-place.result [] within
    ∙ sym (ap (λ value. value.text) c.index-values-place.is)
    ∙ c.is_text.ensures c.if-not-is_text.false
    ∙ sym (get_or-map (λ text. text.now) c.args.texts.now c.loop-place.place _ []
    c.loop-place-test.true))
