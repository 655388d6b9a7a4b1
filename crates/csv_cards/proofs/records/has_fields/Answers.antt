use Rattle.std.proofs.Common.{sym, ◌∙◌, map, arith, []}
use Rattle.std.proofs.lemmas.List.{get_or-map, length-map}
use Rattle.csv.specs.Records.{fields_of}
use Rattle.csv_cards.proofs.RecordLemmas.{same-more}
use Rattle.csv_cards.proofs.records.has_fields.Goals as goal

pub loop-place-preserved : goal.loop-place-preserved
loop-place-preserved c =
    same-more (fields_of c.args.row.now) (map (λ name. name.now) c.args.names.now)
    c.loop-place.place (omega (
      arith,
      c.len.ensures,
      c.if-len-names.false,
      c.loop-place-test.true,
    ))
    (sym c.len.ensures ∙ c.if-len-names.false
    ∙ sym (length-map c.args.names.now (λ name. name.now)))
    c.loop-place.invariant
    (c.is_field.ensures.0 c.if-not-is_field.false
    ∙ sym (get_or-map (λ name. name.now) c.args.names.now c.loop-place.place _ []
    c.loop-place-test.true))
