use Rattle.std.proofs.Common.{◌≡◌, ◌∙◌, sym, ap, rules, true≢false}
use Rattle.vcard_import.specs.Conversions.{has_encodings}
use Rattle.vcard_import.proofs.ResultLemmas.{ok_is_no_err, err_is_no_ok, same_ok, ok_either}
use Rattle.vcard_import.proofs.conversion.convert_card.Goals as goal

pub returns-in-Ok-clause-same : goal.returns-in-Ok-clause-same
returns-in-Ok-clause-same c = λ lines spells plain n. (
  same_ok c.in-Ok.card lines (c.in-Ok.ensures.every lines spells (ok_is_no_err c.in-Ok.card)),
  c.new.ensures,
)

pub returns-in-Ok-2-clause-same : goal.returns-in-Ok-2-clause-same
returns-in-Ok-2-clause-same c = λ lines spells plain n.
    let same : c.in-Ok.card ≡ lines =
    same_ok c.in-Ok.card lines (c.in-Ok.ensures.every lines spells
    (ok_is_no_err c.in-Ok.card)) in
    absurd (true≢false (sym c.if-not-has_encodings.false ∙ c.has_encodings.ensures
    ∙ ap has_encodings (c.lines.ensures.lines ∙ same) ∙ plain))

pub returns-in-Err : goal.returns-in-Err
returns-in-Err c = record {
  same = λ lines spells plain n. absurd (err_is_no_ok c.in-Err.field-0 lines
      (c.in-Err.ensures.every lines spells (search rules)));
  converted = ok_either c.args.octets.now c.convert_refused-in-Err.result
      c.convert_refused-in-Err.ensures.converted;
  left_out = c.convert_refused-in-Err.ensures.left_out;
  refused = c.convert_refused-in-Err.ensures.refused;
}
