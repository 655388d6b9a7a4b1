use Rattle.std.proofs.Common.{sym, arith, rules}
use Rattle.std.proofs.lemmas.Result.{err_from_is_err_and}
use Rattle.vcard_lines.specs.Parsing.{parse_param_value, parse_values}
use Rattle.vcard_lines.proofs.StepLemmas.{stripped_shorter}
use Rattle.vcard_lines.proofs.Readers.{goes_on, fails, is_done}
use Rattle.vcard_lines.proofs.PartLemmas.{value_shrinks}
use Rattle.vcard_lines.proofs.line_reader.read_values.Goals as goal

pub returns-in_err-value-2 : goal.returns-in_err-value-2
returns-in_err-value-2 c =
    let p = err_from_is_err_and c.from_residual-in_err-value-2.result
    c.from_residual-in_err-value-2.ensures.1 in
    rw (p.1, p.2) (λ n. fails 44 parse_param_value c.loop-more.values c.loop-more.rest.now
    c.in-Some.more.now c.in_err-value-2.field-0.0 (parse_values c.args.text.now)
    (sym c.in-Some.ensures) (c.in_err-value-2.ensures n) c.loop-more.invariant.whole)

pub loop-more-smaller : goal.loop-more-smaller
loop-more-smaller c = omega (
  arith,
  value_shrinks c.in-Some.more.now c.in_ok-value-2.value
      c.in_ok-value-2.tail.now c.in_ok-value-2.ensures,
  stripped_shorter 44 c.loop-more.rest.now
      c.in-Some.more.now (sym c.in-Some.ensures),
)

pub loop-more-preserved : goal.loop-more-preserved
loop-more-preserved c = record {
  utf8 = search rules;
  whole = rw c.in_ok-push-2.ensures.ok (goes_on 44 parse_param_value value_shrinks
      c.loop-more.values c.loop-more.rest.now c.in-Some.more.now c.in_ok-value-2.tail.now
      c.in_ok-value-2.value (parse_values c.args.text.now) (sym c.in-Some.ensures)
      c.in_ok-value-2.ensures c.loop-more.invariant.whole);
}

pub returns : goal.returns
returns c = is_done 44 parse_param_value c.loop-more.values c.loop-more.rest.now
    (parse_values c.args.text.now) (sym c.in_default.ensures) c.loop-more.invariant.whole
