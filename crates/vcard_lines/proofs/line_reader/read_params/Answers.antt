use Rattle.std.proofs.Common.{sym, arith, rules}
use Rattle.std.proofs.lemmas.Result.{err_from_is_err_and}
use Rattle.vcard_lines.specs.Parsing.{parse_param, parse_params}
use Rattle.vcard_lines.proofs.StepLemmas.{stripped_shorter}
use Rattle.vcard_lines.proofs.Readers.{goes_on, fails, is_done}
use Rattle.vcard_lines.proofs.PartLemmas.{param_shrinks}
use Rattle.vcard_lines.proofs.line_reader.read_params.Goals as goal

pub returns-in_err-param : goal.returns-in_err-param
returns-in_err-param c =
    let p = err_from_is_err_and c.from_residual-in_err-param.result
    c.from_residual-in_err-param.ensures.1 in
    rw (p.1, p.2) (λ n. fails 59 parse_param c.loop-more.params c.loop-more.rest.now
    c.in-Some.more.now c.in_err-param.field-0.0 (parse_params c.args.text.now)
    (sym c.in-Some.ensures) (c.in_err-param.ensures n) c.loop-more.invariant.whole)

pub loop-more-smaller : goal.loop-more-smaller
loop-more-smaller c = omega (
  arith,
  param_shrinks c.in-Some.more.now c.in_ok-param.param
      c.in_ok-param.tail.now c.in_ok-param.ensures,
  stripped_shorter 59 c.loop-more.rest.now
      c.in-Some.more.now (sym c.in-Some.ensures),
)

pub loop-more-preserved : goal.loop-more-preserved
loop-more-preserved c = record {
  utf8 = search rules;
  whole = rw c.in_ok-push.ensures.ok (goes_on 59 parse_param param_shrinks c.loop-more.params
      c.loop-more.rest.now c.in-Some.more.now c.in_ok-param.tail.now c.in_ok-param.param
      (parse_params c.args.text.now) (sym c.in-Some.ensures) c.in_ok-param.ensures
      c.loop-more.invariant.whole);
}

pub returns : goal.returns
returns c = is_done 59 parse_param c.loop-more.params c.loop-more.rest.now
    (parse_params c.args.text.now) (sym c.in_default.ensures) c.loop-more.invariant.whole
