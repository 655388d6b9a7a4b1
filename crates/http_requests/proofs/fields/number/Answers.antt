use Rattle.std.proofs.Common.{◌≤◌, ◌^◌, arith}
use Rattle.http_requests.proofs.FieldLemmas.{number_more, number_small, pow_bound, digit_at}
use Rattle.http_requests.proofs.fields.number.Goals as goal

pub overflow_mul-number : goal.overflow_mul-number
overflow_mul-number c =
    let few : 10 ^ c.loop-i.i ≤ 1000000000000000 =
    pow_bound c.loop-i.i (omega (arith, c.loop-i-test.true, c.requires.short)) in
    omega (arith, few, c.loop-i.invariant.small)

pub overflow_add-number : goal.overflow_add-number
overflow_add-number c =
    let few : 10 ^ c.loop-i.i ≤ 1000000000000000 =
    pow_bound c.loop-i.i (omega (arith, c.loop-i-test.true, c.requires.short)) in
    let digit = digit_at c.args.value.now c.loop-i.i c.requires.digits c.loop-i-test.true in
    omega (arith, few, c.loop-i.invariant.small, digit)

pub loop-i-preserved : goal.loop-i-preserved
loop-i-preserved c = record {
  is = number_more c.args.value.now c.loop-i.i c.loop-i.number c.requires.digits c.loop-i-test.true
      c.loop-i.invariant.is;
  small = number_small c.args.value.now c.loop-i.i c.loop-i.number c.requires.digits
      c.loop-i-test.true c.loop-i.invariant.small;
}
