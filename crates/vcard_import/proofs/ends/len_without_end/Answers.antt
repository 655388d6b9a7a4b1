use Rattle.std.proofs.Common.{◌≡◌, ◌≤◌, ◌+◌, ◌∙◌, suc, length, sym, ap, arith}
use Rattle.std.proofs.lemmas.List.{nil_from_length}
use Rattle.vcard_import.specs.Ends.{len_without_end}
use Rattle.vcard_import.proofs.EndLemmas.{ends_here, ends_later, none_left}
use Rattle.vcard_import.proofs.ends.len_without_end.Goals as goal

pub overflow_sub-result : goal.overflow_sub-result
overflow_sub-result c =
    let longer : length c.loop-octet.rest.now ≡ suc (length c.in-Some.tail.now) =
    ap length c.in-Some.ensures.cases.0 in
    let within : length c.loop-octet.rest.now ≤ length c.args.octets.now =
    c.loop-octet.invariant.1 in
    omega (arith, longer, within)

pub returns-then-is_before_end-clause-len : goal.returns-then-is_before_end-clause-len
returns-then-is_before_end-clause-len c =
    let longer : length c.loop-octet.rest.now ≡ suc (length c.in-Some.tail.now) =
    ap length c.in-Some.ensures.cases.0 in
    let one : len_without_end c.loop-octet.rest.now ≡ 1 =
    ends_here c.loop-octet.rest.now _ c.in-Some.tail.now c.in-Some.ensures.cases.0
    (sym c.if-is_before_end.ensures) in
    let read : length c.args.octets.now + len_without_end c.loop-octet.rest.now
    ≡ len_without_end c.args.octets.now + length c.loop-octet.rest.now =
    c.loop-octet.invariant.0 in
    omega (arith, longer, one, read)

pub loop-octet-preserved : goal.loop-octet-preserved
loop-octet-preserved c =
    let longer : length c.loop-octet.rest.now ≡ suc (length c.in-Some.tail.now) =
    ap length c.in-Some.ensures.cases.0 in
    let more : len_without_end c.loop-octet.rest.now ≡ len_without_end c.in-Some.tail.now + 1 =
    ends_later c.loop-octet.rest.now _ c.in-Some.tail.now c.in-Some.ensures.cases.0
    (sym c.if-is_before_end.ensures) in
    let read : length c.args.octets.now + len_without_end c.loop-octet.rest.now
    ≡ len_without_end c.args.octets.now + length c.loop-octet.rest.now =
    c.loop-octet.invariant.0 in
    let within : length c.loop-octet.rest.now ≤ length c.args.octets.now =
    c.loop-octet.invariant.1 in
    (omega (arith, longer, more, read), omega (arith, longer, within))

pub returns-clause-len : goal.returns-clause-len
returns-clause-len c =
    let empty = c.in_default.ensures.cases in
    let zero : len_without_end c.loop-octet.rest.now ≡ 0 =
    ap len_without_end (nil_from_length c.loop-octet.rest.now empty) ∙ none_left in
    let none : length c.loop-octet.rest.now ≡ 0 = empty in
    let read : length c.args.octets.now + len_without_end c.loop-octet.rest.now
    ≡ len_without_end c.args.octets.now + length c.loop-octet.rest.now =
    c.loop-octet.invariant.0 in
    omega (arith, zero, none, read)
