use Rattle.std.proofs.Common.{◌≡◌, ◌∙◌, ◌≤◌, sym, subst, arith, length, Some, None, IsUtf8}
use Rattle.http_requests.proofs.EndLemmas.{none_after_end}
use Rattle.http_requests.proofs.HeadLemmas.{starts_with_head, fault_is, screens_is, length_is}
use Rattle.http_requests.proofs.HeadLemmas.{close_is, head_is, token_text, user_is}
use Rattle.http_requests.proofs.head.read_head.Goals as goal

pub returns-in-Err-length_or_fault : goal.returns-in-Err-length_or_fault
returns-in-Err-length_or_fault g c =
    let of = rw c.in-Ok-Complete.field-0-is at c.in-Ok-Complete.ensures.complete in
    let within = rw c.in-Ok-Complete.field-0-is at c.in-Ok-Complete.ensures.within in
    let room : length c.parse_request.new.headers ≡ 64 = c.parse_request.auto.headers in
    let few : c.in-Ok-Complete.parts.headers ≤ 64 =
    omega (arith, within.section.count_fits, room) in (
      of.0,
      starts_with_head c.args.text.now c.parse_request.new.headers c.in-Ok-Complete.parts of.0
          c.requires.ends c.requires.short few of.1,
      fault_is c.args.text.now c.parse_request.new.headers c.in-Ok-Complete.parts of.0
          (Some c.in-Err-length_or_fault.fault) of.1 c.in-Err-length_or_fault.ensures,
    )

pub returns-in_ok-user-in-Ok : goal.returns-in_ok-user-in-Ok
returns-in_ok-user-in-Ok g c =
    let of = rw c.in-Ok-Complete.field-0-is at c.in-Ok-Complete.ensures.complete in
    let within = rw c.in-Ok-Complete.field-0-is at c.in-Ok-Complete.ensures.within in
    let room : length c.parse_request.new.headers ≡ 64 = c.parse_request.auto.headers in
    let few : c.in-Ok-Complete.parts.headers ≤ 64 =
    omega (arith, within.section.count_fits, room) in
    let method_is = c.of-in-Ok.ensures ∙ of.1.method in
    let target_is = c.of-in-Ok-2.ensures ∙ of.1.path in
    let method_text : IsUtf8 c.of-in-Ok.result.now =
    subst IsUtf8 (sym method_is) (token_text of.0.method of.1.reads.0.method.1) in
    let target_text : IsUtf8 c.of-in-Ok-2.result.now =
    subst IsUtf8 (sym target_is) of.1.reads.0.target_text in
    let size = length_is c.args.text.now c.parse_request.new.headers c.in-Ok-Complete.parts of.0
    c.in-Ok.length of.1 c.in-Ok.ensures.1 in (
      of.0,
      starts_with_head c.args.text.now c.parse_request.new.headers c.in-Ok-Complete.parts of.0
          c.requires.ends c.requires.short few of.1,
      fault_is c.args.text.now c.parse_request.new.headers c.in-Ok-Complete.parts of.0 None of.1
          c.in-Ok.ensures.0,
      screens_is g.H.Handler.does c.args.handler.now c.args.text.now c.parse_request.new.headers
          c.in-Ok-Complete.parts of.0 c.of.result.now c.screen.result None of.1 (c.of.ensures
          ∙ of.1.method) c.screen.ensures c.in_default.is,
      head_is _ of.0
          (c.new.ensures ∙ c.in_ok-method-in-Ok.ensures.ok method_text
          ∙ method_is) (c.new-in-Ok.ensures ∙ c.in_ok-target-in-Ok.ensures.ok target_text
          ∙ target_is)
          (close_is c.args.text.now c.parse_request.new.headers c.in-Ok-Complete.parts of.0
          c.closes-close.result of.1 c.closes-close.ensures) (sym size)
          (user_is c.args.text.now c.parse_request.new.headers c.in-Ok-Complete.parts of.0 _ of.1
          (c.from_vec.ensures ∙ c.in_ok-user-in-Ok.ensures.items_if_clones_equal (λ x y e. e)
          ∙ c.user_in_fields.ensures)),
      omega (arith, size, c.in-Ok.ensures.2),
    )

pub returns-in-Ok-Partial : goal.returns-in-Ok-Partial
returns-in-Ok-Partial g c = none_after_end c.args.text.now c.requires.ends
    (rw c.in-Ok-Partial.field-0-is at c.in-Ok-Partial.ensures.partial)

pub returns-in-Some : goal.returns-in-Some
returns-in-Some g c =
    let of = rw c.in-Ok-Complete.field-0-is at c.in-Ok-Complete.ensures.complete in
    let within = rw c.in-Ok-Complete.field-0-is at c.in-Ok-Complete.ensures.within in
    let room : length c.parse_request.new.headers ≡ 64 = c.parse_request.auto.headers in
    let few : c.in-Ok-Complete.parts.headers ≤ 64 =
    omega (arith, within.section.count_fits, room) in (
      of.0,
      starts_with_head c.args.text.now c.parse_request.new.headers c.in-Ok-Complete.parts of.0
          c.requires.ends c.requires.short few of.1,
      fault_is c.args.text.now c.parse_request.new.headers c.in-Ok-Complete.parts of.0 None of.1
          c.in-Ok.ensures.0,
      screens_is g.H.Handler.does c.args.handler.now c.args.text.now c.parse_request.new.headers
          c.in-Ok-Complete.parts of.0 c.of.result.now c.screen.result (Some c.in-Some.fault) of.1
          (c.of.ensures ∙ of.1.method) c.screen.ensures c.in-Some.is,
    )
