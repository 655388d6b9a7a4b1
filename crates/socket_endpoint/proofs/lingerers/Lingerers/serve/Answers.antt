use Rattle.std.proofs.Common.{◌≡◌, ◌∙◌, ◌++◌, ap, arith, drop, length, map, subst, sym, take}
use Rattle.mio.specs.Events.{items}
use Rattle.socket_endpoint.specs.Lingering.{DrainsSlots, LooksAtEach, NoneIsOver, room_octets}
use Rattle.socket_endpoint.specs.LingerSlots.{slot_after}
use Rattle.socket_endpoint.specs.Reports.{event_subject}
use Rattle.socket_endpoint.proofs.DrainLemmas.{given_up_leave, given_up_none}
use Rattle.socket_endpoint.proofs.LoopLemmas.{written_back}
use Rattle.socket_endpoint.proofs.lingerers.Lingerers.serve.Goals as goal

pub returns-clause-drains : goal.returns-clause-drains
returns-clause-drains g c =
    let log = g.S.Sockets.log in
    let before = log c.args.system.now in
    let after = log c.look_at_reported.new.system in
    let old = c.args.self.now.slots.items in
    let len = c.args.self.now.slots.len in
    let looked = c.look_at_reported.new.slots in
    let given = c.give_up.new.slots in
    let long : length looked ≡ length old = omega (
      arith,
      c.look_at_reported.auto.slots,
      ap length
          c.deref_mut.ensures.value,
    ) in
    let first = written_back old looked len c.args.self.now.slots.ok.0 long in
    let middle = take len (looked ++ drop (length looked) old) in
    let given_is = c.give_up.ensures ∙ ap (map (slot_after c.args.now)) (c.deref_mut-3.ensures.value
    ∙ first) in
    let again : length given ≡ length middle = omega (
      arith,
      c.give_up.auto.slots,
      ap length
          c.deref_mut-3.ensures.value,
    ) in
    let whole : len ≡ length middle = omega (
      arith,
      c.args.self.now.slots.ok.0,
      long,
      ap length
          first,
    ) in
    let written = written_back middle given len whole again in
    let drains = subst (λ s. DrainsSlots s looked before after) c.deref_mut.ensures.value
    c.look_at_reported.ensures.drains in
    subst (λ s. DrainsSlots old s before after) (sym written) (given_up_leave c.args.now old looked
    given before after given_is drains)

pub returns-clause-given_up : goal.returns-clause-given_up
returns-clause-given_up g c =
    let old = c.args.self.now.slots.items in
    let len = c.args.self.now.slots.len in
    let looked = c.look_at_reported.new.slots in
    let given = c.give_up.new.slots in
    let long : length looked ≡ length old = omega (
      arith,
      c.look_at_reported.auto.slots,
      ap length
          c.deref_mut.ensures.value,
    ) in
    let first = written_back old looked len c.args.self.now.slots.ok.0 long in
    let middle = take len (looked ++ drop (length looked) old) in
    let given_is = c.give_up.ensures ∙ ap (map (slot_after c.args.now)) (c.deref_mut-3.ensures.value
    ∙ first) in
    let again : length given ≡ length middle = omega (
      arith,
      c.give_up.auto.slots,
      ap length
          c.deref_mut-3.ensures.value,
    ) in
    let whole : len ≡ length middle = omega (
      arith,
      c.args.self.now.slots.ok.0,
      long,
      ap length
          first,
    ) in
    let written = written_back middle given len whole again in
    subst (λ s. NoneIsOver c.args.now s) (sym written) (given_up_none c.args.now looked given
    given_is)

pub returns-clause-serves : goal.returns-clause-serves
returns-clause-serves g c =
    let log = g.S.Sockets.log in
    let before = log c.args.system.now in
    let after = log c.look_at_reported.new.system in
    let subjects = map event_subject (items c.args.events.now) in
    let old = c.args.self.now.slots.items in
    let len = c.args.self.now.slots.len in
    let looked = c.look_at_reported.new.slots in
    let given = c.give_up.new.slots in
    let long : length looked ≡ length old = omega (
      arith,
      c.look_at_reported.auto.slots,
      ap length
          c.deref_mut.ensures.value,
    ) in
    let first = written_back old looked len c.args.self.now.slots.ok.0 long in
    let middle = take len (looked ++ drop (length looked) old) in
    let given_is = c.give_up.ensures ∙ ap (map (slot_after c.args.now)) (c.deref_mut-3.ensures.value
    ∙ first) in
    let again : length given ≡ length middle = omega (
      arith,
      c.give_up.auto.slots,
      ap length
          c.deref_mut-3.ensures.value,
    ) in
    let whole : len ≡ length middle = omega (
      arith,
      c.args.self.now.slots.ok.0,
      long,
      ap length
          first,
    ) in
    let written = written_back middle given len whole again in
    let by_room = subst (λ n. LooksAtEach n c.args.now subjects c.deref_mut.result.now looked before
    after) (ap length c.deref_mut-2.ensures.value ∙ c.args.self.now.whole)
    c.look_at_reported.ensures.looks in
    let looks = subst (λ s. LooksAtEach room_octets c.args.now subjects s looked before after)
    c.deref_mut.ensures.value by_room in
    record { looked = looked; looks = looks; gives_up = written ∙ given_is }
