use Rattle.std.proofs.Common.{◌∙◌, ◌≤◌, None, Some, ap, arith, false, length, refl, set, subst, sym}
use Rattle.std.proofs.Common.{true}
use Rattle.std.proofs.lemmas.List.{get_or_default, length-set, set-set}
use Rattle.socket_endpoint.specs.Lingering.{DrainsSlots, StaysOrGoes}
use Rattle.socket_endpoint.proofs.DrainLemmas.{drains_free, drains_none, look_goes, look_stays}
use Rattle.socket_endpoint.proofs.EventLemmas.{nothing_past}
use Rattle.socket_endpoint.proofs.LookLemmas.{free_stays, looks_at_none, looks_at_one}
use Rattle.socket_endpoint.proofs.LookLemmas.{looks_elsewhere}
use Rattle.socket_endpoint.proofs.lingerers.look_at.Goals as goal

-- it isn't about a socket that lingers
pub returns-in_default-clause-drains : goal.returns-in_default-clause-drains
returns-in_default-clause-drains g c = drains_none c.args.slots.now (g.S.Sockets.log
    c.args.system.now)

-- there is no such slot
pub returns-then-slot-slots-clause-drains : goal.returns-then-slot-slots-clause-drains
returns-then-slot-slots-clause-drains g c = drains_none c.args.slots.now (g.S.Sockets.log
    c.args.system.now)

-- no socket is in it
pub returns-in_default-take-clause-drains : goal.returns-in_default-take-clause-drains
returns-in_default-take-clause-drains g c =
    let log = g.S.Sockets.log in
    subst (λ t. DrainsSlots c.args.slots.now (set c.args.slots.now c.in-Lingerer.slot t) (log
    c.args.system.now) (log c.args.system.now)) (sym c.take.ensures.after)
    (drains_free c.args.slots.now c.in-Lingerer.slot (log c.args.system.now))

pub returns-then-not-stays-clause-drains : goal.returns-then-not-stays-clause-drains
returns-then-not-stays-clause-drains g c =
    let log = g.S.Sockets.log in
    let slots = c.args.slots.now in
    let slot = c.in-Lingerer.slot in
    let count = length (set slots slot c.take.new.self) in
    let found = get_or_default slots slot None c.index-slots-slot.result c.if-slot-slots.false
    ∙ sym c.take.ensures.value ∙ c.in-Some.is in
    let goes = subst (λ b. StaysOrGoes c.in-Some.lingerer c.stays.new.self (length c.args.room.now)
    c.args.now count slot b (log c.args.system.now) (log c.stays.new.system))
    c.if-not-stays.true c.stays.ensures.stays in
    subst (λ t. DrainsSlots slots (set slots slot t) (log c.args.system.now) (log
    c.stays.new.system)) (sym c.take.ensures.after)
    (look_goes slots slot c.in-Some.lingerer c.stays.new.self found (length c.args.room.now)
    c.args.now count (log c.args.system.now) (log c.stays.new.system) goes)

pub returns-clause-drains : goal.returns-clause-drains
returns-clause-drains g c =
    let log = g.S.Sockets.log in
    let slots = c.args.slots.now in
    let slot = c.in-Lingerer.slot in
    let count = length (set slots slot c.take.new.self) in
    let found = get_or_default slots slot None c.index-slots-slot.result c.if-slot-slots.false
    ∙ sym c.take.ensures.value ∙ c.in-Some.is in
    let stays = subst (λ b. StaysOrGoes c.in-Some.lingerer c.stays.new.self (length c.args.room.now)
    c.args.now count slot b (log c.args.system.now) (log c.stays.new.system))
    c.if-not-stays.false c.stays.ensures.stays in
    subst (λ s. DrainsSlots slots s (log c.args.system.now) (log c.stays.new.system)) (sym (set-set
    slots slot c.take.new.self (Some c.stays.new.self)))
    (look_stays slots slot c.in-Some.lingerer c.stays.new.self found (length c.args.room.now)
    c.args.now count (log c.args.system.now) (log c.stays.new.system) stays)

pub returns-in_default-clause-looks : goal.returns-in_default-clause-looks
returns-in_default-clause-looks g c = looks_elsewhere (length c.args.room.now) c.args.now
    c.args.subject c.args.slots.now (g.S.Sockets.log c.args.system.now) (λ slot is.
    c.in_default.not-Lingerer slot is)

pub returns-then-slot-slots-clause-looks : goal.returns-then-slot-slots-clause-looks
returns-then-slot-slots-clause-looks g c =
    let past : length c.args.slots.now ≤ c.in-Lingerer.slot = omega arith in
    looks_at_none (length c.args.room.now) c.args.now c.args.subject c.in-Lingerer.slot
    c.in-Lingerer.is c.args.slots.now c.args.slots.now (g.S.Sockets.log c.args.system.now)
    (nothing_past c.args.slots.now c.in-Lingerer.slot past) refl

pub returns-in_default-take-clause-looks : goal.returns-in_default-take-clause-looks
returns-in_default-take-clause-looks g c =
    let slots = c.args.slots.now in
    let slot = c.in-Lingerer.slot in
    let none = get_or_default slots slot None c.index-slots-slot.result c.if-slot-slots.false
    ∙ sym c.take.ensures.value ∙ c.in_default-take.is in
    looks_at_none (length c.args.room.now) c.args.now c.args.subject slot c.in-Lingerer.is slots
    (set slots slot c.take.new.self) (g.S.Sockets.log c.args.system.now) none (ap (set slots
    slot) c.take.ensures.after ∙ free_stays slots slot none)

pub returns-then-not-stays-clause-looks : goal.returns-then-not-stays-clause-looks
returns-then-not-stays-clause-looks g c =
    let log = g.S.Sockets.log in
    let slots = c.args.slots.now in
    let slot = c.in-Lingerer.slot in
    let count = length (set slots slot c.take.new.self) in
    let found = get_or_default slots slot None c.index-slots-slot.result c.if-slot-slots.false
    ∙ sym c.take.ensures.value ∙ c.in-Some.is in
    let goes = subst (λ b. StaysOrGoes c.in-Some.lingerer c.stays.new.self (length c.args.room.now)
    c.args.now count slot b (log c.args.system.now) (log c.stays.new.system))
    c.if-not-stays.true c.stays.ensures.stays in
    looks_at_one (length c.args.room.now) c.args.now c.args.subject slot c.in-Lingerer.is count
    slots (set slots slot c.take.new.self) c.in-Some.lingerer c.stays.new.self false (log
    c.args.system.now) (log c.stays.new.system) found (length-set slots slot c.take.new.self)
    goes (ap (set slots slot) c.take.ensures.after)

pub returns-clause-looks : goal.returns-clause-looks
returns-clause-looks g c =
    let log = g.S.Sockets.log in
    let slots = c.args.slots.now in
    let slot = c.in-Lingerer.slot in
    let count = length (set slots slot c.take.new.self) in
    let found = get_or_default slots slot None c.index-slots-slot.result c.if-slot-slots.false
    ∙ sym c.take.ensures.value ∙ c.in-Some.is in
    let stays = subst (λ b. StaysOrGoes c.in-Some.lingerer c.stays.new.self (length c.args.room.now)
    c.args.now count slot b (log c.args.system.now) (log c.stays.new.system))
    c.if-not-stays.false c.stays.ensures.stays in
    looks_at_one (length c.args.room.now) c.args.now c.args.subject slot c.in-Lingerer.is count
    slots (set (set slots slot c.take.new.self) slot (Some c.stays.new.self)) c.in-Some.lingerer
    c.stays.new.self true (log c.args.system.now) (log c.stays.new.system) found (length-set
    slots slot c.take.new.self) stays (set-set slots slot c.take.new.self (Some
    c.stays.new.self))
