use Rattle.std.proofs.Common.{◌≡◌, ◌∙◌, ap, arith, length, subst, sym}
use Rattle.socket_endpoint.specs.Lingering.{EndsAndLingers, Lingers, room_octets}
use Rattle.socket_endpoint.proofs.LookLemmas.{lingers_if, lingers_not}
use Rattle.socket_endpoint.proofs.LoopLemmas.{written_back}
use Rattle.socket_endpoint.proofs.lingerers.Lingerers.add.Goals as goal

pub returns-then-is_err : goal.returns-then-is_err
returns-then-is_err g c =
    let log = g.S.Sockets.log in
    lingers_not c.args.stream room_octets c.args.now c.end_sending.result
    c.args.self.now.slots.items (log c.args.system.now) (log c.end_sending.new.self)
    (sym c.is_err.ensures.value ∙ c.if-is_err.true) c.end_sending.ensures

pub returns : goal.returns
returns g c =
    let log = g.S.Sockets.log in
    let slots = c.args.self.now.slots.items in
    let before = log c.end_sending.new.self in
    let after = log c.linger.new.system in
    let by_room = subst (λ n. Lingers c.args.stream n c.args.now c.deref_mut.result.now
    c.linger.new.slots before after) (ap length c.deref_mut-2.ensures.value
    ∙ c.args.self.now.whole) c.linger.ensures in
    let lingers = subst (λ s. Lingers c.args.stream room_octets c.args.now s c.linger.new.slots
    before after) c.deref_mut.ensures.value by_room in
    let long : length c.linger.new.slots ≡ length slots = omega (
      arith,
      c.linger.auto.slots,
      ap
          length c.deref_mut.ensures.value,
    ) in
    subst (λ s. EndsAndLingers c.args.stream room_octets c.args.now slots s (log c.args.system.now)
    after) (sym (written_back slots c.linger.new.slots c.args.self.now.slots.len
    c.args.self.now.slots.ok.0 long))
    (lingers_if c.args.stream room_octets c.args.now c.end_sending.result slots c.linger.new.slots
    (log c.args.system.now) before after (sym c.is_err.ensures.value
    ∙ c.if-is_err.false) c.end_sending.ensures lingers)
