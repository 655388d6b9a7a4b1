use Rattle.std.proofs.Common.{◌≡◌, ◌∙◌, ap, length, map, subst}
use Rattle.std.specs.Slice.Iter.{iter_rest}
use Rattle.mio.specs.Events.{items}
use Rattle.socket_endpoint.specs.Lingering.{LooksAtEach, LooksAtSubject}
use Rattle.socket_endpoint.specs.Reports.{event_subject}
use Rattle.socket_endpoint.specs.Subjects.{subject_of}
use Rattle.socket_endpoint.proofs.DrainLemmas.{drains_none, drains_trans}
use Rattle.socket_endpoint.proofs.LookLemmas.{looks_last, looks_next}
use Rattle.socket_endpoint.proofs.lingerers.look_at_reported.Goals as goal

pub loop-event-init : goal.loop-event-init
loop-event-init g c =
    let whole : iter_rest c.into_iter-event-iterator.result ≡ items c.args.events.now = cc
    (c.into_iter-event-iterator.ensures.into_iter_gives, c.iter-event-items.ensures.rest) in (
      drains_none c.args.slots.now (g.S.Sockets.log c.args.system.now),
      λ new after it. subst (λ
          events. LooksAtEach (length c.args.room.now) c.args.now (map event_subject events)
          c.args.slots.now new (g.S.Sockets.log c.args.system.now) after) whole it,
    )

pub loop-event-preserved : goal.loop-event-preserved
loop-event-preserved g c =
    let log = g.S.Sockets.log in
    let loop = c.loop-event in
    let looked = c.look_at.new.slots in
    let after_look = log c.look_at.new.system in
    let room = length c.args.room.now in
    let about = event_subject c.in-Some.event.now in
    let about_is = c.subject_of.ensures ∙ ap (λ token. subject_of token.0) c.token.ensures in
    let by_room = subst (λ n. LooksAtSubject n c.args.now c.subject_of.result loop.slots looked (log
    loop.system) after_look) loop.auto.room c.look_at.ensures.looks in
    let looks = subst (λ s. LooksAtSubject room c.args.now s loop.slots looked (log loop.system)
    after_look) about_is by_room in (
      drains_trans c.args.slots.now loop.slots looked (log c.args.system.now) (log loop.system)
          after_look loop.invariant.0 c.look_at.ensures.drains,
      λ new after it. loop.invariant.1 new after (looks_next room c.args.now about (map
          event_subject (iter_rest loop.event-iterator)) (map event_subject (iter_rest
          c.next.new.self)) loop.slots looked new (log loop.system) after_look after (ap (map
          event_subject) c.in-Some.ensures.steps) looks it),
    )

pub returns-clause-looks : goal.returns-clause-looks
returns-clause-looks g c =
    let log = g.S.Sockets.log in
    c.loop-event.invariant.1 c.loop-event.slots (log c.loop-event.system) (looks_last (length
    c.args.room.now) c.args.now (iter_rest c.loop-event.event-iterator) c.loop-event.slots (log
    c.loop-event.system) c.in-None.ensures.steps.0)
