use Rattle.hub_server.specs.Servers.{ServerValue}
use Rattle.hub_server.proofs.AwaitingLemmas.{asleep_there, none_left, none_left_more, none_there}
use Rattle.hub_server.proofs.KeepingLemmas.{seated_more}
use Rattle.hub_server.proofs.server.Server.is_left.Goals as goal
use Rattle.hub_server.proofs.server.Server.is_left.Goals.{else-is_open-via-then-is_open+else-is_awake}
use Rattle.hub_server.proofs.server.Server.is_left.Goals.{else-is_open-via-else-is_open}

pub loop-place-preserved : goal.loop-place-preserved
loop-place-preserved c =
    let seen : ServerValue = record {
      hub = c.self.inside.hub;
      seats = c.self.inside.seats.items;
      listener = c.self.inside.listener;
      time = c.self.inside.time;
    } in
    none_left_more c.args.self.now c.loop-place.place c.loop-place.invariant
    (λ link seat seated awake.
    elim c.else-is_open.branch [
      | else-is_open-via-then-is_open+else-is_awake w ↦
          asleep_there seen c.args.self.now c.loop-place.place link seat w.index.result.now
          w.is_awake.result c.self.view_is seated w.index.ensures w.is_awake.ensures
          w.if-is_awake.false awake
      | else-is_open-via-else-is_open w ↦
          none_there seen c.args.self.now c.loop-place.place link seat c.is_open.result
          c.self.view_is seated c.is_open.ensures w.if-is_open.false
    ])

pub returns : goal.returns
returns c =
    none_left c.args.self.now c.loop-place.place (seated_more c.args.self.now
    c.places_end-place-end.result c.loop-place.place c.places_end-place-end.ensures.below
    c.loop-place-test.false) c.loop-place.invariant
