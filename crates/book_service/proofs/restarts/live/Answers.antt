use Rattle.std.proofs.Common.{ℕ, ◌+◌, All, List, [], ◌∷◌, length, map, refl, sym, ap, subst, ◌∙◌}
use Rattle.std.proofs.Common.{arith}
use Rattle.std.proofs.lemmas.List.{length-append, take_all}
use Rattle.book_commands.specs.declared.reply.Reply.{Reply}
use Rattle.book_service.specs.declared.event.Event.{Event}
use Rattle.book_model.specs.Devices.{DeviceState}
use Rattle.book_service.specs.Crashes.{LeavesRun}
use Rattle.book_service.specs.Runs.{NamesDeviceBelow}
use Rattle.book_service.proofs.LivedLemmas.{LivesSoFar, life_begun, lives_further_in, lives_on}
use Rattle.book_service.proofs.LivedLemmas.{lives_until_in}
use Rattle.book_service.proofs.restarts.live.Goals as goal

pub loop-events-init : goal.loop-events-init
loop-events-init g c = record {
  limits = refl;
  many = ap length c.new-replied.ensures.items;
  count = refl;
  lives = λ premise settled now at device_at.
      subst (λ (rs : List (List Reply)). LivesSoFar g.S.BookStore.model c.args.store c.args.store
      now [] rs c.args.devices.now.items)
      (sym (ap (map (λ replies. replies.items)) c.new-replied.ensures.items))
      (subst (λ (ds : List DeviceState). LivesSoFar g.S.BookStore.model c.args.store c.args.store
      now [] [] ds) device_at
      (life_begun g.S.BookStore.model c.args.store now premise settled at));
}

-- the devices are as many as they were, so each index of this run is below their number
pub drive-requires : goal.drive-requires
drive-requires g c =
    subst (λ (n : ℕ). All (NamesDeviceBelow n) c.as_slice.result.now)
    (sym c.loop-events.invariant.count)
    (subst (λ (es : List Event). All (NamesDeviceBelow (length c.args.devices.now.items)) es)
    (ap (λ run. run.items) (sym c.events-item.is) ∙ sym c.as_slice.ensures.value)
    (c.requires c.loop-events.events-index c.events-item.result c.loop-events-test.true))

pub loop-events-preserved : goal.loop-events-preserved
loop-events-preserved g c = record {
  limits = c.in-Ok.ensures.restarts.limits ∙ c.drive.ensures.limits
      ∙ c.loop-events.invariant.limits;
  many = ap length c.in_ok-push.ensures.items
      ∙ length-append c.loop-events.replied.items (c.in_ok-replies.replies ∷ [])
      ∙ ap (λ n. n + 1) c.loop-events.invariant.many;
  count = c.drive.ensures.count ∙ c.loop-events.invariant.count;
  lives = λ premise settled now at device_at.
      let ran =
      subst (λ (es : List Event). LeavesRun g.S.BookStore.model c.loop-events.store
      c.drive.new.store es c.in_ok-replies.replies.items c.loop-events.devices.items
      c.drive.new.devices.items) c.as_slice.ensures.value c.in_ok-replies.ensures.crash in
      lives_further_in g.S.BookStore.model (λ run. run.items) (λ replies. replies.items)
      c.args.store c.loop-events.store c.drive.new.store c.in-Ok.opened now
      c.args.runs.now c.loop-events.events-index c.events-item.result c.loop-events.replied.items
      c.push.new.self.items c.in_ok-replies.replies c.loop-events.devices.items
      c.drive.new.devices.items
      c.loop-events-test.true c.events-item.is c.in_ok-push.ensures.items at.limits_are
      c.drive.ensures.limits ran c.in-Ok.ensures.restarts
      (c.loop-events.invariant.lives premise settled now at device_at);
}

pub returns-clause-life : goal.returns-clause-life
returns-clause-life g c = λ premise settled now at device_at.
    lives_on g.S.BookStore.model c.args.store c.loop-events.store now
    (map (λ run. run.items) c.args.runs.now) (map (λ replies. replies.items)
    c.loop-events.replied.items) c.loop-events.devices.items
    (subst (λ (es : List (List Event)). LivesSoFar g.S.BookStore.model c.args.store
    c.loop-events.store now es (map (λ replies. replies.items) c.loop-events.replied.items)
    c.loop-events.devices.items)
    (ap (map (λ run. run.items)) (take_all c.loop-events.events-index c.args.runs.now
    (omega arith)))
    (c.loop-events.invariant.lives premise settled now at device_at))

-- the store that crashed is the one that the last run left
pub returns-in-Err-clause-refused : goal.returns-in-Err-clause-refused
returns-in-Err-clause-refused g c = record {
  last = c.drive.new.store;
  limits = c.drive.ensures.limits ∙ c.loop-events.invariant.limits;
  leads = λ premise settled now at device_at.
      let ran =
      subst (λ (es : List Event). LeavesRun g.S.BookStore.model c.loop-events.store
      c.drive.new.store es c.in_ok-replies.replies.items c.loop-events.devices.items
      c.drive.new.devices.items) c.as_slice.ensures.value c.in_ok-replies.ensures.crash in
      lives_until_in g.S.BookStore.model (λ run. run.items) (λ replies. replies.items)
      c.args.store c.loop-events.store c.drive.new.store now c.args.runs.now
      c.loop-events.events-index c.events-item.result c.loop-events.replied.items
      c.push.new.self.items c.in_ok-replies.replies c.loop-events.devices.items
      c.drive.new.devices.items
      c.loop-events-test.true c.events-item.is c.in_ok-push.ensures.items
      c.loop-events.invariant.many at.limits_are ran
      (c.loop-events.invariant.lives premise settled now at device_at);
  refused = c.in-Err.ensures.refused;
}
