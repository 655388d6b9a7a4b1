-- Every step of a server keeps the bound on what its connections hold.
use Rattle.std.proofs.Common.{◌≡◌, ◌∙◌, ◌≤◌, ℕ, List, [], ◌∷◌, Option, Some, None, inl, inr, sym}
use Rattle.std.proofs.Common.{ap, subst, arith, slice_get, slice_set}
use Rattle.http_requests.specs.HandlerRuns.{HandlerRelation, FaultReplies}
use Rattle.http_hub.specs.BoundedHubs.{ReceivesWithin}
use Rattle.http_hub.specs.Holdings.{AreWithin, large_at}
use Rattle.http_hub.specs.Hubs.{HubValue, IsAt, with_link}
use Rattle.http_hub.specs.Links.{LinkValue, link_after_failure, link_after_refusal, link_after_sent}
use Rattle.http_hub.specs.Links.{new_link}
use Rattle.http_hub.proofs.HoldingLemmas.{failed_holds_less, fitting_within, refused_holds_none}
use Rattle.http_hub.proofs.HoldingLemmas.{sent_holds_less, total_none, within_set}
use Rattle.http_hub.proofs.HubLemmas.{refused_piece}
use Rattle.http_hub.proofs.PlaceLemmas.{set_same}
use Rattle.hub_server.specs.ServerActs.{DoesAct, ServerAct}
use Rattle.hub_server.specs.ServerActs.ServerAct.{Awaits, AcceptsAt, FindsNoConnection}
use Rattle.hub_server.specs.ServerActs.ServerAct.{DefersAccepting, ReadsFrom, FindsNoInput}
use Rattle.hub_server.specs.ServerActs.ServerAct.{WritesTo, FindsNoOutput, ClosesAt}
use Rattle.hub_server.specs.ServerLaws.{ServersHoldWithin}
use Rattle.hub_server.specs.ServerRuns.{DoesServerStep, ServerRuns, ServerStep}
use Rattle.hub_server.specs.ServerRuns.ServerStep.{Acts, Feeds}
use Rattle.hub_server.specs.Servers.{ServerValue, new_server}
use Rattle.hub_server.specs.declared.limits.ServeLimits.{ServeLimits}

-- the same hub
as_before : (most : ℕ) (a b : ServerValue) → b.hub ≡ a.hub → AreWithin most a.hub.slots
    → AreWithin most b.hub.slots
as_before most a b same within = subst (λ (h : HubValue). AreWithin most h.slots) (sym same) within

-- a connection that holds no more than before
with_less : (most : ℕ) (hub after : HubValue) (place : ℕ) (link next : LinkValue)
    → IsAt hub place link → after ≡ with_link hub place next
    → large_at (Some next) ≤ large_at (Some link) → AreWithin most hub.slots
    → AreWithin most after.slots
with_less most hub after place link next found is less within =
    subst (λ (h : HubValue). AreWithin most h.slots) (sym is) (within_set most hub.slots place
    (Some link) (Some next) found less within)

act_within : (limits : ServeLimits) (most : ℕ) (act : ServerAct) (a b : ServerValue)
    → DoesAct limits a act b → AreWithin most a.hub.slots → AreWithin most b.hub.slots
act_within limits most (Awaits until ready listener time) a b done within =
    as_before most a b (ap (λ (s : ServerValue). s.hub) done.2) within
act_within limits most (AcceptsAt place serial) a b done within =
    let opened : LinkValue = new_link a.hub.opened a.time in
    let slots : List (Option LinkValue) = slice_set a.hub.slots place (Some opened) in
    let slots_are : b.hub.slots ≡ slots = ap (λ (s : ServerValue). s.hub.slots) done.after_is
    ∙ ap (λ (h : HubValue). h.slots) done.opens.after_is in
    subst (λ (xs : List (Option LinkValue)). AreWithin most xs) (sym slots_are)
    (within_set most a.hub.slots place None (Some opened) done.opens.was_free (omega arith)
    within)
act_within limits most (FindsNoConnection place) a b done within =
    as_before most a b (ap (λ (s : ServerValue). s.hub) done.1) within
act_within limits most (DefersAccepting place) a b done within =
    as_before most a b (ap (λ (s : ServerValue). s.hub) done.1) within
act_within limits most (ReadsFrom place serial octets) a b done within =
    as_before most a b (ap (λ (s : ServerValue). s.hub) done.after_is) within
act_within limits most (FindsNoInput place serial) a b done within =
    as_before most a b (ap (λ (s : ServerValue). s.hub) done.after_is) within
act_within limits most (WritesTo place serial offered count) a b done within =
    let sends = done.sends in
    let hub_is : b.hub ≡ with_link a.hub place (link_after_sent sends.link count a.time) =
    ap (λ (s : ServerValue). s.hub) done.after_is ∙ sends.after_is in
    with_less most a.hub b.hub place sends.link (link_after_sent sends.link count a.time)
    sends.found hub_is (sent_holds_less sends.link count a.time) within
act_within limits most (FindsNoOutput place serial offered) a b done within =
    as_before most a b (ap (λ (s : ServerValue). s.hub) done.after_is) within
act_within limits most (ClosesAt place serial cause) a b done within =
    let slots_are : b.hub.slots ≡ slice_set a.hub.slots place None =
    ap (λ (s : ServerValue). s.hub.slots) done.after_is
    ∙ ap (λ (h : HubValue). h.slots) done.ends.after_is in
    subst (λ (xs : List (Option LinkValue)). AreWithin most xs) (sym slots_are)
    (within_set most a.hub.slots place (Some done.ends.link) None done.ends.found (omega arith)
    within)

module _ {S : Type 0} (does : HandlerRelation S) (fault_reply : FaultReplies) where
  piece_within : (most place : ℕ) (before : HubValue) (w : S) (piece : List ℕ) (now : ℕ) (v : S)
      (after : HubValue) → ReceivesWithin does fault_reply most place before w piece now v after
      → AreWithin most before.slots → AreWithin most after.slots
  piece_within most place before w piece now v after (inl fits) within =
      let r = fits.received in
      let slots_are : after.slots ≡ slice_set before.slots place (Some r.next) =
      ap (λ (h : HubValue). h.slots) r.after_is in
      let at : slice_get after.slots place ≡ Some (Some r.next) =
      ap (λ (xs : List (Option LinkValue)). slice_get xs place) slots_are
      ∙ set_same before.slots place (Some r.next) (Some r.link) r.found in
      let same : fits.link ≡ r.next = cc (fits.at, at) in
      fitting_within most after.slots before.slots place (Some r.link) fits.link r.found (slots_are
      ∙ ap (λ (l : LinkValue). slice_set before.slots place (Some l)) (sym same)) fits.at fits.fits
      within
  piece_within most place before w piece now v after (inr (inl failed)) within =
      with_less most before after place failed.link (link_after_failure failed.link)
      failed.found failed.after_is (failed_holds_less failed.link) within
  piece_within most place before w piece now v after (inr (inr large)) within =
      let r = large.refused.received in
      let none = refused_holds_none r.link large.reply now large.small in
      with_less most before after place r.link (link_after_refusal r.link large.reply now) r.found
      (refused_piece does fault_reply place before w piece large.reply now v after large.refused)
      (omega (arith, none)) within

  step_within : (limits : ServeLimits) (step : ServerStep) (a b : ServerValue) (w v : S)
      → DoesServerStep does fault_reply limits a w step v b → AreWithin limits.held a.hub.slots
      → AreWithin limits.held b.hub.slots
  step_within limits (Acts act) a b w v done within =
      act_within limits limits.held act a b done.1 within
  step_within limits (Feeds place serial piece) a b w v done within =
      let hub_is : b.hub ≡ done.hub = ap (λ (s : ServerValue). s.hub) done.after_is in
      subst (λ (h : HubValue). AreWithin limits.held h.slots) (sym hub_is)
      (piece_within limits.held place a.hub w piece a.time v done.hub done.fed within)

  run_within : (limits : ServeLimits) (steps : List ServerStep) (a b : ServerValue) (w v : S)
      → ServerRuns does fault_reply limits a w steps v b → AreWithin limits.held a.hub.slots
      → AreWithin limits.held b.hub.slots
  unfolding ServerRuns
  run_within limits [] a b w v runs within =
      as_before limits.held a b (ap (λ (s : ServerValue). s.hub) (sym runs.0)) within
  run_within limits (step ∷ steps) a b w v (between, middle, done, runs) within =
      run_within limits steps between b middle v runs (step_within limits step a between w middle
      done within)

  pub servers_hold_within : ServersHoldWithin does fault_reply
  servers_hold_within limits old new steps after runs =
      let none = total_none limits.together in
      run_within limits steps (new_server limits.together) after old new runs
      (inl (omega (arith, none)))
