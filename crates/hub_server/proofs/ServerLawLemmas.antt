-- Every run of a server is a run of its hub. Given here: an induction over the steps of the server
-- (`law_from`), with a case for each act. Its invariant `AreUnfed` says which octets of each
-- connection were read and not fed yet; after a change of a place it is shown for that place and
-- for any other one.
use Rattle.std.proofs.Common.{◌≡◌, ◌∙◌, ◌==◌, ℕ, Bool, true, false, List, []}
use Rattle.std.proofs.Common.{◌∷◌, ◌++◌, Option, Some, None, refl, sym, ap, subst, inl, inr}
use Rattle.std.proofs.Common.{append_assoc, cond, drop, length, slice_get, take}
use Rattle.std.proofs.lemmas.Bool.{eqb-true}
use Rattle.std.proofs.lemmas.List.{append-nil, take-append-drop}
use Rattle.http_requests.specs.HandlerRuns.{HandlerRelation, FaultReplies}
use Rattle.http_hub.specs.FedPieces.{FedPiece, octets_in, pieces_of}
use Rattle.http_hub.specs.BoundedHubs.{ReceivesWithin}
use Rattle.http_hub.specs.HubRuns.{DoesStep, HubRuns, HubStep, RefusesPieceAt, pieces_in, sent_to}
use Rattle.http_hub.specs.HubRuns.HubStep.{Opens, Receives, Fails, Refuses, Sends, Ends}
use Rattle.http_hub.specs.Hubs.{EndsAt, FailsAt, HubValue, OpensAt, ReceivesAt, SendsAt}
use Rattle.http_hub.specs.Hubs.{with_link}
use Rattle.http_hub.specs.Links.{LinkValue, link_after_failure, link_after_refusal, link_after_sent}
use Rattle.http_hub.proofs.HubLemmas.{hubs_separate_connections, kept_by_piece, refused_piece}
use Rattle.hub_server.specs.Seats.{SeatValue, next_piece, seat_after_step, seat_asleep}
use Rattle.hub_server.specs.ServerActs.{AcceptsConnection, ClosesConnection, DoesAct, EndCause}
use Rattle.hub_server.specs.ServerActs.{ReadsOctets, ServerAct, WritesOctets}
use Rattle.hub_server.specs.ServerActs.ServerAct.{Awaits, AcceptsAt, FindsNoConnection}
use Rattle.hub_server.specs.ServerActs.ServerAct.{DefersAccepting, ReadsFrom, FindsNoInput}
use Rattle.hub_server.specs.ServerActs.ServerAct.{WritesTo, FindsNoOutput, ClosesAt}
use Rattle.hub_server.specs.ServerLaws.{ServerRunsAreHubRuns, input_of, octets_read_by}
use Rattle.hub_server.specs.ServerLaws.{octets_written_by, output_of}
use Rattle.hub_server.specs.ServerRuns.{ServerRuns, ServerStep}
use Rattle.hub_server.specs.ServerRuns.ServerStep.{Acts, Feeds}
use Rattle.hub_server.specs.Servers.{IsSeatedAt, ServerValue, new_server, with_seat}
use Rattle.hub_server.specs.declared.limits.ServeLimits.{ServeLimits}
use Rattle.hub_server.proofs.NeedLemmas.{same_link}
use Rattle.hub_server.proofs.SeatLemmas.{piece_front, wait_unfed}
use Rattle.hub_server.proofs.UnfedLemmas.{AreUnfed, with_held, unfed_changed, unfed_closed}
use Rattle.hub_server.proofs.UnfedLemmas.{unfed_opened, unfed_same, unfed_kept, unfed_with}
use Rattle.hub_server.proofs.UnfedLemmas.{with_kept, hub_found, sends_step, new_unfed}

-- ---- runs

module _ {S : Type 0} (does : HandlerRelation S) (fault_reply : FaultReplies) where
  -- these steps of the hub are the steps of the server
  pub record IsHubRun (a : ServerValue) (w : S) (held : ℕ → List ℕ) (steps : List ServerStep) (v :
      S) (b : ServerValue) : Type 0 where
    pub hub_steps : List HubStep
    pub runs : HubRuns does fault_reply a.hub w hub_steps v b.hub
    pub rest : ℕ → List ℕ
    pub fed : (connection : ℕ) → held connection ++ input_of connection steps
        ≡ octets_in (pieces_of connection (pieces_in hub_steps)) ++ rest connection
    pub written : (connection : ℕ) → output_of connection steps ≡ sent_to connection hub_steps

  pub run_none : (a b : ServerValue) (w v : S) (held : ℕ → List ℕ) → a ≡ b → w ≡ v
      → IsHubRun a w held [] v b
  unfolding HubRuns
  run_none a b w v held same also = record {
    hub_steps = [];
    runs = (ap (λ (x : ServerValue). x.hub) same, also);
    rest = held;
    fed = λ connection. append-nil (held connection);
    written = λ connection. refl;
  }

  -- an act that reads, writes and changes nothing of the hub
  quiet_on : (act : ServerAct) (a b c : ServerValue) (w v : S) (held : ℕ
      → List ℕ) (steps : List ServerStep) → a.hub ≡ b.hub
      → ((connection : ℕ) → octets_read_by connection act ≡ [])
      → ((connection : ℕ) → octets_written_by connection act ≡ [])
      → IsHubRun b w held steps v c → IsHubRun a w held (Acts act ∷ steps) v c
  quiet_on act a b c w v held steps same reads writes run = record {
    hub_steps = run.hub_steps;
    runs = subst (λ (h : HubValue). HubRuns does fault_reply h w run.hub_steps v c.hub) (sym same)
        run.runs;
    rest = run.rest;
    fed = λ connection. ap (λ t. held connection ++ (t ++ input_of connection steps))
        (reads connection) ∙ run.fed connection;
    written = λ connection. ap (λ t. t ++ output_of connection steps) (writes connection)
        ∙ run.written connection;
  }

  -- a step of the hub that feeds and sends nothing
  step_on : (step : HubStep) (act : ServerAct) (a b c : ServerValue) (w v : S) (held : ℕ
      → List ℕ) (steps : List ServerStep) → DoesStep does fault_reply a.hub w step w b.hub
      → ((more : List HubStep) → pieces_in (step ∷ more) ≡ pieces_in more)
      → ((connection : ℕ) (more : List HubStep) → sent_to connection (step ∷ more)
      ≡ octets_written_by connection act ++ sent_to connection more)
      → ((connection : ℕ) → octets_read_by connection act ≡ []) → IsHubRun b w held steps v c
      → IsHubRun a w held (Acts act ∷ steps) v c
  unfolding HubRuns
  step_on step act a b c w v held steps done feeds sends reads run = record {
    hub_steps = step ∷ run.hub_steps;
    runs = (b.hub, w, done, run.runs);
    rest = run.rest;
    fed = λ connection.
        ap (λ t. held connection ++ (t ++ input_of connection steps)) (reads connection)
        ∙ run.fed connection
        ∙ ap (λ (t : List FedPiece). octets_in (pieces_of connection t) ++ run.rest connection)
        (sym (feeds run.hub_steps));
    written = λ connection. ap (λ t. octets_written_by connection act ++ t) (run.written connection)
        ∙ sym (sends connection run.hub_steps);
  }

  -- octets were read
  read_by : (t : Bool) (held octets input : List ℕ) → (t ≡ true → held ≡ [])
      → held ++ (cond t octets [] ++ input) ≡ cond t octets held ++ input
  read_by true held octets input none = ap (λ x. x ++ (octets ++ input)) (none refl)
  read_by false held octets input none = refl

  reads_on : (place serial : ℕ) (octets : List ℕ) (a b c : ServerValue) (w v : S) (held : ℕ
      → List ℕ) (steps : List ServerStep) → a.hub ≡ b.hub → held serial ≡ []
      → IsHubRun b w (with_held held serial octets) steps v c
      → IsHubRun a w held (Acts (ReadsFrom place serial octets) ∷ steps) v c
  reads_on place serial octets a b c w v held steps same none run = record {
    hub_steps = run.hub_steps;
    runs = subst (λ (h : HubValue). HubRuns does fault_reply h w run.hub_steps v c.hub) (sym same)
        run.runs;
    rest = run.rest;
    fed = λ connection.
        read_by (serial == connection) (held connection) octets (input_of connection steps)
        (λ e. ap held (sym (eqb-true serial connection e)) ∙ none) ∙ run.fed connection;
    written = λ connection. run.written connection;
  }

  -- a piece was fed
  fed_by : (t : Bool) (piece left held input : List ℕ) (replies : Option (List ℕ)) (pieces :
      List (List ℕ × Option (List ℕ))) (rest : List ℕ) → (t ≡ true → held ≡ piece ++ left)
      → cond t left held ++ input ≡ octets_in pieces ++ rest
      → held ++ input ≡ octets_in (cond t ((piece, replies) ∷ pieces) pieces) ++ rest
  fed_by true piece left held input replies pieces rest parts same =
      ap (λ x. x ++ input) (parts refl) ∙ append_assoc piece left input ∙ ap (λ x. piece ++ x) same
      ∙ sym (append_assoc piece (octets_in pieces) rest)
  fed_by false piece left held input replies pieces rest parts same = same

  module _ (place serial : ℕ) (piece left : List ℕ) (a b c : ServerValue) (w v x : S) (held : ℕ
      → List ℕ) (steps : List ServerStep) (parts : held serial ≡ piece ++ left)
      (run : IsHubRun b v (with_held held serial left) steps x c) where
    receives_on : (received : ReceivesAt does fault_reply place a.hub w piece a.time v b.hub)
        → received.link.serial ≡ serial → IsHubRun a w held (Feeds place serial piece ∷ steps) x c
    unfolding HubRuns
    receives_on received serial_is = record {
      hub_steps = Receives serial piece received.receives.replies a.time ∷ run.hub_steps;
      runs = (b.hub, v, (place, received, serial_is, refl), run.runs);
      rest = run.rest;
      fed = λ connection.
          fed_by (serial == connection) piece left (held connection) (input_of connection steps)
          (Some received.receives.replies) (pieces_of connection (pieces_in run.hub_steps))
          (run.rest connection)
          (λ e. ap held (sym (eqb-true serial connection e)) ∙ parts) (run.fed connection);
      written = λ connection. run.written connection;
    }

    fails_on : (failed : FailsAt does fault_reply place a.hub w piece v b.hub)
        → failed.link.serial ≡ serial → IsHubRun a w held (Feeds place serial piece ∷ steps) x c
    unfolding HubRuns
    fails_on failed serial_is = record {
      hub_steps = Fails serial piece ∷ run.hub_steps;
      runs = (b.hub, v, (place, failed, serial_is), run.runs);
      rest = run.rest;
      fed = λ connection.
          fed_by (serial == connection) piece left (held connection) (input_of connection steps)
          None (pieces_of connection (pieces_in run.hub_steps)) (run.rest connection)
          (λ e. ap held (sym (eqb-true serial connection e)) ∙ parts) (run.fed connection);
      written = λ connection. run.written connection;
    }

    refuses_on : (reply : List ℕ) (refused : RefusesPieceAt does fault_reply place a.hub w piece
        reply a.time v b.hub) → refused.received.link.serial ≡ serial
        → IsHubRun a w held (Feeds place serial piece ∷ steps) x c
    unfolding HubRuns
    refuses_on reply refused serial_is = record {
      hub_steps = Refuses serial piece reply a.time ∷ run.hub_steps;
      runs = (b.hub, v, (place, refused, serial_is), run.runs);
      rest = run.rest;
      fed = λ connection.
          fed_by (serial == connection) piece left (held connection) (input_of connection steps)
          None (pieces_of connection (pieces_in run.hub_steps)) (run.rest connection)
          (λ e. ap held (sym (eqb-true serial connection e)) ∙ parts) (run.fed connection);
      written = λ connection. run.written connection;
    }

  -- other octets that are the same
  held_as : (a c : ServerValue) (w v : S) (held other : ℕ → List ℕ) (steps : List ServerStep)
      → ((connection : ℕ) → other connection ≡ held connection) → IsHubRun a w other steps v c
      → IsHubRun a w held steps v c
  held_as a c w v held other steps same run = record {
    hub_steps = run.hub_steps;
    runs = run.runs;
    rest = run.rest;
    fed = λ connection. ap (λ t. t ++ input_of connection steps) (sym (same connection))
        ∙ run.fed connection;
    written = run.written;
  }

  sent_by : (t : Bool) (octets more : List ℕ) → cond t (octets ++ more) more ≡ cond t octets []
      ++ more
  sent_by true octets more = refl
  sent_by false octets more = refl

  -- ---- one act

  -- what a run from the next state on is
  abbrev Continues : ServerValue → S → List ServerStep → S → ServerValue → Type 0
  Continues b w steps v c = (held : ℕ → List ℕ) → AreUnfed b held → IsHubRun b w held steps v c

  -- the octets of a connection that were not fed
  unfed_of : (a : ServerValue) (held : ℕ → List ℕ) → AreUnfed a held
      → (place serial : ℕ) (link : LinkValue) (seat : SeatValue) → IsSeatedAt a place link seat
      → link.serial ≡ serial → held serial ≡ seat.unfed
  unfed_of a held unfed place serial link seat seated serial_is = ap held (sym serial_is)
      ∙ unfed.there place link seat seated

  on_reads : (place serial : ℕ) (octets : List ℕ) (a b c : ServerValue) (w v : S) (held : ℕ
      → List ℕ) (steps : List ServerStep) → AreUnfed a held → ReadsOctets a place serial octets b
      → Continues b w steps v c
      → IsHubRun a w held (Acts (ReadsFrom place serial octets) ∷ steps) v c
  on_reads place serial octets a b c w v held steps unfed done more =
      let hub_is : a.hub ≡ with_link a.hub place done.needs.link =
      hub_found a.hub place done.needs.link done.needs.seated.at_link in
      let next : AreUnfed b (with_held held done.needs.link.serial octets) =
      unfed_changed a b held unfed place done.needs.link done.needs.link done.needs.seat
      (seat_after_step done.needs.seat octets) done.needs.seated refl a.hub hub_is done.after_is in
      reads_on place serial octets a b c w v held steps
      (sym (ap (λ (x : ServerValue). x.hub) done.after_is)) (unfed_of a held unfed place serial
      done.needs.link done.needs.seat done.needs.seated done.serial_is
      ∙ done.needs.wanted.none_unfed)
      (more (with_held held serial octets) (subst (λ n. AreUnfed b (with_held held n octets))
      done.serial_is next))

  on_writes : (place serial : ℕ) (offered : List ℕ) (count : ℕ) (a b c : ServerValue) (w v : S)
      (held : ℕ → List ℕ) (steps : List ServerStep) → AreUnfed a held
      → WritesOctets a place serial offered count b → Continues b w steps v c
      → IsHubRun a w held (Acts (WritesTo place serial offered count) ∷ steps) v c
  on_writes place serial offered count a b c w v held steps unfed done more =
      let same : done.sends.link ≡ done.needs.link =
      same_link a.hub place done.sends.link done.needs.link done.sends.found
      done.needs.seated.at_link in
      let hub_is : b.hub ≡ done.hub = ap (λ (x : ServerValue). x.hub) done.after_is in
      let offered_is : offered ≡ done.sends.link.pending = done.all_pending
      ∙ ap (λ (l : LinkValue). l.pending) (sym same) in
      let sends : SendsAt place a.hub count a.time b.hub =
      record {
        link = done.sends.link;
        found = done.sends.found;
        count_fits = done.sends.count_fits;
        after_is = hub_is ∙ done.sends.after_is;
      } in
      let moved = sends_step place serial count a.time offered a.hub b.hub sends
      (ap (λ (l : LinkValue). l.serial) same ∙ done.serial_is) offered_is in
      let next : AreUnfed b (with_held held done.needs.link.serial done.needs.seat.unfed) =
      unfed_changed a b held unfed place done.needs.link
      (link_after_sent done.sends.link count a.time) done.needs.seat
      (seat_after_step done.needs.seat done.needs.seat.unfed) done.needs.seated
      (ap (λ (l : LinkValue). l.serial) same) done.hub done.sends.after_is done.after_is in
      step_on (Sends serial (take count offered) a.time) (WritesTo place serial offered count) a b c
      w v held steps (refl, place, moved.0, moved.1, moved.2) (λ more_steps. refl)
      (λ connection more_steps. sent_by (serial == connection) (take count offered)
      (sent_to connection more_steps)) (λ connection. refl)
      (held_as b c w v held (with_held held done.needs.link.serial done.needs.seat.unfed) steps
      (with_kept held done.needs.link.serial done.needs.seat.unfed (unfed.there place
      done.needs.link done.needs.seat done.needs.seated))
      (more (with_held held done.needs.link.serial done.needs.seat.unfed) next))

  on_closes : (limits : ServeLimits) (place serial : ℕ) (cause : EndCause) (a b c : ServerValue)
      (w v : S) (held : ℕ → List ℕ) (steps : List ServerStep) → AreUnfed a held
      → ClosesConnection limits a place serial cause b → Continues b w steps v c
      → IsHubRun a w held (Acts (ClosesAt place serial cause) ∷ steps) v c
  on_closes limits place serial cause a b c w v held steps unfed done more =
      let same : done.ends.link ≡ done.link =
      same_link a.hub place done.ends.link done.link done.ends.found done.seated.at_link in
      let hub_is : b.hub ≡ done.hub = ap (λ (x : ServerValue). x.hub) done.after_is in
      let ends : EndsAt place a.hub b.hub = record {
        link = done.ends.link;
        found = done.ends.found;
        after_is = hub_is ∙ done.ends.after_is;
      } in
      step_on (Ends serial) (ClosesAt place serial cause) a b c w v held steps (
        refl,
        place,
        ends,
        ap (λ (l : LinkValue). l.serial) same ∙ done.serial_is,
      ) (λ more_steps. refl)
      (λ connection more_steps. refl) (λ connection. refl)
      (more held (unfed_closed a b held unfed place done.ends.link done.ends.found done.hub
      done.ends.after_is done.after_is))

  on_accepts : (limits : ServeLimits) (place serial : ℕ) (a b c : ServerValue) (w v : S) (held : ℕ
      → List ℕ) (steps : List ServerStep) → AreUnfed a held
      → AcceptsConnection limits a place serial b → Continues b w steps v c
      → IsHubRun a w held (Acts (AcceptsAt place serial) ∷ steps) v c
  on_accepts limits place serial a b c w v held steps unfed done more =
      let hub_is : b.hub ≡ done.hub = ap (λ (x : ServerValue). x.hub) done.after_is in
      let opens : OpensAt place a.hub a.time b.hub = record {
        was_free = done.opens.was_free;
        after_is = hub_is ∙ done.opens.after_is;
      } in
      step_on (Opens a.time) (AcceptsAt place serial) a b c w v held steps (
        refl,
        place,
        opens,
      ) (λ more_steps. refl) (λ connection more_steps. refl) (λ connection. refl)
      (more held (unfed_opened a b held unfed place done.hub done.opens
      (ap (λ (x : ServerValue). x.seats) done.after_is) hub_is))

  on_act : (limits : ServeLimits) (act : ServerAct) (a b c : ServerValue) (w v : S) (held : ℕ
      → List ℕ) (steps : List ServerStep) → AreUnfed a held → DoesAct limits a act b
      → Continues b w steps v c → IsHubRun a w held (Acts act ∷ steps) v c
  on_act limits (Awaits until ready listener time) a b c w v held steps unfed done more =
      let hub_is : b.hub ≡ a.hub = ap (λ (x : ServerValue). x.hub) done.2 in
      quiet_on (Awaits until ready listener time) a b c w v held steps (sym hub_is)
      (λ connection. refl) (λ connection. refl)
      (more held (unfed_same a b held unfed hub_is (λ place seat at. wait_unfed ready a.seats place
      seat (ap (λ (x : ServerValue). slice_get x.seats place) (sym done.2) ∙ at))))
  on_act limits (AcceptsAt place serial) a b c w v held steps unfed done more =
      on_accepts limits place serial a b c w v held steps unfed done more
  on_act limits (FindsNoConnection place) a b c w v held steps unfed done more =
      let hub_is : b.hub ≡ a.hub = ap (λ (x : ServerValue). x.hub) done.1 in
      quiet_on (FindsNoConnection place) a b c w v held steps (sym hub_is) (λ connection. refl)
      (λ connection. refl) (more held (unfed_with a b held unfed hub_is
      (ap (λ (x : ServerValue). x.seats) done.1)))
  on_act limits (DefersAccepting place) a b c w v held steps unfed done more =
      let hub_is : b.hub ≡ a.hub = ap (λ (x : ServerValue). x.hub) done.1 in
      quiet_on (DefersAccepting place) a b c w v held steps (sym hub_is) (λ connection. refl)
      (λ connection. refl) (more held (unfed_with a b held unfed hub_is
      (ap (λ (x : ServerValue). x.seats) done.1)))
  on_act limits (ReadsFrom place serial octets) a b c w v held steps unfed done more =
      on_reads place serial octets a b c w v held steps unfed done more
  on_act limits (FindsNoInput place serial) a b c w v held steps unfed done more =
      let hub_is : b.hub ≡ a.hub = ap (λ (x : ServerValue). x.hub) done.after_is in
      quiet_on (FindsNoInput place serial) a b c w v held steps (sym hub_is) (λ connection. refl)
      (λ connection. refl)
      (more held (unfed_kept a b held unfed place done.needs.seat (seat_asleep done.needs.seat)
      done.needs.seated.at_seat refl done.after_is))
  on_act limits (WritesTo place serial offered count) a b c w v held steps unfed done more =
      on_writes place serial offered count a b c w v held steps unfed done more
  on_act limits (FindsNoOutput place serial offered) a b c w v held steps unfed done more =
      let hub_is : b.hub ≡ a.hub = ap (λ (x : ServerValue). x.hub) done.after_is in
      quiet_on (FindsNoOutput place serial offered) a b c w v held steps (sym hub_is)
      (λ connection. refl) (λ connection. refl)
      (more held (unfed_kept a b held unfed place done.needs.seat (seat_asleep done.needs.seat)
      done.needs.seated.at_seat refl done.after_is))
  on_act limits (ClosesAt place serial cause) a b c w v held steps unfed done more =
      on_closes limits place serial cause a b c w v held steps unfed done more

  -- ---- a piece

  parts_of : (a : ServerValue) (held : ℕ → List ℕ) → AreUnfed a held
      → (place serial : ℕ) (piece : List ℕ) (link : LinkValue) (seat : SeatValue)
      → IsSeatedAt a place link seat → link.serial ≡ serial → piece ≡ next_piece seat.unfed
      → held serial ≡ piece ++ drop (length piece) seat.unfed
  parts_of a held unfed place serial piece link seat seated serial_is piece_is =
      let front : take (length piece) seat.unfed ≡ piece =
      ap (λ (t : List ℕ). take (length t) seat.unfed) piece_is ∙ piece_front seat.unfed
      ∙ sym piece_is in
      unfed_of a held unfed place serial link seat seated serial_is
      ∙ sym (take-append-drop (length piece) seat.unfed)
      ∙ ap (λ (t : List ℕ). t ++ drop (length piece) seat.unfed) front

  module _ (place serial : ℕ) (piece : List ℕ) (a b c : ServerValue) (w v x : S) (held : ℕ
      → List ℕ) (steps : List ServerStep) (unfed : AreUnfed a held) (link : LinkValue) (seat :
      SeatValue)
      (seated : IsSeatedAt a place link seat) (serial_is : link.serial ≡ serial) (piece_is :
      piece ≡ next_piece seat.unfed) (hub : HubValue)
      (is : b ≡ with_seat a place hub (seat_after_step seat (drop (length piece) seat.unfed)))
      (more : Continues b v steps x c) where
    continues : (after : LinkValue) → after.serial ≡ link.serial → hub ≡ with_link a.hub place after
        → IsHubRun b v (with_held held serial (drop (length piece) seat.unfed)) steps x c
    continues after kept hub_is =
        let next : AreUnfed b (with_held held link.serial (drop (length piece) seat.unfed)) =
        unfed_changed a b held unfed place link after seat
        (seat_after_step seat (drop (length piece) seat.unfed)) seated kept hub hub_is is in
        more (with_held held serial (drop (length piece) seat.unfed))
        (subst (λ n. AreUnfed b (with_held held n (drop (length piece) seat.unfed))) serial_is
        next)

    on_received : ReceivesAt does fault_reply place a.hub w piece a.time v hub
        → IsHubRun a w held (Feeds place serial piece ∷ steps) x c
    on_received received =
        let same : received.link ≡ link = same_link a.hub place received.link link received.found
        seated.at_link in
        let serials : received.link.serial ≡ link.serial = ap (λ (l : LinkValue). l.serial) same in
        let hub_is : b.hub ≡ hub = ap (λ (y : ServerValue). y.hub) is in
        let there : ReceivesAt does fault_reply place a.hub w piece a.time v b.hub =
        record {
          link = received.link;
          next = received.next;
          found = received.found;
          receives = received.receives;
          after_is = hub_is ∙ received.after_is;
        } in
        receives_on place serial piece (drop (length piece) seat.unfed) a b c w v x held steps
        (parts_of a held unfed place serial piece link seat seated serial_is piece_is)
        (continues received.next (kept_by_piece does fault_reply received.link w piece a.time v
        received.next received.receives ∙ serials) received.after_is) there (serials ∙ serial_is)

    on_failed : FailsAt does fault_reply place a.hub w piece v hub
        → IsHubRun a w held (Feeds place serial piece ∷ steps) x c
    on_failed failed =
        let same : failed.link ≡ link = same_link a.hub place failed.link link failed.found
        seated.at_link in
        let serials : failed.link.serial ≡ link.serial = ap (λ (l : LinkValue). l.serial) same in
        let hub_is : b.hub ≡ hub = ap (λ (y : ServerValue). y.hub) is in
        let there : FailsAt does fault_reply place a.hub w piece v b.hub =
        record {
          link = failed.link;
          found = failed.found;
          feeds_in_part = failed.feeds_in_part;
          after_is = hub_is ∙ failed.after_is;
        } in
        fails_on place serial piece (drop (length piece) seat.unfed) a b c w v x held steps
        (parts_of a held unfed place serial piece link seat seated serial_is piece_is)
        (continues (link_after_failure failed.link) serials failed.after_is) there
        (serials ∙ serial_is)

    on_refused : (reply : List ℕ) → RefusesPieceAt does fault_reply place a.hub w piece reply a.time
        v hub → IsHubRun a w held (Feeds place serial piece ∷ steps) x c
    on_refused reply refused =
        let received = refused.received in
        let same : received.link ≡ link = same_link a.hub place received.link link received.found
        seated.at_link in
        let serials : received.link.serial ≡ link.serial = ap (λ (l : LinkValue). l.serial) same in
        let hub_is : b.hub ≡ hub = ap (λ (y : ServerValue). y.hub) is in
        let there : RefusesPieceAt does fault_reply place a.hub w piece reply a.time v b.hub =
        record {
          full = refused.full;
          received = received;
          reply_is = refused.reply_is;
          refused = record {
            link = refused.refused.link;
            found = refused.refused.found;
            after_is = hub_is ∙ refused.refused.after_is;
          };
        } in
        refuses_on place serial piece (drop (length piece) seat.unfed) a b c w v x held steps
        (parts_of a held unfed place serial piece link seat seated serial_is piece_is)
        (continues (link_after_refusal received.link reply a.time) serials
        (refused_piece does fault_reply place a.hub w piece reply a.time v hub refused)) reply there
        (serials ∙ serial_is)

    on_fed : (most : ℕ) → ReceivesWithin does fault_reply most place a.hub w piece a.time v hub
        → IsHubRun a w held (Feeds place serial piece ∷ steps) x c
    on_fed most (inl fits) = on_received fits.received
    on_fed most (inr (inl failed)) = on_failed failed
    on_fed most (inr (inr large)) = on_refused large.reply large.refused

  -- ---- all steps

  law_from : (limits : ServeLimits) (steps : List ServerStep) (a c : ServerValue) (w x : S) (held :
      ℕ → List ℕ) → AreUnfed a held → ServerRuns does fault_reply limits a w steps x c
      → IsHubRun a w held steps x c
  unfolding ServerRuns
  law_from limits [] a c w x held unfed runs = run_none a c w x held runs.0 runs.1
  law_from limits (Acts act ∷ steps) a c w x held unfed (b, v, (same, done), runs) =
      let here : ServerRuns does fault_reply limits b w steps x c =
      subst (λ (z : S). ServerRuns does fault_reply limits b z steps x c) (sym same) runs in
      on_act limits act a b c w x held steps unfed done (λ held_now unfed_now. law_from limits steps
      b c w x held_now unfed_now here)
  law_from limits (Feeds place serial piece ∷ steps) a c w x held unfed (b, v, done, runs) =
      on_fed place serial piece a b c w v x held steps unfed done.needs.link done.needs.seat
      done.needs.seated done.serial_is done.piece_is done.hub done.after_is
      (λ held_now unfed_now. law_from limits steps b c v x held_now unfed_now runs) limits.held
      done.fed

  pub server_runs_are_hub_runs : ServerRunsAreHubRuns does fault_reply
  server_runs_are_hub_runs keeps limits old new steps after runs =
      let run = law_from limits steps (new_server limits.together) after old new (λ serial. [])
      (new_unfed limits.together) runs in
      record {
        hub_steps = run.hub_steps;
        runs = run.runs;
        rest = run.rest;
        fed = run.fed;
        written = run.written;
        separate = hubs_separate_connections does fault_reply keeps limits.together old new
            run.hub_steps after.hub run.runs;
      }
