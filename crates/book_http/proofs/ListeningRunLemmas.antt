-- Connections in turn are one run of the service.
use Rattle.std.proofs.Common.{◌≡◌, ◌∙◌, ℕ, Bool, false, List, [], ◌∷◌, ◌++◌, Option, Some, None}
use Rattle.std.proofs.Common.{refl}
use Rattle.std.proofs.Common.{sym, subst, inl, inr, ◌⊎◌}
use Rattle.std.proofs.lemmas.List.{append-nil}
use Rattle.std.specs.Io.KnownBytes.{Appends, Consumes}
use Rattle.book_http.specs.declared.serve_fault.ServeFault.{ServeFault}
use Rattle.book_http.specs.OctetPromise.{ServiceStep, StartsAt}
use Rattle.http_requests.proofs.PartLemmas.{part_of_fed}
use Rattle.book_http.proofs.ConnectionLemmas.{handles_read}
use Rattle.book_http.proofs.OctetRunLemmas.{all_limits, all_premise, requests_run}
use Rattle.book_http.specs.Listening.{ServesConnection, ServesInTurn, ServedConnection}
use Rattle.book_http.specs.ListeningRuns.{ConnectionsAreOneRun, RepliesToAll, RunsInTurn}
use Rattle.book_http.specs.ListeningRuns.{RunsOneConnection}
use Rattle.book_http.specs.ConnectionModels.{ConnectionModel}
use Rattle.book_service.specs.Runs.{TraceStep, MatchesRows, SystemState, Run, end_of}
use Rattle.book_service.proofs.StepLemmas.{runs_join}
use Rattle.http_replies.specs.Replies.{head_fault_octets}
use Rattle.http_requests.specs.HandlerRuns.{HandlesRequests}
use Rattle.http_requests.specs.Requests.{Request, StartsWithRequests}
use Rattle.http_requests.specs.SessionFeeding.{FeedsSession, HandlesSomePrefix}
use Rattle.sync_core.specs.StoreModels.{StoreModel}

module _ {S Connection : Type 0} (model : StoreModel S)
    (stream : ConnectionModel Connection) where
  -- ---- the premise

  part_premise : (octets : List ℕ) (old new : S)
      → HandlesSomePrefix (ServiceStep model) head_fault_octets octets old new → model.premise new
      → model.premise old
  part_premise octets old new part holds =
      all_premise model part.runs.requests old new part.replies part.runs.handles holds

  ended_premise : (end : Option ServeFault) (before connection_after : Connection) (old new : S)
      → ServesConnection (ServiceStep model) head_fault_octets stream end before connection_after
      old new
      → model.premise new → model.premise old
  ended_premise None before connection_after old new all holds =
      part_premise all.serves.octets old new (part_of_fed (ServiceStep model) head_fault_octets
      all.serves.octets all.serves.replies old new all.session all.serves.fed) holds
  ended_premise (Some fault) before connection_after old new broke holds =
      let h = handles_read (ServiceStep model) head_fault_octets fault (stream.remaining before)
      (stream.remaining connection_after) (stream.contents before)
      (stream.contents connection_after) old new broke in
      part_premise h.octets old new h.part holds

  turns_premise : (turns : List (ServedConnection Connection)) (old new : S)
      → ServesInTurn (ServiceStep model) head_fault_octets stream old turns new → model.premise new
      → model.premise old
  unfolding ServesInTurn
  turns_premise [] old new same holds = subst model.premise (sym same) holds
  turns_premise (turn ∷ turns) old new (middle, one, others) holds =
      ended_premise turn.end turn.connection one.connection_after old middle one.ended
      (turns_premise turns middle new others holds)

  -- ---- one connection

  -- the store is where its run ended
  at_end : (now end : SystemState) (old new : S)
      → MatchesRows now (model.limits old) (model.books old) → model.limits new ≡ model.limits old
      → MatchesRows end now.model.limits (model.books new)
      → MatchesRows end (model.limits new) (model.books new)
  at_end now end old new at same ended = record {
    limits_are = ended.limits_are ∙ at.limits_are
        ∙ sym same;
    histories = ended.histories;
  }

  -- what happened by a connection
  pub record TurnHappens (now : SystemState) (connection : Connection) (end : Option ServeFault)
      (new : S) : Type 0 where
    pub own : List TraceStep
    pub runs : Run now own
    pub turn : RunsOneConnection model stream connection end own
    pub at : MatchesRows (end_of now own) (model.limits new) (model.books new)
    pub devices_are : (end_of now own).devices ≡ now.devices

  -- some requests of the octets read were handled, from the first on
  requests_happen : (now : SystemState) (before connection_after : Connection) (end : Option
      ServeFault) (old new : S) (octets replies : List ℕ) (requests : List Request) (ended : Bool)
      (rest : List ℕ) → StartsAt model now old new
      → HandlesRequests (ServiceStep model) head_fault_octets old requests replies new
      → Consumes (stream.remaining before) (stream.remaining connection_after) octets
      → StartsWithRequests octets requests ended rest
      → (end ≡ None → RepliesToAll model stream (stream.contents before)
      (stream.contents connection_after) octets requests replies ended rest)
      → TurnHappens now before end new
  requests_happen now before connection_after end old new octets replies requests ended rest starts
      handles read first all_replied =
      let ran = requests_run model now old new requests replies starts handles in
      record {
        own = ran.run;
        runs = ran.runs;
        turn = record {
          connection_after = connection_after;
          octets = octets;
          read = read;
          requests = requests;
          replies = replies;
          ended = ended;
          rest = rest;
          first = first;
          are_replies = ran.are_replies;
          all_replied = all_replied;
        };
        at = at_end now (end_of now ran.run) old new starts.at (all_limits model requests old new
            replies handles) ran.at;
        devices_are = ran.devices_are;
      }

  -- it was served to its end
  fed_happens : (session : Option (List ℕ)) (now : SystemState) (before connection_after :
      Connection) (old new : S) (octets replies : List ℕ) → StartsAt model now old new
      → Consumes (stream.remaining before) (stream.remaining connection_after) octets
      → FeedsSession (ServiceStep model) head_fault_octets octets old replies new session
      → Appends (stream.contents before) (stream.contents connection_after) replies
      → TurnHappens now before None new
  fed_happens (Some rest) now before connection_after old new octets replies starts read fed sent =
      let a = fed.0 in
      requests_happen now before connection_after None old new octets replies a.requests false rest
      starts a.handles read a.requests_are.0 (λ _. record {
        requests_are = a.requests_are;
        last = [];
        sent = subst (Appends (stream.contents before) (stream.contents connection_after))
            (sym (append-nil replies)) sent;
        last_is = inl refl;
      })
  fed_happens None now before connection_after old new octets replies starts read (inr stop) sent =
      absurd (cc stop.screened_for)
  fed_happens None now before connection_after old new octets replies starts read (inl stop) sent =
      let a = stop.answered in
      requests_happen now before connection_after None old new octets stop.answers a.requests
      stop.ended stop.rest starts a.handles read a.requests_are.0 (λ _. record {
        requests_are = a.requests_are;
        last = stop.last;
        sent = subst (Appends (stream.contents before) (stream.contents connection_after))
            stop.replies_are sent;
        last_is = last_of stop.why;
      })
    where
      last_of : {A B C D : Type 0} → (A × B) ⊎ (C × D) → B ⊎ D
      last_of (inl why) = inl why.1
      last_of (inr why) = inr why.1

  end_happens : (end : Option ServeFault) (now : SystemState) (before connection_after : Connection)
      (old new : S) → StartsAt model now old new
      → ServesConnection (ServiceStep model) head_fault_octets stream end before connection_after
      old new → TurnHappens now before end new
  end_happens None now before connection_after old new starts all =
      let s = all.serves in
      fed_happens all.session now before connection_after old new s.octets s.replies starts s.read
      s.fed s.sent
  end_happens (Some fault) now before connection_after old new starts broke =
      let h = handles_read (ServiceStep model) head_fault_octets fault (stream.remaining before)
      (stream.remaining connection_after) (stream.contents before)
      (stream.contents connection_after) old new broke in
      let p = h.part in
      requests_happen now before connection_after (Some fault) old new h.octets p.replies
      p.runs.requests p.ended p.rest starts p.runs.handles h.read p.runs.leads
      (λ (none : Some fault ≡ None). absurd (let no : Some fault ≡ None = none in cc))

  -- ---- connections in turn

  pub connections_are_one_run : ConnectionsAreOneRun model stream
  unfolding ServesInTurn RunsInTurn
  connections_are_one_run now old new [] starts same = record {
    run = [];
    runs = tt;
    in_turn = (
      refl,
      record {
        limits_are = refl;
        histories = (subst (λ (s : S). MatchesRows now (model.limits s) (model.books s)) same
            (record {
              limits_are = starts.at.limits_are;
              histories = starts.at.histories;
            })).histories;
      },
    );
  }
  connections_are_one_run now old new (turn ∷ turns) starts (middle, one, others) =
      let held = turns_premise turns middle new others starts.premise_holds in
      let h = end_happens turn.end now turn.connection one.connection_after old middle
      (record { at = starts.at; premise_holds = held }) one.ended in
      let more = connections_are_one_run (end_of now h.own) middle new turns (record {
        at = h.at;
        premise_holds = starts.premise_holds;
      }) others in
      record {
        run = h.own ++ more.run;
        runs = runs_join now h.own more.run h.runs more.runs;
        in_turn = (h.own, more.run, refl, h.turn, h.devices_are, more.in_turn);
      }
