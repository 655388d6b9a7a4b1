-- Requests that the service handles are a run of it.
use Rattle.std.proofs.Common.{◌≡◌, ◌∙◌, ℕ, Bool, false, List, [], ◌∷◌, ◌++◌, refl, sym, ap, subst}
use Rattle.std.proofs.Common.{Option, Some, None, Result, Ok, Err, inl, inr}
use Rattle.book_commands.specs.declared.command.Command.{Command}
use Rattle.book_service.specs.declared.event.Event.TheVariants.{Do}
use Rattle.book_service.specs.Runs.{SystemState, TraceStep, Run, end_of, MatchesRows}
use Rattle.book_service.proofs.StepLemmas.{end-append, run_limits, runs_join}
use Rattle.http_replies.specs.Replies.{head_fault_octets}
use Rattle.http_requests.specs.SessionFeeding.{HandlesAllRequests}
use Rattle.http_requests.specs.Fields.{fault_of_head}
use Rattle.http_requests.specs.ParsedHeads.{head_of}
use Rattle.http_requests.specs.HandlerRuns.{HandlesRequests, RepliesGivenFault}
use Rattle.http_requests.specs.Requests.{Request}
use Rattle.http_requests.specs.declared.head_fault.HeadFault.{HeadFault}
use Rattle.http_routes.specs.Commands.{requested_command}
use Rattle.http_routes.specs.declared.fault.RouteFault.{RouteFault}
use Rattle.book_http.specs.RequestAnswers.{AnswersCommand}
use Rattle.book_http.specs.OctetRuns.{RunsRequests, RunsAllRequests, AreReplies, IsReplyToCommand}
use Rattle.book_http.specs.OctetRuns.{IsReplyGivenFault, IsReplyToRequest}
use Rattle.book_http.specs.OctetPromise.{LostPiecesRun, RequestsRun, ServiceStep, SessionsRun}
use Rattle.book_http.specs.OctetPromise.{StartsAt}
use Rattle.sync_core.specs.StoreModels.{StoreModel}

module _ {S : Type 0} (model : StoreModel S) where
  -- ---- the premise

  asked_premise : (old new : S) (wanted : Result Command RouteFault) (close : Bool) (octets :
      List ℕ) → AnswersCommand model old wanted close octets new → model.premise new
      → model.premise old
  asked_premise old new (Ok command) close octets answers holds = answers.1.terms.premise holds
  asked_premise old new (Err found) close octets answers holds =
      subst model.premise (sym answers.1) holds

  found_premise : (old new : S) (request : Request) (found : Option HeadFault) (octets : List ℕ)
      → RepliesGivenFault (ServiceStep model) head_fault_octets old request octets new found
      → model.premise new → model.premise old
  found_premise old new request None octets replied holds =
      asked_premise old new (requested_command request.head.method request.head.target request.body)
      (head_of request.head).close octets replied.1 holds
  found_premise old new request (Some found) octets replied holds =
      subst model.premise (sym replied.1) holds

  pub all_premise : (requests : List Request) (old new : S) (octets : List ℕ)
      → HandlesRequests (ServiceStep model) head_fault_octets old requests octets new
      → model.premise new → model.premise old
  unfolding HandlesRequests
  all_premise [] old new octets handles holds = subst model.premise (sym handles.1) holds
  all_premise (request ∷ requests) old new octets handles holds =
      found_premise old handles.2 request (fault_of_head request.head) handles.0 handles.3
      (all_premise requests handles.2 new handles.1 handles.4 holds)

  -- ---- the limits

  asked_limits : (old new : S) (wanted : Result Command RouteFault) (close : Bool) (octets : List ℕ)
      → AnswersCommand model old wanted close octets new → model.limits new ≡ model.limits old
  asked_limits old new (Ok command) close octets answers = answers.1.terms.limits
  asked_limits old new (Err found) close octets answers = ap model.limits (sym answers.1)

  found_limits : (old new : S) (request : Request) (found : Option HeadFault) (octets : List ℕ)
      → RepliesGivenFault (ServiceStep model) head_fault_octets old request octets new found
      → model.limits new ≡ model.limits old
  found_limits old new request None octets replied =
      asked_limits old new (requested_command request.head.method request.head.target request.body)
      (head_of request.head).close octets replied.1
  found_limits old new request (Some found) octets replied = ap model.limits (sym replied.1)

  -- requests change no limits
  pub all_limits : (requests : List Request) (old new : S) (octets : List ℕ)
      → HandlesRequests (ServiceStep model) head_fault_octets old requests octets new
      → model.limits new ≡ model.limits old
  unfolding HandlesRequests
  all_limits [] old new octets handles = ap model.limits (sym handles.1)
  all_limits (request ∷ requests) old new octets handles =
      all_limits requests handles.2 new handles.1 handles.4
      ∙ found_limits old handles.2 request (fault_of_head request.head) handles.0 handles.3

  -- ---- one request

  -- what happened by a request that leads the store from one state to the next
  pub record Happens (now : SystemState) (are_replies : List TraceStep → Type 0) (new : S) :
      Type 0 where
    pub own : List TraceStep
    pub runs : Run now own
    pub replies_own : are_replies own
    pub at : MatchesRows (end_of now own) (model.limits new) (model.books new)
    pub devices_are : (end_of now own).devices ≡ now.devices

  nothing_happens : (now : SystemState) (are_replies : List TraceStep → Type 0) (old new : S)
      → are_replies [] → old ≡ new → MatchesRows now (model.limits old) (model.books old)
      → Happens now are_replies new
  nothing_happens now are_replies old new run_replies same at = record {
    own = [];
    runs = tt;
    replies_own = run_replies;
    at = subst (λ (s : S). MatchesRows now (model.limits s)
        (model.books s)) same at;
    devices_are = refl;
  }

  asked_happens : (now : SystemState) (old new : S) (wanted : Result Command RouteFault) (close :
      Bool) (octets : List ℕ) → AnswersCommand model old wanted close octets new
      → model.premise new → MatchesRows now (model.limits old) (model.books old)
      → Happens now (λ own. IsReplyToCommand wanted close own octets) new
  asked_happens now old new (Ok command) close octets answers holds at =
      let led = answers.1.step holds now at in
      let h : TraceStep = record { event = Do command; reply = answers.0; after = led.next } in
      record {
        own = h ∷ [];
        runs = (led.step, tt);
        replies_own = (h, refl, refl, answers.2);
        at = record {
          limits_are = led.at.limits_are ∙ at.limits_are ∙ sym answers.1.terms.limits;
          histories = led.at.histories;
        };
        devices_are = led.devices_are;
      }
  asked_happens now old new (Err found) close octets answers holds at =
      nothing_happens now (λ own. IsReplyToCommand (Err found) close own octets) old new (
        refl,
        answers.0,
      ) answers.1 at

  found_happens : (now : SystemState) (old new : S) (request : Request) (found : Option HeadFault)
      (octets : List ℕ)
      → RepliesGivenFault (ServiceStep model) head_fault_octets old request octets new found
      → model.premise new → MatchesRows now (model.limits old) (model.books old)
      → Happens now (λ own. IsReplyGivenFault found request own octets) new
  found_happens now old new request None octets replied holds at =
      asked_happens now old new (requested_command request.head.method request.head.target
      request.body) (head_of request.head).close octets replied.1 holds at
  found_happens now old new request (Some found) octets replied holds at =
      nothing_happens now (λ own. IsReplyGivenFault (Some found) request own octets) old new (
        refl,
        replied.0,
      ) replied.1 at

  -- ---- requests in turn

  runs_none : (now : SystemState) (old new : S) (octets : List ℕ) → octets ≡ [] → old ≡ new
      → MatchesRows now (model.limits old) (model.books old)
      → RunsRequests now [] octets (model.books new)
  unfolding AreReplies
  runs_none now old new octets none same at = record {
    run = [];
    runs = tt;
    are_replies = (refl, none);
    at =
        record {
          limits_are = refl;
          histories = (subst (λ (s : S). MatchesRows now (model.limits s) (model.books s)) same
              at).histories;
        };
    devices_are = refl;
  }

  runs_on : (now : SystemState) (middle new : S) (request : Request) (requests : List Request)
      (run_replies rest octets : List ℕ) (h :
      Happens now (λ own. IsReplyToRequest request own run_replies) middle)
      → RunsRequests (end_of now h.own) requests rest (model.books new)
      → octets ≡ run_replies ++ rest → RunsRequests now (request ∷ requests) octets
      (model.books new)
  unfolding AreReplies
  runs_on now middle new request requests run_replies rest octets h more is =
      let end : end_of now (h.own ++ more.run) ≡ end_of (end_of now h.own) more.run =
      end-append now h.own more.run in
      let same = run_limits now h.own h.runs in
      record {
        run = h.own ++ more.run;
        runs = runs_join now h.own more.run h.runs more.runs;
        are_replies = (
          h.own,
          more.run,
          run_replies,
          rest,
          h.replies_own,
          more.are_replies,
          refl,
          is,
        );
        at = subst (λ (m : SystemState). MatchesRows m now.model.limits (model.books new)) (sym end)
            (record { limits_are = more.at.limits_are ∙ same; histories = more.at.histories });
        devices_are = ap (λ (m : SystemState). m.devices) end ∙ more.devices_are ∙ h.devices_are;
      }

  handled_run : (requests : List Request) (now : SystemState) (old new : S) (octets : List ℕ)
      → model.premise new → MatchesRows now (model.limits old) (model.books old)
      → HandlesRequests (ServiceStep model) head_fault_octets old requests octets new
      → RunsRequests now requests octets (model.books new)
  unfolding HandlesRequests
  handled_run [] now old new octets holds at handles =
      runs_none now old new octets handles.0 handles.1 at
  handled_run (request ∷ requests) now old new octets holds at handles =
      let middle : S = handles.2 in
      let held = all_premise requests middle new handles.1 handles.4 holds in
      let h = found_happens now old middle request (fault_of_head request.head) handles.0 handles.3
      held at in
      runs_on now middle new request requests handles.0 handles.1 octets h
      (handled_run requests (end_of now h.own) middle new handles.1 holds h.at handles.4)
      handles.5

  pub requests_run : RequestsRun model
  requests_run now old new requests octets starts handles =
      handled_run requests now old new octets starts.premise_holds starts.at handles

  -- ---- sessions

  pub all_run : (now : SystemState) (old new : S) (octets replies : List ℕ) (ended : Bool) (rest :
      List ℕ) → StartsAt model now old new
      → HandlesAllRequests (ServiceStep model) head_fault_octets octets old replies new ended rest
      → RunsAllRequests now octets replies (model.books new) ended rest
  all_run now old new octets replies ended rest starts all = record {
    requests = all.requests;
    requests_are = all.requests_are;
    ran = requests_run now old new all.requests replies starts all.handles;
  }

  pub sessions_run : SessionsRun model
  sessions_run now old new octets replies (Some rest) starts fed =
      (all_run now old new octets replies false rest starts fed.0, fed.1)
  sessions_run now old new octets replies None starts (inr stop) = absurd (cc stop.screened_for)
  sessions_run now old new octets replies None starts (inl stop) = record {
    answers = stop.answers;
    last = stop.last;
    ended = stop.ended;
    rest = stop.rest;
    ran = all_run now old new octets stop.answers stop.ended stop.rest starts stop.answered;
    replies_are = stop.replies_are;
    why = stop.why;
  }

  pub lost_pieces_run : LostPiecesRun model
  lost_pieces_run now old new octets starts part = record {
    requests = part.runs.requests;
    replies = part.replies;
    ended = part.ended;
    rest = part.rest;
    lead = part.runs.leads;
    ran = requests_run now old new part.runs.requests part.replies starts part.runs.handles;
  }
