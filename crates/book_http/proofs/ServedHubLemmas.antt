-- Any number of connections are one run of the service.
use Rattle.std.proofs.Common.{◌≡◌, ◌∙◌, ℕ, Bool, List, [], ◌∷◌, ◌++◌, Option, None, Result, Ok, Err}
use Rattle.std.proofs.Common.{refl, sym, ap, ap₂, subst}
use Rattle.std.proofs.lemmas.List.{append-nil}
use Rattle.book_http.proofs.OctetRunLemmas.{all_limits, all_premise, requests_run}
use Rattle.book_http.specs.OctetPromise.{ServiceStep, StartsAt}
use Rattle.book_http.specs.OctetRuns.{AreReplies, IsReplyToRequest}
use Rattle.book_commands.specs.declared.command.Command.{Command}
use Rattle.book_commands.specs.declared.reply.Reply.{Reply}
use Rattle.book_http.specs.RequestAnswers.{AnswersCommand, AnswersRequest}
use Rattle.book_http.specs.StoreCommands.{PerformsOnStore}
use Rattle.book_service.proofs.StepLemmas.{end-append, run_limits, runs_join}
use Rattle.book_service.specs.Runs.{MatchesRows, SystemState, TraceStep, end_of}
use Rattle.http_hub.proofs.HubLemmas.{hubs_separate_connections}
use Rattle.http_hub.specs.HandledRequests.{HandledInTurn, HandledRequest}
use Rattle.http_replies.specs.Replies.{head_fault_octets}
use Rattle.http_requests.specs.Fields.{fault_of_head}
use Rattle.http_requests.specs.HandlerRuns.{HandlerRelation, HandlesAdmitted, HandlesRequests}
use Rattle.http_requests.specs.HandlerRuns.{KeepsScreens, RepliesGivenFault, Screen}
use Rattle.http_requests.specs.ParsedHeads.{head_of}
use Rattle.http_requests.specs.GuardedHandlers.{first_fault, guarded}
use Rattle.http_requests.specs.Guards.{guard}
use Rattle.http_requests.specs.Requests.{Request}
use Rattle.http_requests.specs.declared.head.Head.{Head}
use Rattle.http_routes.specs.Commands.{requested_command}
use Rattle.http_routes.specs.declared.fault.RouteFault.{RouteFault}
use Rattle.http_requests.specs.declared.head_fault.HeadFault.{HeadFault}
use Rattle.sync_core.specs.StoreModels.{StoreModel}
use Rattle.book_http.specs.ServedHubs.{AreOwnReplies, HubsAreOneRun, RunsHandled, behind_guard}

-- replies to one request are its own reply
own_reply : (request : Request) (run : List TraceStep) (reply : List ℕ)
    → AreReplies (request ∷ []) run reply → IsReplyToRequest request run reply
unfolding AreReplies
own_reply request run reply (own, more, first, rest, replied, none, run_is, reply_is) =
    let own_is : run ≡ own = run_is ∙ ap (λ (t : List TraceStep). own ++ t) none.0
    ∙ append-nil own in
    let first_is : reply ≡ first = reply_is ∙ ap (λ (t : List ℕ). first ++ t) none.1
    ∙ append-nil first in
    subst (λ (t : List TraceStep). IsReplyToRequest request t reply) (sym own_is)
    (subst (λ (t : List ℕ). IsReplyToRequest request own t) (sym first_is) replied)

-- two pairs with the same parts
pub pair_path : {A B : Type 0} (p q : A × B) → p.0 ≡ q.0 → p.1 ≡ q.1 → p ≡ q
pair_path {A} {B} p q first second = let pair : A → B → A × B = λ x y. (x, y) in
    ap₂ pair first second

module _ {S : Type 0} (model : StoreModel S) where
  -- a handled request as a list of one
  one_handled : (one : HandledRequest) (old new : S) → fault_of_head one.request.head ≡ None
      → HandlesAdmitted (ServiceStep model) old one.request one.reply new
      → HandlesRequests (ServiceStep model) head_fault_octets old (one.request ∷ []) one.reply new
  unfolding HandlesRequests
  one_handled one old new good done = (
    one.reply,
    [],
    new,
    subst (λ (found : Option HeadFault). RepliesGivenFault (ServiceStep model) head_fault_octets old
        one.request one.reply new found) (sym good) done,
    (refl, refl),
    sym (append-nil one.reply),
  )

  premise_before : (handled : List HandledRequest) (old new : S)
      → HandledInTurn (ServiceStep model) old handled new → model.premise new → model.premise old
  unfolding HandledInTurn
  premise_before [] old new same holds = subst model.premise (sym same) holds
  premise_before (one ∷ handled) old new (middle, good, done, rest) holds =
      all_premise model (one.request ∷ []) old middle one.reply (one_handled one old middle good
      done) (premise_before handled middle new rest holds)

  pub handled_run : (handled : List HandledRequest) (now : SystemState) (old new : S)
      → StartsAt model now old new → HandledInTurn (ServiceStep model) old handled new
      → RunsHandled now handled (model.books new)
  unfolding HandledInTurn AreOwnReplies
  handled_run [] now old new starts same = record {
    run = [];
    runs = tt;
    own_replies = refl;
    at =
        record {
          limits_are = refl;
          histories = (subst (λ (s : S). MatchesRows now (model.limits s) (model.books s)) same
              starts.at).histories;
        };
    devices_are = refl;
  }
  handled_run (one ∷ handled) now old new starts (middle, good, done, rest) =
      let handles = one_handled one old middle good done in
      let held = premise_before handled middle new rest starts.premise_holds in
      let first = requests_run model now old middle (one.request ∷ []) one.reply
      (record { at = starts.at; premise_holds = held }) handles in
      let same_limits = all_limits model (one.request ∷ []) old middle one.reply handles in
      let at : MatchesRows (end_of now first.run) (model.limits middle) (model.books middle) =
      record {
        limits_are = first.at.limits_are ∙ starts.at.limits_are ∙ sym same_limits;
        histories = first.at.histories;
      } in
      let more = handled_run handled (end_of now first.run) middle new (record {
        at = at;
        premise_holds = starts.premise_holds;
      }) rest in
      let end : end_of now (first.run ++ more.run) ≡ end_of (end_of now first.run) more.run =
      end-append now first.run more.run in
      record {
        run = first.run ++ more.run;
        runs = runs_join now first.run more.run first.runs more.runs;
        own_replies = (
          first.run,
          more.run,
          own_reply one.request first.run one.reply
              first.are_replies,
          more.own_replies,
          refl,
        );
        at = subst (λ (m : SystemState). MatchesRows m now.model.limits (model.books new)) (sym end)
            (record {
              limits_are = more.at.limits_are ∙ run_limits now first.run first.runs;
              histories = more.at.histories;
            });
        devices_are = ap (λ (m : SystemState). m.devices) end ∙ more.devices_are
            ∙ first.devices_are;
      }

  -- each step of the handler is one of the service
  abbrev pub ServesRequests : HandlerRelation S → Type 0
  ServesRequests does = (old new : S) (head : Head) (body reply : List ℕ)
      → does.step old head body reply new → AnswersRequest model old head body reply new

  -- what a handler of the service handled, the service handled
  pub served : (does : HandlerRelation S) → ServesRequests does
      → (handled : List HandledRequest) (old new : S) → HandledInTurn does old handled new
      → HandledInTurn (ServiceStep model) old handled new
  unfolding HandledInTurn
  served does serves [] old new same = same
  served does serves (one ∷ handled) old new (middle, good, done, rest) = (
    middle,
    good,
    (
      refl,
      serves old middle (head_of one.request.head) one.request.body one.reply
          done.1,
    ),
    served does serves handled middle new rest,
  )

  pub hubs_are_one_run : (does : HandlerRelation S) → ServesRequests does → KeepsScreens does
      → HubsAreOneRun model does
  hubs_are_one_run does serves keeps now limit old new steps after starts runs =
      let apart = hubs_separate_connections does head_fault_octets keeps limit old new steps after
      runs in
      record {
        separate = apart;
        ran = handled_run apart.one_run.handled now old new starts
            (served does serves apart.one_run.handled old new apart.one_run.in_turn);
      }

  pub service_hubs : HubsAreOneRun model (ServiceStep model)
  service_hubs = hubs_are_one_run (ServiceStep model) (λ old new head body reply done. done)
      (λ old new head body reply done. refl)

-- ---- behind a guard

module _ {S : Type 0} (model : StoreModel S) where
  -- a command that is performed on a store is performed on it behind a guard
  performed : (old new : List (List ℕ) × S) (command : Command) (r : Reply)
      → PerformsOnStore model old.1 command r new.1
      → PerformsOnStore (behind_guard model) old command r new
  performed old new command r did = record {
    terms = record {
      premise = did.terms.premise;
      limits = did.terms.limits;
      range = did.terms.range;
    };
    fault = did.fault;
    kept = did.kept;
    step = did.step;
  }

  answered : (old new : List (List ℕ) × S) (wanted : Result Command RouteFault) (close : Bool)
      (octets : List ℕ) → new.0 ≡ old.0 → AnswersCommand model old.1 wanted close octets new.1
      → AnswersCommand (behind_guard model) old wanted close octets new
  answered old new (Ok command) close octets same answers =
      (answers.0, performed old new command answers.0 answers.1, answers.2)
  answered old new (Err fault) close octets same answers =
      (answers.0, pair_path old new (sym same) answers.1)

  pub guard_serves : ServesRequests (behind_guard model) (guarded (ServiceStep model))
  guard_serves old new head body reply done =
      answered old new (requested_command head.method head.target body) head.close reply done.0
      done.1

  pub guard_keeps : KeepsScreens (guarded (ServiceStep model))
  guard_keeps old new head body reply done =
      let screen : List (List ℕ) → Screen =
      λ names method fields. first_fault (guard names method fields) None in
      ap screen done.0

  pub guarded_hubs : HubsAreOneRun (behind_guard model) (guarded (ServiceStep model))
  guarded_hubs = hubs_are_one_run (behind_guard model) (guarded (ServiceStep model)) guard_serves
      guard_keeps
