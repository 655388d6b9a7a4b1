-- Interleaved pieces are one run.
use Rattle.std.proofs.Common.{◌≡◌, ◌∙◌, ◌==◌, ℕ, Bool, true, false, List, [], ◌∷◌, ◌++◌, Option}
use Rattle.std.proofs.Common.{Some, None, cond, map, refl, sym, ap, subst, eq-eqb, inl, inr}
use Rattle.std.specs.List.{flat_map}
use Rattle.std.proofs.lemmas.List.{append-nil}
use Rattle.std.proofs.lemmas.Bool.{eqb-true}
use Rattle.http_requests.specs.Fields.{fault_of_head, fields_of}
use Rattle.http_requests.specs.Requests.{Request}
use Rattle.http_requests.specs.declared.head_fault.HeadFault.{HeadFault}
use Rattle.http_requests.specs.HandlerRuns.{HandlerRelation, FaultReplies, HandlesRequests}
use Rattle.http_requests.specs.HandlerRuns.{RepliesGivenFault, KeepsScreens, Screen, screened}
use Rattle.http_requests.specs.ParsedHeads.{head_of}
use Rattle.http_hub.proofs.AloneLemmas.{FeedsEach, fed_alone}
use Rattle.http_hub.specs.HandledRequests.{HandledInTurn, HandledRequest, ReplaysHandled}
use Rattle.http_hub.specs.HandledRequests.{handled_for}
use Rattle.http_hub.specs.FedPieces.{FeedsOrFails, AreForConnection, FedInTurn, AreInPieceOrder}
use Rattle.http_hub.specs.FedPieces.{InterleavingsAreOneRun, Sessions, FedPiece, new_sessions}
use Rattle.http_hub.specs.FedPieces.{pieces_of, with_session}

-- ---- the requests of one connection

same : (connection : ℕ) → (connection == connection) ≡ true
same connection = eq-eqb connection connection refl

handled_append : (connection : ℕ) (xs ys : List HandledRequest) → handled_for connection (xs ++ ys)
    ≡ handled_for connection xs ++ handled_for connection ys
handled_append connection [] ys = refl
handled_append connection (x ∷ xs) ys =
    step (x.connection == connection) (handled_append connection xs ys)
  where
    step : (b : Bool) → handled_for connection (xs ++ ys) ≡ handled_for connection xs
        ++ handled_for connection ys
        → cond b (x ∷ handled_for connection (xs ++ ys)) (handled_for connection (xs ++ ys))
        ≡ cond b (x ∷ handled_for connection xs) (handled_for connection xs)
        ++ handled_for connection ys
    step true e = ap (λ t. x ∷ t) e
    step false e = e

-- all requests are of this connection
pub record AreAllOfOne (connection : ℕ) (handled : List HandledRequest) : Type 0 where
  pub all : AreForConnection connection handled
  pub are_own : handled_for connection handled ≡ handled
  pub others : (other : ℕ) → (connection == other) ≡ false → handled_for other handled ≡ []

one_none : (connection : ℕ) → AreAllOfOne connection []
one_none connection = record { all = tt; are_own = refl; others = λ other _. refl }

one_more : (connection : ℕ) (request : Request) (reply : List ℕ) (handled : List HandledRequest)
    → AreAllOfOne connection handled → AreAllOfOne connection (record {
      connection = connection;
      request = request;
      reply = reply;
    } ∷ handled)
one_more connection request reply handled of_one =
    let one : HandledRequest = record {
      connection = connection;
      request = request;
      reply = reply;
    } in
    record {
      all = (refl, of_one.all);
      are_own = subst (λ b. cond b (one ∷ handled_for connection handled)
          (handled_for connection handled) ≡ one ∷ handled) (sym (same connection))
          (ap (λ t. one ∷ t) of_one.are_own);
      others = λ other apart. subst (λ b. cond b (one ∷ handled_for other handled)
          (handled_for other handled) ≡ []) (sym apart) (of_one.others other apart);
    }

module _ {S : Type 0} (does : HandlerRelation S) (fault_reply : FaultReplies) where
  handled_on : (w u v : S) (xs ys : List HandledRequest) → HandledInTurn does w xs u
      → HandledInTurn does u ys v → HandledInTurn does w (xs ++ ys) v
  unfolding HandledInTurn
  handled_on w u v [] ys first more = subst (λ s. HandledInTurn does s ys v) (sym first) more
  handled_on w u v (x ∷ xs) ys (middle, good, done, rest) more =
      (middle, good, done, handled_on middle u v xs ys rest more)

  -- handled requests are a run of requests
  handles_of_handled : (handled : List HandledRequest) (w v : S) → HandledInTurn does w handled v
      → HandlesRequests does fault_reply w (map (λ (one : HandledRequest). one.request) handled)
      (flat_map (λ (one : HandledRequest). one.reply) handled) v
  unfolding HandledInTurn HandlesRequests
  handles_of_handled [] w v in_turn = (refl, in_turn)
  handles_of_handled (one ∷ handled) w v (middle, good, done, rest) = (
    one.reply,
    flat_map (λ (d : HandledRequest). d.reply) handled,
    middle,
    subst (λ o. RepliesGivenFault does fault_reply w one.request one.reply middle o)
        (sym good) done,
    handles_of_handled handled middle v rest,
    refl,
  )

module _ {S : Type 0} (does : HandlerRelation S) (fault_reply : FaultReplies) (keeps :
    KeepsScreens does) (screen : Screen) where
  -- a reply leaves which heads are refused
  kept_given : (w v : S) (request : Request) (reply : List ℕ) (found : Option HeadFault)
      → RepliesGivenFault does fault_reply w request reply v found → does.screens w ≡ screen
      → does.screens v ≡ screen
  kept_given w v request reply None done is =
      keeps w v (head_of request.head) request.body reply done.1 ∙ is
  kept_given w v request reply (Some found) done is = subst (λ s. does.screens s ≡ screen) done.1 is

  kept_all : (requests : List Request) (w v : S) (replies : List ℕ)
      → HandlesRequests does fault_reply w requests replies v → does.screens w ≡ screen
      → does.screens v ≡ screen
  unfolding HandlesRequests
  kept_all [] w v replies handled is = subst (λ s. does.screens s ≡ screen) handled.1 is
  kept_all (request ∷ requests) w v replies (reply, more, middle, replied, rest, joined) is =
      kept_all requests middle v more rest (kept_given w middle request reply
      (fault_of_head request.head) replied is)

  admitted_too : (w : S) (request : Request) → screened does w request.head ≡ None
      → does.screens w ≡ screen → screen request.head.method (fields_of request.head) ≡ None
  admitted_too w request admitted is =
      subst (λ (s : Screen). s request.head.method (fields_of request.head) ≡ None) is admitted

  -- ---- a run of requests of one connection as handled requests

  pub record Records (connection : ℕ) (w : S) (requests : List Request) (replies : List ℕ) (v : S) :
      Type 0 where
    pub handled : List HandledRequest
    pub in_turn : HandledInTurn does w handled v
    pub of_one : AreAllOfOne connection handled
    pub replays : (more : List HandledRequest) → HandlesRequests (ReplaysHandled screen) fault_reply
        (handled ++ more) requests replies more

  mutual_step : (connection : ℕ) (w v : S) (request : Request) (requests : List Request)
      (reply more all : List ℕ) (middle : S) (found : Option HeadFault)
      → does.screens w ≡ screen → fault_of_head request.head ≡ found
      → RepliesGivenFault does fault_reply w request reply middle found
      → Records connection middle requests more v → all ≡ reply ++ more
      → Records connection w (request ∷ requests) all v
  unfolding HandledInTurn HandlesRequests
  mutual_step connection w v request requests reply more all middle None is good done rest joined =
      let one : HandledRequest = record {
        connection = connection;
        request = request;
        reply = reply;
      } in
      record {
        handled = one ∷ rest.handled;
        in_turn = (middle, good, done, rest.in_turn);
        of_one = one_more connection request reply rest.handled rest.of_one;
        replays = λ others. (
          reply,
          more,
          rest.handled ++ others,
          subst (λ o. RepliesGivenFault (ReplaysHandled screen) fault_reply
              (one ∷ (rest.handled ++ others)) request reply (rest.handled ++ others) o) (sym good)
              (admitted_too w request done.0 is, (one, refl, refl, refl, refl)),
          rest.replays others,
          joined,
        );
      }
  mutual_step connection w v request requests reply more all middle (Some found) is bad done rest
      joined = record {
        handled = rest.handled;
        in_turn = subst (λ s. HandledInTurn does s rest.handled v) (sym done.1) rest.in_turn;
        of_one = rest.of_one;
        replays = λ others. (
          reply,
          more,
          rest.handled ++ others,
          subst (λ o. RepliesGivenFault (ReplaysHandled screen) fault_reply (rest.handled ++ others)
              request reply (rest.handled ++ others) o) (sym bad) (done.0, refl),
          rest.replays others,
          joined,
        );
      }

  pub records : (connection : ℕ) (requests : List Request) (w v : S) (replies : List ℕ)
      → does.screens w ≡ screen → HandlesRequests does fault_reply w requests replies v
      → Records connection w requests replies v
  unfolding HandledInTurn HandlesRequests
  records connection [] w v replies is handled = record {
    handled = [];
    in_turn = handled.1;
    of_one = one_none connection;
    replays = λ more. (handled.0, refl);
  }
  records connection (request ∷ requests) w v replies is (
    reply,
    more,
    middle,
    replied,
    rest,
    joined,
  ) =
      let middle_is = kept_given w middle request reply (fault_of_head request.head) replied is in
      mutual_step connection w v request requests reply more replies middle
      (fault_of_head request.head) is refl replied (records connection requests middle v more
      middle_is rest) joined

  -- ---- one piece

  pub record FeedsOne (connection : ℕ) (before : Option (List ℕ)) (w : S) (piece : List ℕ)
      (replies : Option (List ℕ)) (v : S) (session : Option (List ℕ)) : Type 0 where
    pub handled : List HandledRequest
    pub in_turn : HandledInTurn does w handled v
    pub of_one : AreAllOfOne connection handled
    pub kept : does.screens v ≡ screen
    pub replays : (more : List HandledRequest) → FeedsOrFails (ReplaysHandled screen) fault_reply
        before (handled ++ more) piece replies more session

  feeds_one : (connection : ℕ) (before : Option (List ℕ)) (w v : S) (piece : List ℕ)
      (replies session : Option (List ℕ)) → does.screens w ≡ screen
      → FeedsOrFails does fault_reply before w piece replies v session
      → FeedsOne connection before w piece replies v session
  unfolding HandledInTurn
  feeds_one connection (Some held) w v piece (Some replies) (Some rest) is fed =
      let r = records connection fed.0.requests w v replies is fed.0.handles in
      record {
        kept = kept_all fed.0.requests w v replies fed.0.handles is;
        handled = r.handled;
        in_turn = r.in_turn;
        of_one = r.of_one;
        replays = λ more. (
          record {
            requests = fed.0.requests;
            requests_are = fed.0.requests_are;
            handles = r.replays more;
          },
          fed.1,
        );
      }
  feeds_one connection (Some held) w v piece (Some replies) None is (inl fed) =
      let r = records connection fed.answered.requests w v fed.answers is fed.answered.handles in
      record {
        handled = r.handled;
        in_turn = r.in_turn;
        of_one = r.of_one;
        kept = kept_all fed.answered.requests w v fed.answers fed.answered.handles is;
        replays = λ more. inl (record {
          answers = fed.answers;
          last = fed.last;
          ended = fed.ended;
          rest = fed.rest;
          answered = record {
            requests = fed.answered.requests;
            requests_are = fed.answered.requests_are;
            handles = r.replays more;
          };
          replies_are = fed.replies_are;
          why = fed.why;
        });
      }
  feeds_one connection (Some held) w v piece (Some replies) None is (inr fed) =
      let r = records connection fed.answered.requests w v fed.answers is fed.answered.handles in
      let kept = kept_all fed.answered.requests w v fed.answers fed.answered.handles is in
      record {
        handled = r.handled;
        in_turn = r.in_turn;
        of_one = r.of_one;
        kept = kept;
        replays = λ more. inr (record {
          answers = fed.answers;
          rest = fed.rest;
          head = fed.head;
          after = fed.after;
          fault = fed.fault;
          answered = record {
            requests = fed.answered.requests;
            leads = fed.answered.leads;
            handles = r.replays more;
          };
          begins = fed.begins;
          good = fed.good;
          screened_for = subst (λ (s : Screen). s fed.head.method (fields_of fed.head)
              ≡ Some fed.fault) kept fed.screened_for;
          replies_are = fed.replies_are;
        });
      }
  feeds_one connection None w v piece (Some replies) session is took =
      record {
        kept = subst (λ s. does.screens s ≡ screen) took.1 is;
        handled = [];
        in_turn = took.1;
        of_one = one_none connection;
        replays = λ more. (took.0, refl, took.2);
      }
  feeds_one connection (Some held) w v piece None session is fed =
      let r = records connection fed.0.runs.requests w v fed.0.replies is fed.0.runs.handles in
      record {
        kept = kept_all fed.0.runs.requests w v fed.0.replies fed.0.runs.handles is;
        handled = r.handled;
        in_turn = r.in_turn;
        of_one = r.of_one;
        replays = λ more. (
          record {
            replies = fed.0.replies;
            ended = fed.0.ended;
            rest = fed.0.rest;
            runs = record {
              requests = fed.0.runs.requests;
              leads = fed.0.runs.leads;
              handles = r.replays more;
            };
          },
          fed.1,
        );
      }
  feeds_one connection None w v piece None session is fed =
      record {
        kept = subst (λ s. does.screens s ≡ screen) fed.0 is;
        handled = [];
        in_turn = fed.0;
        of_one = one_none connection;
        replays = λ more. (refl, fed.1);
      }

  -- ---- all pieces

  pub record RunsAll (before : Sessions) (w : S) (pieces : List FedPiece) (v : S) (after :
      Sessions) : Type 0 where
    pub handled : List HandledRequest
    pub in_turn : HandledInTurn does w handled v
    pub in_piece_order : AreInPieceOrder screen fault_reply before pieces handled
    pub each : (connection : ℕ) → FeedsEach (ReplaysHandled screen) fault_reply (before connection)
        (handled_for connection handled) (pieces_of connection pieces) [] (after connection)

  each_on : (b : Bool) (fed_piece : FedPiece) (pieces : List FedPiece) (before after : Sessions)
      (connection : ℕ) (between : Option (List ℕ)) (handled more : List HandledRequest) (w v : S)
      → (fed_piece.connection == connection) ≡ b → AreAllOfOne fed_piece.connection handled
      → ((rest : List HandledRequest) → FeedsOrFails (ReplaysHandled screen) fault_reply
      (before fed_piece.connection) (handled ++ rest) fed_piece.octets fed_piece.replies rest
      between)
      → FeedsEach (ReplaysHandled screen) fault_reply (cond b between (before connection))
      (handled_for connection more) (pieces_of connection pieces) [] (after connection)
      → FeedsEach (ReplaysHandled screen) fault_reply (before connection)
      (handled_for connection (handled ++ more))
      (cond b ((fed_piece.octets, fed_piece.replies) ∷ pieces_of connection pieces)
      (pieces_of connection pieces)) [] (after connection)
  unfolding FeedsEach
  each_on true fed_piece pieces before after connection between handled more w v is_own of_one
      replies_are rest =
      let same_connection : fed_piece.connection ≡ connection =
      eqb-true fed_piece.connection connection is_own in
      let are_own : handled_for connection handled ≡ handled =
      subst (λ n. handled_for n handled ≡ handled) same_connection of_one.are_own in
      let all : handled_for connection (handled ++ more) ≡ handled ++ handled_for connection more =
      handled_append connection handled more ∙ ap (λ t. t ++ handled_for connection more)
      are_own in
      let took = subst (λ n. FeedsOrFails (ReplaysHandled screen) fault_reply (before n)
      (handled ++ handled_for connection more) fed_piece.octets fed_piece.replies
      (handled_for connection more) between) same_connection
      (replies_are (handled_for connection more)) in (
        between,
        handled_for connection more,
        subst (λ t. FeedsOrFails (ReplaysHandled screen) fault_reply (before connection) t
            fed_piece.octets fed_piece.replies (handled_for connection more) between) (sym all)
            took,
        rest,
      )
  each_on false fed_piece pieces before after connection between handled more w v apart of_one
      replies_are rest =
      let all : handled_for connection (handled ++ more) ≡ handled_for connection more =
      handled_append connection handled more ∙ ap (λ t. t ++ handled_for connection more)
      (of_one.others connection apart) in
      subst (λ t. FeedsEach (ReplaysHandled screen) fault_reply (before connection) t
      (pieces_of connection pieces) [] (after connection)) (sym all) rest

  pub runs_all : (pieces : List FedPiece) (before after : Sessions) (w v : S)
      → does.screens w ≡ screen → FedInTurn does fault_reply before w pieces v after
      → RunsAll before w pieces v after
  unfolding HandledInTurn FedInTurn AreInPieceOrder FeedsEach
  runs_all [] before after w v is fed = record {
    handled = [];
    in_turn = fed.0;
    in_piece_order = refl;
    each = λ connection. (fed.1 connection, refl);
  }
  runs_all (fed_piece ∷ pieces) before after w v is (middle, between, took, fed) =
      let first = feeds_one fed_piece.connection (before fed_piece.connection) w middle
      fed_piece.octets fed_piece.replies between is took in
      let rest = runs_all pieces (with_session before fed_piece.connection between) after middle v
      first.kept fed in
      record {
        handled = first.handled ++ rest.handled;
        in_turn = handled_on does fault_reply w middle v first.handled rest.handled first.in_turn
            rest.in_turn;
        in_piece_order = (
          first.handled,
          rest.handled,
          between,
          refl,
          first.of_one.all,
          subst (λ t. FeedsOrFails (ReplaysHandled screen) fault_reply (before fed_piece.connection)
              t fed_piece.octets fed_piece.replies [] between) (append-nil first.handled)
              (first.replays []),
          rest.in_piece_order,
        );
        each = λ connection. each_on (fed_piece.connection == connection) fed_piece pieces before
            after connection between first.handled rest.handled w v refl first.of_one first.replays
            (rest.each connection);
      }

module _ {S : Type 0} (does : HandlerRelation S) (fault_reply : FaultReplies) where
  pub one_run : InterleavingsAreOneRun does fault_reply
  one_run keeps old new pieces after fed =
      let all = runs_all does fault_reply keeps (does.screens old) pieces new_sessions after old new
      refl fed in
      record {
        handled = all.handled;
        in_turn = all.in_turn;
        one_run = handles_of_handled does fault_reply all.handled old new all.in_turn;
        in_piece_order = all.in_piece_order;
        each_alone = λ connection. fed_alone (ReplaysHandled (does.screens old)) fault_reply
            (pieces_of connection pieces) (handled_for connection all.handled) [] (after connection)
            (all.each connection);
      }
