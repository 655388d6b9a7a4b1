-- Runs of requests, one after another.
use Rattle.std.proofs.Common.{◌≡◌, ◌∙◌, ℕ, List, [], ◌∷◌, ◌++◌, refl, sym, ap, subst, append_assoc}
use Rattle.std.proofs.Common.{Bool, true, false, inl, inr, arith, length-append}
use Rattle.std.proofs.lemmas.List.{append-nil, take-append-le}
use Rattle.httparse.specs.Grammar.{ReadsRequest, RequestHead, MayBecomeRequest}
use Rattle.httparse.proofs.GrammarLemmas.{ReadsRequest-append}
use Rattle.http_requests.specs.Fields.{is_last_request}
use Rattle.http_requests.specs.ParsedHeads.{IsUnreadable}
use Rattle.http_requests.specs.Requests.{Request, StartsWithHead, StartsWithRequest, HasNoHead}
use Rattle.http_requests.specs.Requests.{NeverHasHead, HasNoRequest, StartsWithRequests}
use Rattle.http_requests.specs.HandlerRuns.{HandlerRelation, FaultReplies, RepliesToRequest}
use Rattle.http_requests.specs.HandlerRuns.{HandlesRequests, HandlesPrefix}
use Rattle.http_requests.specs.SessionFeeding.{HandlesAllRequests, RefusesHead, ClosesSession}
use Rattle.http_requests.specs.SessionFeeding.{EndsSession, ScreensHead, HeadMustHaveEnded}
use Rattle.http_requests.specs.SessionFeeding.{HeadIsTooLong, HandlesSomePrefix}
use Rattle.http_requests.proofs.CutLemmas.{leads_on, leads_end}
use Rattle.http_requests.proofs.EndLemmas.{whole_more}

-- ---- what never becomes a head doesn't by octets more

pub never_more : (s y : List ℕ) → NeverHasHead s → NeverHasHead (s ++ y)
never_more s y never more = subst HasNoHead (sym (append_assoc s y more)) (never (y ++ more))

pub never_requests : (s y : List ℕ) → NeverHasHead s → HasNoRequest (s ++ y)
never_requests s y never request rest begins = never y request.head (request.body ++ rest) begins.0

unreadable_more : (s y : List ℕ) → IsUnreadable s → IsUnreadable (s ++ y)
unreadable_more s y over more h rest reads =
    over (y ++ more) h rest (subst (λ t. ReadsRequest t h rest) (append_assoc s y more) reads)

over_more : (s y : List ℕ) → HeadMustHaveEnded s → HeadMustHaveEnded (s ++ y)
over_more s y (inl ended) = inl (whole_more s y ended)
over_more s y (inr long) = inr (omega (arith, long, length-append s y))

too_long_more : (s y : List ℕ) → HeadIsTooLong s → HeadIsTooLong (s ++ y)
too_long_more s y long = (
  omega (arith, long.0, length-append s y),
  subst MayBecomeRequest (sym (take-append-le 16384 s y long.0)) long.1,
)

pub begins_on : (held x : List ℕ) (h : RequestHead) (body : List ℕ) → StartsWithHead held h body
    → StartsWithHead (held ++ x) h (body ++ x)
begins_on held x h body b = (ReadsRequest-append held h body x b.0, b.1, b.2)

module _ {S : Type 0} (does : HandlerRelation S) (reply_to : FaultReplies) where
  -- ---- one after the other

  pub handles_on : (w u v : S) (rs qs : List Request) (a b : List ℕ)
      → HandlesRequests does reply_to w rs a u → HandlesRequests does reply_to u qs b v
      → HandlesRequests does reply_to w (rs ++ qs) (a ++ b) v
  unfolding HandlesRequests
  handles_on w u v [] qs a b x y =
      let moved = subst (λ s. HandlesRequests does reply_to s qs b v) (sym x.1) y in
      subst (λ t. HandlesRequests does reply_to w qs (t ++ b) v) (sym x.0) moved
  handles_on w u v (r ∷ rs) qs a b x y = (
    x.0,
    x.1 ++ b,
    x.2,
    x.3,
    handles_on x.2 u v rs qs x.1 b x.4 y,
    ap (λ t. t ++ b) x.5
        ∙ append_assoc x.0 x.1 b,
  )

  pub run_on : (s y : List ℕ) (w u v : S) (a b : List ℕ) (ended : Bool) (middle rest : List ℕ)
      → HandlesPrefix does reply_to s w a u false middle
      → HandlesPrefix does reply_to (middle ++ y) u b v ended rest
      → HandlesPrefix does reply_to (s ++ y) w (a ++ b) v ended rest
  run_on s y w u v a b ended middle rest first more = record {
    requests = first.requests ++ more.requests;
    leads = leads_on s y first.requests more.requests ended middle rest first.leads more.leads;
    handles = handles_on w u v first.requests more.requests a b first.handles more.handles;
  }

  -- nothing was whole
  pub run_none : (s : List ℕ) (w : S) → HandlesPrefix does reply_to s w [] w false s
  unfolding StartsWithRequests HandlesRequests
  run_none s w = record { requests = []; leads = (refl, refl); handles = (refl, refl) }

  pub run_more : (s y : List ℕ) (w v : S) (a : List ℕ) (ended : Bool) (rest : List ℕ)
      → HandlesPrefix does reply_to s w a v ended rest
      → HandlesPrefix does reply_to (s ++ y) w a v ended (rest ++ y)
  run_more s y w v a false rest first =
      subst (λ t. HandlesPrefix does reply_to (s ++ y) w t v false (rest ++ y)) (append-nil a)
      (run_on s y w v v a [] false rest (rest ++ y) first (run_none (rest ++ y) v))
  run_more s y w v a true rest first = record {
    requests = first.requests;
    leads = leads_end s y first.requests rest first.leads;
    handles = first.handles;
  }

  -- one request
  pub run_one : (s : List ℕ) (r : Request) (rest : List ℕ) (w : S) (reply : List ℕ) (v : S) (last :
      Bool)
      → StartsWithRequest s r rest → RepliesToRequest does reply_to w r reply v
      → is_last_request r.head ≡ last → HandlesPrefix does reply_to s w reply v last rest
  unfolding StartsWithRequests HandlesRequests
  run_one s r rest w reply v true begins replies is = record {
    requests = r ∷ [];
    leads = (rest, begins, rw is (refl, refl, refl));
    handles = (reply, [], v, replies, (refl, refl), sym (append-nil reply));
  }
  run_one s r rest w reply v false begins replies is = record {
    requests = r ∷ [];
    leads = (rest, begins, rw is (refl, refl));
    handles = (reply, [], v, replies, (refl, refl), sym (append-nil reply));
  }

  -- ---- all requests of octets

  pub answered_run : (s : List ℕ) (w : S) (a : List ℕ) (v : S) (ended : Bool) (rest : List ℕ)
      → HandlesAllRequests does reply_to s w a v ended rest
      → HandlesPrefix does reply_to s w a v ended rest
  answered_run s w a v ended rest all = record {
    requests = all.requests;
    leads = all.requests_are.0;
    handles = all.handles;
  }

  pub run_answered : (s : List ℕ) (w : S) (a : List ℕ) (v : S) (ended : Bool) (rest : List ℕ)
      → HandlesPrefix does reply_to s w a v ended rest → (ended ≡ false → HasNoRequest rest)
      → HandlesAllRequests does reply_to s w a v ended rest
  run_answered s w a v ended rest run none = record {
    requests = run.requests;
    requests_are = (run.leads, none);
    handles = run.handles;
  }

  pub answered_on : (s y : List ℕ) (w u v : S) (a b : List ℕ) (ended : Bool) (middle rest : List ℕ)
      → HandlesPrefix does reply_to s w a u false middle
      → HandlesAllRequests does reply_to (middle ++ y) u b v ended rest
      → HandlesAllRequests does reply_to (s ++ y) w (a ++ b) v ended rest
  answered_on s y w u v a b ended middle rest first more =
      run_answered (s ++ y) w (a ++ b) v ended rest (run_on s y w u v a b ended middle rest first
      (answered_run (middle ++ y) u b v ended rest more)) more.requests_are.1

  pub answered_more : (s y : List ℕ) (w v : S) (a : List ℕ) (ended : Bool) (rest : List ℕ)
      → HandlesAllRequests does reply_to s w a v ended rest
      → (ended ≡ false → HasNoRequest (rest ++ y)) → HandlesAllRequests does reply_to (s ++ y) w
      a v ended (rest ++ y)
  answered_more s y w v a ended rest all none =
      run_answered (s ++ y) w a v ended (rest ++ y) (run_more s y w v a ended rest
      (answered_run s w a v ended rest all)) none

  -- ---- a closed session

  screened_more : (s y : List ℕ) (w v : S) (a : List ℕ) → ScreensHead does reply_to s w a v
      → ScreensHead does reply_to (s ++ y) w a v
  screened_more s y w v a stop = record {
    answers = stop.answers;
    rest = stop.rest ++ y;
    head = stop.head;
    after = stop.after ++ y;
    fault = stop.fault;
    answered = run_more s y w v stop.answers false stop.rest stop.answered;
    begins = begins_on stop.rest y stop.head stop.after stop.begins;
    good = stop.good;
    screened_for = stop.screened_for;
    replies_are = stop.replies_are;
  }

  refused_more : (s y reply : List ℕ) → RefusesHead does reply_to s reply
      → RefusesHead does reply_to (s ++ y) reply
  refused_more s y reply refused = (
    over_more s y refused.0,
    never_more s y refused.1,
    elim refused.2 [
      | inl bad ↦ inl (bad.0, unreadable_more s y bad.1)
      | inr long ↦ inr (long.0, too_long_more s y long.1)
    ],
  )

  ended_more : (s y : List ℕ) (w v : S) (a : List ℕ) → EndsSession does reply_to s w a v
      → EndsSession does reply_to (s ++ y) w a v
  ended_more s y w v a stop = record {
    answers = stop.answers;
    last = stop.last;
    ended = stop.ended;
    rest = stop.rest ++ y;
    answered = elim stop.why [
      | inl over ↦ answered_more s y w v stop.answers stop.ended stop.rest stop.answered
          (λ e. absurd (cc (over.0, e)))
      | inr refused ↦ answered_more s y w v stop.answers stop.ended stop.rest stop.answered
          (λ _. never_requests stop.rest y refused.1.1)
    ];
    replies_are = stop.replies_are;
    why = elim stop.why [
      | inl over ↦ inl over
      | inr refused ↦ inr (refused.0, refused_more stop.rest y stop.last refused.1)
    ];
  }

  pub stopped_more : (s y : List ℕ) (w v : S) (a : List ℕ) → ClosesSession does reply_to s w a v
      → ClosesSession does reply_to (s ++ y) w a v
  stopped_more s y w v a (inl stop) = inl (ended_more s y w v a stop)
  stopped_more s y w v a (inr stop) = inr (screened_more s y w v a stop)

  ended_on : (s y : List ℕ) (w u v : S) (a b : List ℕ) (middle : List ℕ)
      → HandlesPrefix does reply_to s w a u false middle
      → EndsSession does reply_to (middle ++ y) u b v
      → EndsSession does reply_to (s ++ y) w (a ++ b) v
  ended_on s y w u v a b middle first stop = record {
    answers = a ++ stop.answers;
    last = stop.last;
    ended = stop.ended;
    rest = stop.rest;
    answered = answered_on s y w u v a stop.answers stop.ended middle stop.rest first stop.answered;
    replies_are = ap (λ t. a ++ t) stop.replies_are ∙ sym (append_assoc a stop.answers stop.last);
    why = stop.why;
  }

  screened_on : (s y : List ℕ) (w u v : S) (a b : List ℕ) (middle : List ℕ)
      → HandlesPrefix does reply_to s w a u false middle
      → ScreensHead does reply_to (middle ++ y) u b v
      → ScreensHead does reply_to (s ++ y) w (a ++ b) v
  screened_on s y w u v a b middle first stop = record {
    answers = a ++ stop.answers;
    rest = stop.rest;
    head = stop.head;
    after = stop.after;
    fault = stop.fault;
    answered = run_on s y w u v a stop.answers false middle stop.rest first stop.answered;
    begins = stop.begins;
    good = stop.good;
    screened_for = stop.screened_for;
    replies_are = ap (λ t. a ++ t) stop.replies_are
        ∙ sym (append_assoc a stop.answers (reply_to stop.fault));
  }

  pub stopped_on : (s y : List ℕ) (w u v : S) (a b : List ℕ) (middle : List ℕ)
      → HandlesPrefix does reply_to s w a u false middle
      → ClosesSession does reply_to (middle ++ y) u b v
      → ClosesSession does reply_to (s ++ y) w (a ++ b) v
  stopped_on s y w u v a b middle first (inl stop) = inl (ended_on s y w u v a b middle first stop)
  stopped_on s y w u v a b middle first (inr stop) =
      inr (screened_on s y w u v a b middle first stop)

  -- ---- a beginning of the list

  pub part_on : (s y : List ℕ) (w u v : S) (a : List ℕ) (middle : List ℕ)
      → HandlesPrefix does reply_to s w a u false middle
      → HandlesSomePrefix does reply_to (middle ++ y) u v
      → HandlesSomePrefix does reply_to (s ++ y) w v
  part_on s y w u v a middle first part = record {
    replies = a ++ part.replies;
    ended = part.ended;
    rest = part.rest;
    runs = run_on s y w u v a part.replies part.ended middle part.rest first part.runs;
  }

  pub part_more : (s y : List ℕ) (w v : S) → HandlesSomePrefix does reply_to s w v
      → HandlesSomePrefix does reply_to (s ++ y) w v
  part_more s y w v part = record {
    replies = part.replies;
    ended = part.ended;
    rest = part.rest ++ y;
    runs = run_more s y w v part.replies part.ended part.rest part.runs;
  }

  pub part_none : (s : List ℕ) (w v : S) → w ≡ v → HandlesSomePrefix does reply_to s w v
  part_none s w v same = record {
    replies = [];
    ended = false;
    rest = s;
    runs = subst (λ u. HandlesPrefix does reply_to s w [] u false s) same (run_none s w);
  }
