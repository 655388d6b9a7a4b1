-- Pieces in turn.
use Rattle.std.proofs.Common.{◌∙◌, ℕ, List, [], ◌∷◌, ◌++◌, refl, inr, sym, ap, subst, append_assoc}
use Rattle.std.proofs.Common.{false, inl, arith, Option, Some, None}
use Rattle.std.specs.List.{flat_map}
use Rattle.std.proofs.lemmas.List.{append-nil}
use Rattle.http_requests.specs.Requests.{StartsWithHead, HasNoRequest}
use Rattle.http_requests.specs.HandlerRuns.{HandlerRelation, FaultReplies}
use Rattle.http_requests.specs.SessionFeeding.{IsPartialRequest, RefusesHead, ClosesSession}
use Rattle.http_requests.specs.SessionFeeding.{EndsSession, ScreensNothing, HandlesAllRequests}
use Rattle.http_requests.specs.SessionFeeding.{FeedsSession, FeedsPiece, FeedsPieces}
use Rattle.http_requests.specs.SessionFeeding.{PiecesAreFedAsOne, CutsMakeNoDifference}
use Rattle.http_requests.proofs.CutLemmas.{determined}
use Rattle.http_requests.proofs.EndLemmas.{none_ended}
use Rattle.http_requests.proofs.RunLemmas.{run_none, run_answered, answered_run, answered_on}
use Rattle.http_requests.proofs.RunLemmas.{stopped_on, stopped_more}

none_at_first : HasNoRequest []
none_at_first request rest begins = none_ended [] (λ e. cc e) request.head (request.body ++ rest)
    begins.0

module _ {S : Type 0} (does : HandlerRelation S) (reply_to : FaultReplies) where
  -- one piece after the octets that were fed
  fed_on : (octets piece : List ℕ) (w u v : S) (a b : List ℕ) (before session : Option (List ℕ))
      → FeedsSession does reply_to octets w a u before
      → FeedsPiece does reply_to before u piece b v session
      → FeedsSession does reply_to (octets ++ piece) w (a ++ b) v session
  fed_on octets piece w u v a b (Some held) (Some rest) first more = (
    answered_on does reply_to octets piece w u v a b false held rest
        (answered_run does reply_to octets w a u false held first.0) more.0,
    more.1,
  )
  fed_on octets piece w u v a b (Some held) None first more =
      stopped_on does reply_to octets piece w u v a b held (answered_run does reply_to octets w a u
      false held first.0) more
  fed_on octets piece w u v a b None session first more =
      let closed = stopped_more does reply_to octets piece w u a first in
      subst (λ o. FeedsSession does reply_to (octets ++ piece) w (a ++ b) v o) (sym more.2)
      (subst (λ s. FeedsSession does reply_to (octets ++ piece) w (a ++ b) s None) more.1
      (subst (λ t. FeedsSession does reply_to (octets ++ piece) w t u None) (sym (append-nil a)
      ∙ ap (λ t. a ++ t) (sym more.0)) closed))

  fed_all : (turns : List (List ℕ × List ℕ)) (octets : List ℕ) (start w v : S) (a : List ℕ)
      (before session : Option (List ℕ))
      → FeedsSession does reply_to octets start a w before
      → FeedsPieces does reply_to before w turns v session
      → FeedsSession does reply_to (octets ++ flat_map (λ (turn : List ℕ × List ℕ). turn.0) turns)
      start (a ++ flat_map (λ (turn : List ℕ × List ℕ). turn.1) turns) v session
  unfolding FeedsPieces
  fed_all [] octets start w v a before session fed takes =
      subst (λ o. FeedsSession does reply_to (octets ++ []) start (a ++ []) v o) takes.0
      (subst (λ s. FeedsSession does reply_to (octets ++ []) start (a ++ []) s before) takes.1
      (subst (λ t. FeedsSession does reply_to t start (a ++ []) w before) (sym (append-nil octets))
      (subst (λ t. FeedsSession does reply_to octets start t w before) (sym (append-nil a)) fed)))
  fed_all (turn ∷ turns) octets start w v a before session fed takes =
      let step = fed_on octets turn.0 start w takes.1 a turn.1 before takes.0 fed takes.2 in
      let all = fed_all turns (octets ++ turn.0) start takes.1 v (a ++ turn.1) takes.0 session step
      takes.3 in
      let pieces : List ℕ = flat_map (λ (turn : List ℕ × List ℕ). turn.0) turns in
      let replies : List ℕ = flat_map (λ (turn : List ℕ × List ℕ). turn.1) turns in
      subst (λ t. FeedsSession does reply_to t start (a ++ (turn.1 ++ replies)) v session)
      (append_assoc octets turn.0 pieces)
      (subst (λ t. FeedsSession does reply_to ((octets ++ turn.0) ++ pieces) start t v session)
      (append_assoc a turn.1 replies) all)

  pub pieces_are_fed : PiecesAreFedAsOne does reply_to
  pieces_are_fed turns old new session takes =
      fed_all turns [] old old new [] (Some []) session (
        run_answered does reply_to [] old [] old false [] (run_none does reply_to [] old)
            (λ _. none_at_first),
        inl (λ e. cc e, omega arith),
      ) takes

  -- ---- whichever way octets were cut

  -- what an open session holds isn't refused
  rest_stays_open : (rest reply : List ℕ) → IsPartialRequest rest
      → RefusesHead does reply_to rest reply → ⊥
  rest_stays_open rest reply (inl going) refused =
      elim refused.0 [
        | inl ended ↦ going.0 ended
        | inr long ↦ absurd (omega (arith, going.1, long))
      ]
  rest_stays_open rest reply (inr good) refused =
      refused.1 [] good.0 good.1 (subst (λ t. StartsWithHead t good.0 good.1)
      (sym (append-nil rest)) good.2)

  open_or_ended : (octets : List ℕ) (w v u : S) (a b : List ℕ) (rest : List ℕ)
      → HandlesAllRequests does reply_to octets w a v false rest → IsPartialRequest rest
      → EndsSession does reply_to octets w b u → ⊥
  open_or_ended octets w v u a b rest all is_rest stop =
      let same = determined octets all.requests stop.answered.requests false stop.ended rest
      stop.rest all.requests_are stop.answered.requests_are in
      elim stop.why [
        | inl over ↦ cc (same.1, over.0)
        | inr refused ↦ rest_stays_open rest stop.last is_rest
            (subst (λ t. RefusesHead does reply_to t stop.last) (sym same.2) refused.1)
      ]

  open_or_stopped : ScreensNothing does reply_to
      → (octets : List ℕ) (w v u : S) (a b : List ℕ) (rest : List ℕ)
      → HandlesAllRequests does reply_to octets w a v false rest → IsPartialRequest rest
      → ClosesSession does reply_to octets w b u → ⊥
  open_or_stopped nothing octets w v u a b rest all is_rest (inl stop) =
      open_or_ended octets w v u a b rest all is_rest stop
  open_or_stopped nothing octets w v u a b rest all is_rest (inr stop) =
      absurd (let none = nothing u stop.head in cc (none, stop.screened_for))

  pub cuts_agree : CutsMakeNoDifference does reply_to
  cuts_agree nothing octets w v u a b (Some rest) (Some left) first second =
      ap Some (determined octets first.0.requests second.0.requests false false rest left
      first.0.requests_are second.0.requests_are).2
  cuts_agree nothing octets w v u a b (Some rest) None first second =
      absurd (open_or_stopped nothing octets w v u a b rest first.0 first.1 second)
  cuts_agree nothing octets w v u a b None (Some left) first second =
      absurd (open_or_stopped nothing octets w u v b a left second.0 second.1 first)
  cuts_agree nothing octets w v u a b None None first second = refl
