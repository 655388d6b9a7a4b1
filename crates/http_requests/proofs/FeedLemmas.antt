-- A piece is consumed in steps.
use Rattle.std.proofs.Common.{◌≡◌, ◌∙◌, ◌+◌, ℕ, List, [], ◌∷◌, ◌++◌, length, refl, sym, ap, subst}
use Rattle.std.proofs.Common.{append_assoc, false, inl, inr, arith, take, drop, length-append}
use Rattle.std.proofs.Common.{length-drop, ◌-◌, Some, None}
use Rattle.std.proofs.lemmas.List.{append-nil, take-append-drop, take_all}
use Rattle.httparse.specs.Grammar.{print_request}
use Rattle.httparse.proofs.GrammarLemmas.{request_unique}
use Rattle.http_requests.specs.Fields.{body_length}
use Rattle.http_requests.specs.Requests.{HasNoRequest}
use Rattle.http_requests.proofs.EndLemmas.{none_ended}
use Rattle.http_requests.specs.declared.head_state.HeadState.{HeadState}
use Rattle.http_requests.specs.declared.progress.Progress.{Progress}
use Rattle.http_requests.specs.declared.progress.Stage.{Stage}
use Rattle.http_requests.specs.declared.progress.Stage.TheVariants as stage
use Rattle.http_requests.specs.HandlerRuns.{HandlerRelation, FaultReplies, HandlesPrefix}
use Rattle.http_requests.specs.SessionFeeding.{IsPartialRequest, ClosesSession, HandlesSomePrefix}
use Rattle.http_requests.specs.SessionFeeding.{FeedsPiece, FeedsPieceInPart}
use Rattle.http_requests.specs.internal.Progress.{MatchesStage, IsOpen, IsClosed, IsPartialHead}
use Rattle.http_requests.specs.internal.Progress.{IsPartialBody, StaysOpen, BecomesClosed}
use Rattle.http_requests.specs.internal.Progress.{open_octets}
use Rattle.http_requests.proofs.RunLemmas.{run_none, run_on, run_answered, stopped_on, stopped_more}
use Rattle.http_requests.proofs.RunLemmas.{part_on}

-- ---- open and closed

pub open_is : (held : List ℕ) (at : Stage) → IsOpen at → open_octets held at ≡ Some held
open_is held (stage.Head state) is = refl
open_is held (stage.Body start end) is = refl
open_is held stage.Closed is = absurd (is tt)

pub closed_is : (held : List ℕ) (at : Stage) → IsClosed at → open_octets held at ≡ None
closed_is held (stage.Head state) is = absurd is
closed_is held (stage.Body start end) is = absurd is
closed_is held stage.Closed is = refl

pub closed_holds : (held : List ℕ) (at : Stage) → IsClosed at → MatchesStage held at
closed_holds held (stage.Head state) is = absurd is
closed_holds held (stage.Body start end) is = absurd is
closed_holds held stage.Closed is = tt

-- ---- what an open session holds begins with no whole request

beginning_none : (held : List ℕ) (state : HeadState) → IsPartialHead held state → HasNoRequest held
beginning_none held state is r rest b = none_ended held (λ e. is.not_ended (is.state_is ∙ e)) r.head
    (r.body ++ rest) b.0

waiting_none : (held : List ℕ) (start end : ℕ) → IsPartialBody held start end → HasNoRequest held
waiting_none held start end is r rest b =
    let body = is.holds.body in
    let has = is.holds.has_head in
    let h = has.whole_head in
    let same = request_unique held r.head h (r.body ++ rest) body b.0.0 has.begins.0 in
    let held_long : length held ≡ length (print_request h) + length body = ap length has.begins.0.1
    ∙ length-append (print_request h) body in
    let body_long : length r.body + length rest ≡ length body = sym (length-append r.body rest)
    ∙ ap length same.1 in
    let size : length r.body ≡ body_length h = b.1 ∙ ap body_length same.0 in
    absurd (omega (arith, held_long, body_long, size, is.not_whole, has.start_is, is.holds.end_is))

holds_none : (held : List ℕ) (at : Stage) → MatchesStage held at → IsOpen at → HasNoRequest held
holds_none held (stage.Head state) is open_ = beginning_none held state is
holds_none held (stage.Body start end) is open_ = waiting_none held start end is
holds_none held stage.Closed is open_ = absurd (open_ tt)

holds_rest : (held : List ℕ) (at : Stage) → MatchesStage held at → IsOpen at → IsPartialRequest held
holds_rest held (stage.Head state) is open_ = inl (λ e. is.not_ended (is.state_is ∙ e), is.short)
holds_rest held (stage.Body start end) is open_ = inr (
  is.holds.has_head.whole_head,
  is.holds.body,
  is.holds.has_head.begins,
  is.holds.has_head.good,
)
holds_rest held stage.Closed is open_ = absurd (open_ tt)

-- ---- the rest as the code cuts it

pub cut_rest : (rest : List ℕ) (n : ℕ) → take (length rest - n) (drop n rest) ≡ drop n rest
cut_rest rest n = take_all (length rest - n) (drop n rest) (omega (arith, length-drop n rest))

pub empty_rest : (rest : List ℕ) → length rest ≡ 0 → rest ≡ []
empty_rest [] e = refl
empty_rest (x ∷ xs) e = absurd (omega arith)

module _ {S : Type 0} (does : HandlerRelation S) (reply_to : FaultReplies) where
  -- the piece up to the rest was consumed
  pub record SoFar (held piece : List ℕ) (w : S) (out : List ℕ) (v : S) (now rest : List ℕ) :
      Type 0 where
    pub used : List ℕ
    pub is : piece ≡ used ++ rest
    pub runs : HandlesPrefix does reply_to (held ++ used) w out v false now

  pub so_far_start : (held piece : List ℕ) (w : S) (out : List ℕ) → out ≡ []
      → SoFar held piece w out w held piece
  so_far_start held piece w out none = record {
    used = [];
    is = refl;
    runs = subst (λ t. HandlesPrefix does reply_to t w out w false held) (sym (append-nil held))
        (subst (λ t. HandlesPrefix does reply_to held w t w false held) (sym none)
        (run_none does reply_to held w));
  }

  so_far_step : (held piece : List ℕ) (w : S) (out : List ℕ) (u : S) (now rest : List ℕ) (n : ℕ)
      (more : List ℕ) (v : S) (new : Progress)
      → SoFar held piece w out u now rest → StaysOpen does reply_to (now ++ take n rest) u out more
      v new → SoFar held piece w more v new.held.items (drop n rest)
  so_far_step held piece w out u now rest n more v new far step =
      let ran = run_on does reply_to (held ++ far.used) (take n rest) w u v out step.added false now
      new.held.items far.runs step.runs in
      record {
        used = far.used ++ take n rest;
        is = far.is ∙ ap (λ t. far.used ++ t) (sym (take-append-drop n rest))
            ∙ sym (append_assoc far.used (take n rest) (drop n rest));
        runs = subst (λ t. HandlesPrefix does reply_to (held ++ (far.used ++ take n rest)) w t v
            false new.held.items) (sym step.out_is)
            (subst (λ t. HandlesPrefix does reply_to t w (out ++ step.added) v false new.held.items)
            (append_assoc held far.used (take n rest)) ran);
      }

  pub so_far_cut : (held piece : List ℕ) (w : S) (out : List ℕ) (u : S) (now rest : List ℕ) (n : ℕ)
      (more : List ℕ) (v : S) (new : Progress)
      → SoFar held piece w out u now rest → StaysOpen does reply_to (now ++ take n rest) u out more
      v new → SoFar held piece w more v new.held.items (take (length rest - n) (drop n rest))
  so_far_cut held piece w out u now rest n more v new far step =
      subst (λ t. SoFar held piece w more v new.held.items t) (sym (cut_rest rest n))
      (so_far_step held piece w out u now rest n more v new far step)

  -- ---- the consumed piece, as contracts see it

  -- a closed session ignores the piece
  pub takes_nothing : (held piece : List ℕ) (at : Stage) (w : S) (out : List ℕ) → IsClosed at
      → out ≡ [] → FeedsPiece does reply_to (open_octets held at) w piece out w
      (open_octets held at)
  takes_nothing held piece (stage.Head state) w out is none = absurd is
  takes_nothing held piece (stage.Body start end) w out is none = absurd is
  takes_nothing held piece stage.Closed w out is none = (none, refl, refl)

  pub takes_stop : (held piece : List ℕ) (at : Stage) (w : S) (out : List ℕ) (u : S) (now rest :
      List ℕ) (n : ℕ) (more : List ℕ) (v : S) (new : Progress) → IsOpen at
      → SoFar held piece w out u now rest → BecomesClosed does reply_to (now ++ take n rest) u out
      more v new → FeedsPiece does reply_to (open_octets held at) w piece more v
      (open_octets new.held.items new.stage)
  takes_stop held piece at w out u now rest n more v new is_open far step =
      let stopped = stopped_on does reply_to (held ++ far.used) (take n rest) w u v out step.added
      now far.runs step.stopped in
      let further = stopped_more does reply_to ((held ++ far.used) ++ take n rest) (drop n rest) w v
      (out ++ step.added) stopped in
      let whole : ((held ++ far.used) ++ take n rest) ++ drop n rest ≡ held ++ piece =
      append_assoc (held ++ far.used) (take n rest) (drop n rest)
      ∙ ap (λ t. (held ++ far.used) ++ t) (take-append-drop n rest)
      ∙ append_assoc held far.used rest ∙ ap (λ t. held ++ t) (sym far.is) in
      let said : ClosesSession does reply_to (held ++ piece) w more v =
      subst (λ t. ClosesSession does reply_to (held ++ piece) w t v) (sym step.out_is)
      (subst (λ t. ClosesSession does reply_to t w (out ++ step.added) v) whole further) in
      subst (λ o. FeedsPiece does reply_to o w piece more v (open_octets new.held.items new.stage))
      (sym (open_is held at is_open))
      (subst (λ o. FeedsPiece does reply_to (Some held) w piece more v o)
      (sym (closed_is new.held.items new.stage step.is_closed)) said)

  pub takes_all : (held piece : List ℕ) (at : Stage) (w : S) (out : List ℕ) (v : S) (now : Progress)
      (rest : List ℕ) → IsOpen at → MatchesStage now.held.items now.stage → IsOpen now.stage
      → SoFar held piece w out v now.held.items rest → rest ≡ []
      → FeedsPiece does reply_to (open_octets held at) w piece out v (open_octets now.held.items
      now.stage)
  takes_all held piece at w out v now rest is_open holds still far none =
      let run : HandlesPrefix does reply_to (held ++ piece) w out v false now.held.items =
      subst (λ t. HandlesPrefix does reply_to (held ++ t) w out v false now.held.items)
      (sym (far.is ∙ ap (λ t. far.used ++ t) none ∙ append-nil far.used)) far.runs in
      let all = run_answered does reply_to (held ++ piece) w out v false now.held.items run
      (λ _. holds_none now.held.items now.stage holds still) in
      subst (λ o. FeedsPiece does reply_to o w piece out v (open_octets now.held.items now.stage))
      (sym (open_is held at is_open))
      (subst (λ o. FeedsPiece does reply_to (Some held) w piece out v o)
      (sym (open_is now.held.items now.stage still)) (
        all,
        holds_rest now.held.items now.stage
            holds still,
      ))

  pub loses_part : (held piece : List ℕ) (at : Stage) (w : S) (out : List ℕ) (u : S) (now rest :
      List ℕ) (v : S) → IsOpen at
      → SoFar held piece w out u now rest → HandlesSomePrefix does reply_to (now ++ rest) u v
      → FeedsPieceInPart does reply_to (open_octets held at) w piece v
  loses_part held piece at w out u now rest v is_open far part =
      subst (λ o. FeedsPieceInPart does reply_to o w piece v) (sym (open_is held at is_open))
      (subst (λ t. HandlesSomePrefix does reply_to t w v) (append_assoc held far.used rest
      ∙ ap (λ t. held ++ t) (sym far.is))
      (part_on does reply_to (held ++ far.used) rest w u v out now far.runs part))
