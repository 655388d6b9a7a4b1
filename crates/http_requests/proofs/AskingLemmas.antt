-- A handler is asked whether it refuses a head as soon as the head is whole.
use Rattle.std.proofs.Common.{◌≡◌, ◌∙◌, ◌⊎◌, ℕ, List, [], ◌++◌, None, inl, inr, take, drop, refl}
use Rattle.std.proofs.Common.{sym, ap, subst, append_assoc}
use Rattle.std.proofs.lemmas.List.{append-nil, take-append-drop}
use Rattle.httparse.specs.Grammar.{RequestHead, print_request}
use Rattle.httparse.proofs.GrammarLemmas.{request_unique}
use Rattle.http_requests.specs.HandlerRuns.{HandlerRelation, screened}
use Rattle.http_requests.specs.HeadEnds.{head_state_after}
use Rattle.http_requests.specs.Requests.{StartsWithHead}
use Rattle.http_requests.specs.SessionFeeding.{AdmitsHead, AsksAtOnce, HeldWholeHead}
use Rattle.http_requests.specs.declared.head_state.HeadState.TheVariants.{Blank, Ended}
use Rattle.http_requests.specs.declared.progress.Stage.{Stage}
use Rattle.http_requests.specs.declared.progress.Stage.TheVariants as stage
use Rattle.http_requests.specs.internal.Progress.{AwaitsBody, IsClosed, MatchesStage, open_octets}
use Rattle.http_requests.proofs.EndLemmas.{none_ended, whole_more}
use Rattle.http_requests.proofs.RunLemmas.{begins_on}

-- octets that start with a head start with no other
same_start : (octets : List ℕ) (one other : RequestHead) (rest left : List ℕ)
    → StartsWithHead octets one rest → StartsWithHead octets other left → one ≡ other
same_start octets one other rest left a b = (request_unique octets one other rest left a.0 b.0).0

module _ {S : Type 0} (does : HandlerRelation S) where
  pub admits : (now : S) (octets : List ℕ) (head : RequestHead) (rest : List ℕ)
      → StartsWithHead octets head rest → screened does now head ≡ None → AdmitsHead does now octets
  admits now octets head rest begins admitted other left at =
      subst (λ (h : RequestHead). screened does now h ≡ None) (same_start octets head other rest
      left begins at) admitted

  -- more octets of the body leave the head as it is
  admits_more : (now : S) (held more : List ℕ) (at : Stage) → MatchesStage held at → AwaitsBody at
      → AdmitsHead does now held → AdmitsHead does now (held ++ more)
  admits_more now held more (stage.Head state) is awaits admitted = absurd awaits
  admits_more now held more (stage.Body start end) is awaits admitted =
      let has = is.holds.has_head in
      admits now (held ++ more) has.whole_head (is.holds.body ++ more)
      (begins_on held more has.whole_head is.holds.body has.begins)
      (admitted has.whole_head is.holds.body has.begins)
  admits_more now held more stage.Closed is awaits admitted = absurd awaits

  -- ---- piece by piece, up to `rest` of the piece

  abbrev pub AskedSoFar : List ℕ → Stage → List ℕ → S → List ℕ → Stage → List ℕ → Type 0
  AskedSoFar before was piece now held at rest = AwaitsBody at → AdmitsHead does now held
      ⊎ ((held ++ rest ≡ before ++ piece) × AwaitsBody was)

  pub asked_start : (now : S) (held piece : List ℕ) (at : Stage)
      → AskedSoFar held at piece now held at piece
  asked_start now held piece at awaits = inr (refl, awaits)

  pub asked_step : (before : List ℕ) (was : Stage) (piece : List ℕ) (old new : S) (held now :
      List ℕ) (at to : Stage) (rest : List ℕ) (n : ℕ) (left : List ℕ) → MatchesStage held at
      → left ≡ drop n rest
      → AskedSoFar before was piece old held at rest
      → (AwaitsBody to → AdmitsHead does new now ⊎ ((new ≡ old) × (now ≡ held ++ take n rest)
      × AwaitsBody at))
      → AskedSoFar before was piece new now to left
  asked_step before was piece old new held now at to rest n left is left_is far step awaits =
      elim (step awaits) [
        | inl admitted ↦ inl admitted
        | inr (same, grown, within) ↦ elim (far within) [
          | inl admitted ↦ inl (subst (λ (t : List ℕ). AdmitsHead does new t) (sym grown)
              (subst (λ (s : S). AdmitsHead does s (held ++ take n rest)) (sym same)
              (admits_more old held (take n rest) at is within admitted)))
          | inr (whole, began) ↦ inr (
            ap (λ (t : List ℕ). now ++ t) left_is ∙ ap (λ (t : List ℕ). t ++ drop n rest) grown
                ∙ append_assoc held (take n rest) (drop n rest)
                ∙ ap (λ (t : List ℕ). held ++ t) (take-append-drop n rest) ∙ whole,
            began,
          )
        ]
      ]

  -- what a session that awaits a body held was a whole head
  was_whole : (held : List ℕ) (at : Stage) → MatchesStage held at → AwaitsBody at
      → head_state_after Blank held ≡ Ended
  was_whole held (stage.Head state) is awaits = absurd awaits
  was_whole held (stage.Body start end) is awaits =
      let has = is.holds.has_head in
      ap (head_state_after Blank) has.begins.0.1
      ∙ whole_more (print_request has.whole_head) is.holds.body has.ends.ended
  was_whole held stage.Closed is awaits = absurd awaits

  asked_before : (before piece held : List ℕ) (was : Stage) → MatchesStage before was
      → AwaitsBody was → held ≡ before ++ piece → HeldWholeHead (open_octets before was) piece held
  asked_before before piece held (stage.Head state) is awaits grown = absurd awaits
  asked_before before piece held (stage.Body start end) is awaits grown =
      (grown, was_whole before (stage.Body start end) is awaits)
  asked_before before piece held stage.Closed is awaits grown = absurd awaits

  pub asked_end : (before : List ℕ) (was : Stage) (piece : List ℕ) (now : S) (held : List ℕ) (at :
      Stage) (rest : List ℕ) → MatchesStage before was → MatchesStage held at → rest ≡ []
      → AskedSoFar before was piece now held at rest
      → AsksAtOnce does (open_octets before was) piece now (open_octets held at)
  asked_end before was piece now held (stage.Head state) rest began is none far =
      inl (λ head left begins. absurd (none_ended held (λ e. is.not_ended (is.state_is ∙ e)) head
      left begins))
  asked_end before was piece now held (stage.Body start end) rest began is none far =
      elim (far tt) [
        | inl admitted ↦ inl admitted
        | inr (grown, awaits) ↦ inr (asked_before before piece held was began awaits
            (sym (append-nil held) ∙ ap (λ (t : List ℕ). held ++ t) (sym none) ∙ grown))
      ]
  asked_end before was piece now held stage.Closed rest began is none far = tt

  -- a closed session asks nothing
  pub asks_nothing : (before piece held : List ℕ) (was at : Stage) (now : S) → IsClosed at
      → AsksAtOnce does (open_octets before was) piece now (open_octets held at)
  asks_nothing before piece held was (stage.Head state) now is = absurd is
  asks_nothing before piece held was (stage.Body start end) now is = absurd is
  asks_nothing before piece held was stage.Closed now is = tt
