-- However octets are cut, the same requests run.
use Rattle.std.proofs.Common.{◌≡◌, ◌⊎◌, ℕ, Bool, true, false, List, [], ◌++◌, refl, sym, subst, inl}
use Rattle.std.proofs.Common.{inr, Option, Some, None}
use Rattle.std.specs.List.{flat_map}
use Rattle.std.proofs.lemmas.List.{append-nil}
use Rattle.book_service.specs.Runs.{SystemState}
use Rattle.http_replies.specs.Replies.{head_fault_octets}
use Rattle.http_requests.specs.SessionFeeding.{FeedsSession, HandlesAllRequests, RefusesHead}
use Rattle.http_requests.specs.Requests.{Request}
use Rattle.http_requests.proofs.PieceLemmas.{cuts_agree, pieces_are_fed}
use Rattle.http_requests.proofs.CutLemmas.{determined}
use Rattle.book_http.specs.OctetRuns.{RunsRequests}
use Rattle.book_http.specs.OctetPromise.{CutsRunAlike, RanAlike, ServiceStep, StartsAt}
use Rattle.book_http.proofs.OctetRunLemmas.{requests_run}
use Rattle.book_http.proofs.OneRunLemmas.{AreReadInOneWay, ran_once}
use Rattle.sync_core.specs.StoreModels.{StoreModel}

module _ {S : Type 0} (model : StoreModel S) (law : AreReadInOneWay) where
  abbrev Refused : List ℕ → List ℕ → Type 0
  Refused rest last = RefusesHead (ServiceStep model) head_fault_octets rest last

  -- the octets after the replies to all requests
  abbrev HasEnd : Bool → List ℕ → List ℕ → Type 0
  HasEnd ended rest last = ((ended ≡ true) × (last ≡ [])) ⊎ ((ended ≡ false) × Refused rest last)

  abbrev EndAlike : List ℕ → List ℕ → List ℕ → Type 0
  EndAlike rest last other = ((last ≡ []) × (other ≡ [])) ⊎ (Refused rest last × Refused rest other)

  end_alike : (ended : Bool) (rest last other : List ℕ) → HasEnd ended rest last
      → HasEnd ended rest other → EndAlike rest last other
  end_alike ended rest last other (inl a) (inl b) = inl (a.1, b.1)
  end_alike ended rest last other (inl a) (inr b) = absurd (cc (a.0, b.0))
  end_alike ended rest last other (inr a) (inl b) = absurd (cc (a.0, b.0))
  end_alike ended rest last other (inr a) (inr b) = inr (a.1, b.1)

  module _ (now : SystemState) (octets replies others : List ℕ) (old new other : S) where
    abbrev All : S → List ℕ → Bool → List ℕ → Type 0
    All end run_replies ended rest = HandlesAllRequests (ServiceStep model) head_fault_octets octets
        old run_replies end ended rest

    ran_alike : StartsAt model now old new → StartsAt model now old other
        → (run_replies run_replies_too last last_too : List ℕ) (ended ended_too : Bool)
        (rest rest_too : List ℕ)
        → All new run_replies ended rest → All other run_replies_too ended_too rest_too
        → replies ≡ run_replies ++ last → others ≡ run_replies_too ++ last_too
        → (ended_too ≡ ended → rest_too ≡ rest → EndAlike rest last last_too)
        → RanAlike model now octets replies others (model.books new) (model.books other)
    ran_alike starts starts_too run_replies run_replies_too last last_too ended ended_too rest
        rest_too one two is is_too ends =
        let same = determined octets two.requests one.requests ended_too ended rest_too rest
        two.requests_are one.requests_are in
        let ran : RunsRequests now one.requests run_replies (model.books new) =
        requests_run model now old new one.requests run_replies starts one.handles in
        let ran_too : RunsRequests now one.requests run_replies_too (model.books other) =
        subst (λ (rs : List Request). RunsRequests now rs run_replies_too (model.books other))
        same.0
        (requests_run model now old other two.requests run_replies_too starts_too two.handles) in
        record {
          requests = one.requests;
          ended = ended;
          rest = rest;
          requests_are = one.requests_are;
          run_replies = run_replies;
          ran = ran;
          other_run_replies = run_replies_too;
          other_ran = ran_too;
          alike = ran_once law now one.requests run_replies run_replies_too (model.books new)
              (model.books other) ran ran_too;
          last = last;
          replies_are = is;
          other_last = last_too;
          others_are = is_too;
          lasts = ends same.1 same.2;
        }

    fed_alike : StartsAt model now old new → StartsAt model now old other
        → (session left : Option (List ℕ)) → session ≡ left
        → FeedsSession (ServiceStep model) head_fault_octets octets old replies new session
        → FeedsSession (ServiceStep model) head_fault_octets octets old others other left
        → RanAlike model now octets replies others (model.books new) (model.books other)
    fed_alike starts starts_too (Some rest) (Some left) same fed fed_too =
        ran_alike starts starts_too replies others [] [] false false rest left fed.0 fed_too.0
        (sym (append-nil replies)) (sym (append-nil others))
        (λ _ _. inl (refl, refl))
    fed_alike starts starts_too (Some rest) None same fed fed_too = absurd (cc same)
    fed_alike starts starts_too None (Some left) same fed fed_too = absurd (cc same)
    fed_alike starts starts_too None None same (inr stop) stop_too = absurd (cc stop.screened_for)
    fed_alike starts starts_too None None same (inl stop) (inr stop_too) =
        absurd (cc stop_too.screened_for)
    fed_alike starts starts_too None None same (inl stop) (inl stop_too) =
        ran_alike starts starts_too stop.answers stop_too.answers stop.last stop_too.last stop.ended
        stop_too.ended stop.rest stop_too.rest
        stop.answered stop_too.answered stop.replies_are stop_too.replies_are
        (λ (ended : stop_too.ended ≡ stop.ended) (rest : stop_too.rest ≡ stop.rest).
        end_alike stop.ended stop.rest stop.last stop_too.last stop.why
        (subst (λ (b : Bool). HasEnd b stop.rest stop_too.last) ended
        (subst (λ (r : List ℕ). HasEnd stop_too.ended r stop_too.last) rest stop_too.why)))

  abbrev pieces : List (List ℕ × List ℕ) → List ℕ
  pieces turns = flat_map (λ (turn : List ℕ × List ℕ). turn.0) turns

  abbrev answers : List (List ℕ × List ℕ) → List ℕ
  answers turns = flat_map (λ (turn : List ℕ × List ℕ). turn.1) turns

  pub cuts_run_alike : CutsRunAlike model
  cuts_run_alike now old new other turns others session left starts starts_too takes takes_too
      same =
      let fed : FeedsSession (ServiceStep model) head_fault_octets (pieces turns) old
      (answers turns) new session =
      pieces_are_fed (ServiceStep model) head_fault_octets turns old new session takes in
      let fed_too : FeedsSession (ServiceStep model) head_fault_octets (pieces turns) old
      (answers others) other left =
      subst (λ t. FeedsSession (ServiceStep model) head_fault_octets t old (answers others) other
      left) (sym same)
      (pieces_are_fed (ServiceStep model) head_fault_octets others old other left takes_too) in
      let held : session ≡ left = cuts_agree (ServiceStep model) head_fault_octets
      (λ now head. refl) (pieces turns) old new other (answers turns) (answers others) session
      left fed fed_too in (
        held,
        fed_alike now (pieces turns) (answers turns) (answers others) old new other starts
            starts_too session left held fed fed_too,
      )
