-- Pieces of one connection in turn, within some of which the memory may run out.
use Rattle.std.proofs.Common.{◌≡◌, ◌⊎◌, ℕ, List, [], ◌∷◌, ◌++◌, Option, Some, None, refl, sym}
use Rattle.std.proofs.Common.{subst, append_assoc, inl, inr, false}
use Rattle.std.proofs.lemmas.List.{append-nil}
use Rattle.http_requests.specs.HandlerRuns.{HandlerRelation, FaultReplies, HandlesPrefix}
use Rattle.http_requests.specs.SessionFeeding.{FeedsPiece, FeedsPieces, FeedsSession}
use Rattle.http_requests.proofs.PieceLemmas.{pieces_are_fed}
use Rattle.http_requests.proofs.RunLemmas.{answered_run, run_more, run_on}
use Rattle.http_hub.specs.FedPieces.{FeedsAlone, FeedsOrFails, HasFailure, LosesReplies}
use Rattle.http_hub.specs.FedPieces.{given_replies, octets_in, replies_in}

module _ {S : Type 0} (does : HandlerRelation S) (fault_reply : FaultReplies) where
  unfoldable pub FeedsEach : Option (List ℕ) → S → List (List ℕ × Option (List ℕ)) → S
      → Option (List ℕ) → Type 0
  FeedsEach before old [] new session = (before ≡ session) × (old ≡ new)
  FeedsEach before old (piece ∷ pieces) new session =
      (between : Option (List ℕ)) × (middle : S) × FeedsOrFails does fault_reply before old piece.0
      piece.1 middle between × FeedsEach between middle pieces new session

  -- one piece after the octets that were fed
  fed_on : (octets piece : List ℕ) (w u v : S) (a b : List ℕ) (before session : Option (List ℕ))
      → FeedsSession does fault_reply octets w a u before
      → FeedsPiece does fault_reply before u piece b v session
      → FeedsSession does fault_reply (octets ++ piece) w (a ++ b) v session
  unfolding FeedsPieces
  fed_on octets piece w u v a b before session first more =
      subst (λ t. FeedsSession does fault_reply (octets ++ t) w (a ++ b) v session)
      (append-nil piece)
      (subst (λ t. FeedsSession does fault_reply (octets ++ (piece ++ [])) w (a ++ t) v session)
      (append-nil b)
      (pieces_are_fed does fault_reply ((octets, a) ∷ (piece, b) ∷ []) w v session (
        before,
        u,
        first,
        (session, v, more, (refl, refl)),
      )))

  -- ---- after the memory ran out

  ignored : (octets piece : List ℕ) (start w v : S) (a : List ℕ) (between : Option (List ℕ))
      → LosesReplies does fault_reply octets start a w None → w ≡ v → between ≡ None
      → LosesReplies does fault_reply (octets ++ piece) start (a ++ []) v between
  ignored octets piece start w v a between loses same closed = record {
    lost = loses.lost;
    ended = loses.ended;
    rest = loses.rest ++ piece;
    runs = subst (λ s. HandlesPrefix does fault_reply (octets ++ piece) start ((a ++ [])
        ++ loses.lost) s loses.ended (loses.rest ++ piece)) same
        (subst (λ t. HandlesPrefix does fault_reply (octets ++ piece) start (t ++ loses.lost) w
        loses.ended (loses.rest ++ piece)) (sym (append-nil a))
        (run_more does fault_reply octets piece start w (a ++ loses.lost) loses.ended loses.rest
        loses.runs));
    session_closed = closed;
  }

  loses_on : (octets piece : List ℕ) (start w v : S) (a : List ℕ) (replies between :
      Option (List ℕ))
      → LosesReplies does fault_reply octets start a w None
      → FeedsOrFails does fault_reply None w piece replies v between
      → LosesReplies does fault_reply (octets ++ piece) start (a ++ given_replies replies) v between
  loses_on octets piece start w v a (Some b) between loses fed =
      subst (λ t. LosesReplies does fault_reply (octets ++ piece) start (a ++ t) v between)
      (sym fed.0) (ignored octets piece start w v a between loses fed.1 fed.2)
  loses_on octets piece start w v a None between loses fed =
      ignored octets piece start w v a between loses fed.0 fed.1

  loses_all : (pieces : List (List ℕ × Option (List ℕ))) (octets : List ℕ) (start w v : S) (a :
      List ℕ) (before session : Option (List ℕ))
      → LosesReplies does fault_reply octets start a w before → FeedsEach before w pieces v session
      → LosesReplies does fault_reply (octets ++ octets_in pieces) start (a ++ replies_in pieces) v
      session
  unfolding FeedsEach
  loses_all [] octets start w v a before session loses takes =
      subst (λ o. LosesReplies does fault_reply (octets ++ []) start (a ++ []) v o) takes.0
      (subst (λ s. LosesReplies does fault_reply (octets ++ []) start (a ++ []) s before) takes.1
      (subst (λ t. LosesReplies does fault_reply t start (a ++ []) w before)
      (sym (append-nil octets))
      (subst (λ t. LosesReplies does fault_reply octets start t w before) (sym (append-nil a))
      loses)))
  loses_all (piece ∷ pieces) octets start w v a before session loses (between, middle, fed, rest) =
      let loses_none = subst (λ o. LosesReplies does fault_reply octets start a w o)
      loses.session_closed loses in
      let fed_none = subst (λ o. FeedsOrFails does fault_reply o w piece.0 piece.1 middle between)
      loses.session_closed fed in
      let all = loses_all pieces (octets ++ piece.0) start middle v (a ++ given_replies piece.1)
      between session
      (loses_on octets piece.0 start w middle a piece.1 between loses_none fed_none) rest in
      subst (λ t. LosesReplies does fault_reply t start
      (a ++ (given_replies piece.1 ++ replies_in pieces)) v session)
      (append_assoc octets piece.0 (octets_in pieces))
      (subst (λ t. LosesReplies does fault_reply ((octets ++ piece.0) ++ octets_in pieces) start t v
      session) (append_assoc a (given_replies piece.1) (replies_in pieces)) all)

  -- ---- all pieces

  abbrev FeedsFrom : List ℕ → S → List ℕ → List (List ℕ × Option (List ℕ)) → S → Option (List ℕ)
      → Type 0
  FeedsFrom octets start a pieces v session =
      FeedsSession does fault_reply (octets ++ octets_in pieces) start (a ++ replies_in pieces) v
      session
      ⊎ (HasFailure pieces × LosesReplies does fault_reply (octets ++ octets_in pieces) start
      (a ++ replies_in pieces) v session)

  more_from : (piece : List ℕ) (replies : Option (List ℕ)) (pieces :
      List (List ℕ × Option (List ℕ))) (octets : List ℕ) (start v : S) (a : List ℕ) (session :
      Option (List ℕ))
      → FeedsFrom (octets ++ piece) start (a ++ given_replies replies) pieces v session
      → FeedsFrom octets start a ((piece, replies) ∷ pieces) v session
  more_from piece replies pieces octets start v a session (inl fed) =
      inl (subst (λ t. FeedsSession does fault_reply t start
      (a ++ (given_replies replies ++ replies_in pieces)) v session) (append_assoc octets piece
      (octets_in pieces))
      (subst (λ t. FeedsSession does fault_reply ((octets ++ piece) ++ octets_in pieces) start t v
      session) (append_assoc a (given_replies replies) (replies_in pieces)) fed))
  more_from piece replies pieces octets start v a session (inr loses) =
      inr (
        inr loses.0,
        subst (λ t. LosesReplies does fault_reply t start
            (a ++ (given_replies replies ++ replies_in pieces)) v session)
            (append_assoc octets piece (octets_in pieces))
            (subst (λ t. LosesReplies does fault_reply ((octets ++ piece) ++ octets_in pieces) start
            t v session) (append_assoc a (given_replies replies) (replies_in pieces)) loses.1),
      )

  fed_from_there : (pieces : List (List ℕ × Option (List ℕ))) (octets : List ℕ) (start w v : S) (a :
      List ℕ) (before session : Option (List ℕ))
      → FeedsSession does fault_reply octets start a w before → FeedsEach before w pieces v session
      → FeedsFrom octets start a pieces v session
  unfolding FeedsEach
  fed_from_there [] octets start w v a before session fed takes =
      inl (subst (λ o. FeedsSession does fault_reply (octets ++ []) start (a ++ []) v o) takes.0
      (subst (λ s. FeedsSession does fault_reply (octets ++ []) start (a ++ []) s before) takes.1
      (subst (λ t. FeedsSession does fault_reply t start (a ++ []) w before)
      (sym (append-nil octets))
      (subst (λ t. FeedsSession does fault_reply octets start t w before) (sym (append-nil a))
      fed))))
  fed_from_there ((piece, Some b) ∷ pieces) octets start w v a before session fed (
    between,
    middle,
    took,
    rest,
  ) =
      more_from piece (Some b) pieces octets start v a session
      (fed_from_there pieces (octets ++ piece) start middle v (a ++ b) between session
      (fed_on octets piece start w middle a b before between fed took) rest)
  fed_from_there ((piece, None) ∷ pieces) octets start w v a None session fed (
    between,
    middle,
    took,
    rest,
  ) =
      more_from piece None pieces octets start v a session
      (fed_from_there pieces (octets ++ piece) start middle v (a ++ []) between session
      (fed_on octets piece start w middle a [] None between fed (refl, took.0, took.1)) rest)
  fed_from_there ((piece, None) ∷ pieces) octets start w v a (Some held) session fed (
    between,
    middle,
    took,
    rest,
  ) =
      let loses : LosesReplies does fault_reply (octets ++ piece) start (a ++ []) middle between =
      record {
        lost = took.0.replies;
        ended = took.0.ended;
        rest = took.0.rest;
        runs = subst (λ t. HandlesPrefix does fault_reply (octets ++ piece) start
            (t ++ took.0.replies) middle took.0.ended took.0.rest) (sym (append-nil a))
            (run_on does fault_reply octets piece start w middle a took.0.replies took.0.ended held
            took.0.rest
            (answered_run does fault_reply octets start a w false held fed.0) took.0.runs);
        session_closed = took.1;
      } in
      let all = loses_all pieces (octets ++ piece) start middle v (a ++ []) between session loses
      rest in
      inr (
        inl refl,
        subst (λ t. LosesReplies does fault_reply t start (a ++ replies_in pieces) v session)
            (append_assoc octets piece (octets_in pieces))
            (subst (λ t. LosesReplies does fault_reply ((octets ++ piece) ++ octets_in pieces) start
            t v session) (append_assoc a [] (replies_in pieces)) all),
      )

  pub fed_alone : (pieces : List (List ℕ × Option (List ℕ))) (old new : S) (session :
      Option (List ℕ)) → FeedsEach (Some []) old pieces new session
      → FeedsAlone does fault_reply pieces old new session
  unfolding FeedsPieces
  fed_alone pieces old new session takes =
      fed_from_there pieces [] old old new [] (Some []) session (pieces_are_fed does fault_reply []
      old old (Some []) (refl, refl)) takes
