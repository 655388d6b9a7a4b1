-- What a session does with the octets of a connection, however they are cut into pieces. A
-- session's value is the octets that it holds, or `None` once it is closed.
use Rattle.std.specs.Prelude.{◌≡◌, ◌≢◌, ◌<◌, ◌≤◌, ◌⊎◌, ℕ, Bool, true, false, List, [], ◌∷◌, ◌++◌}
use Rattle.std.specs.Prelude.{length, take, Option, Some, None, ⊤}
use Rattle.std.specs.List.{flat_map}
use Rattle.httparse.specs.Grammar.{MayBecomeRequest, RequestHead}
use Rattle.http_requests.specs.Fields.{fault_of_head}
use Rattle.http_requests.specs.ParsedHeads.{IsUnreadable}
use Rattle.http_requests.specs.HandlerRuns.{HandlerRelation, FaultReplies, HandlesRequests}
use Rattle.http_requests.specs.HandlerRuns.{HandlesPrefix, screened}
use Rattle.http_requests.specs.HeadEnds.{head_state_after}
use Rattle.http_requests.specs.Requests.{Request, AreAllRequests, NeverHasHead, StartsWithGoodHead}
use Rattle.http_requests.specs.Requests.{StartsWithHead, longest_head}
use Rattle.http_requests.specs.declared.head_fault.HeadFault.{HeadFault}
use Rattle.http_requests.specs.declared.head_fault.HeadFault.TheVariants.{BadHead, HeadTooLarge}
use Rattle.http_requests.specs.declared.head_state.HeadState.TheVariants.{Blank, Ended}

-- a head must have ended: there is an empty line, or as many octets as the longest head has
abbrev pub HeadMustHaveEnded : List ℕ → Type 0
HeadMustHaveEnded octets = (head_state_after Blank octets ≡ Ended) ⊎ (longest_head ≤ length octets)

-- there are as many octets as a head may have, and they may be the start of a longer one
abbrev pub HeadIsTooLong : List ℕ → Type 0
HeadIsTooLong octets =
    (longest_head ≤ length octets) × MayBecomeRequest (take longest_head octets)

-- what an open session holds: the start of a head, or a good head and part of its body
abbrev pub IsPartialRequest : List ℕ → Type 0
IsPartialRequest rest =
    ((head_state_after Blank rest ≢ Ended) × (length rest < longest_head)) ⊎ StartsWithGoodHead rest

-- the handler doesn't refuse the head that the octets start with, if they start with one
abbrev pub AdmitsHead : {State : Type 0} → HandlerRelation State → State → List ℕ → Type 0
AdmitsHead does now octets =
    (head : RequestHead) (rest : List ℕ) → StartsWithHead octets head rest
    → screened does now head ≡ None

-- a whole head, and all octets of the piece after it, are what the session held before and the piece
abbrev pub HeldWholeHead : Option (List ℕ) → List ℕ → List ℕ → Type 0
HeldWholeHead None piece held = ⊥
HeldWholeHead (Some before) piece held =
    (held ≡ before ++ piece) × (head_state_after Blank before ≡ Ended)

-- After a piece the handler doesn't refuse the head that a session holds, unless the session held it
-- whole before. So a head is refused with the piece in which it ends, before its body comes.
abbrev pub AsksAtOnce :
    {State : Type 0} → HandlerRelation State → Option (List ℕ) → List ℕ → State
    → Option (List ℕ) → Type 0
AsksAtOnce does before piece now None = ⊤
AsksAtOnce does before piece now (Some held) =
    AdmitsHead does now held ⊎ HeldWholeHead before piece held

module _ {State : Type 0} (does : HandlerRelation State) (fault_reply : FaultReplies) where
  -- all requests of the octets were handled in turn, and nothing else
  pub record HandlesAllRequests
      (octets : List ℕ) (old : State) (replies : List ℕ) (new : State)
      (ended : Bool) (rest : List ℕ) : Type 0 where
    pub requests : List Request
    pub requests_are : AreAllRequests octets requests ended rest
    pub handles : HandlesRequests does fault_reply old requests replies new

  -- a head must have ended in the octets, but whatever follows, they start with none; this is the
  -- reply to them
  abbrev pub RefusesHead : List ℕ → List ℕ → Type 0
  RefusesHead octets reply =
      HeadMustHaveEnded octets × NeverHasHead octets
      × (((reply ≡ fault_reply BadHead) × IsUnreadable octets)
      ⊎ ((reply ≡ fault_reply HeadTooLarge) × HeadIsTooLong octets))

  -- the list of requests has ended, or the octets after it were refused
  pub record EndsSession
      (octets : List ℕ) (old : State) (replies : List ℕ) (new : State) : Type 0 where
    pub answers : List ℕ
    pub last : List ℕ
    pub ended : Bool
    pub rest : List ℕ
    pub answered : HandlesAllRequests octets old answers new ended rest
    pub replies_are : replies ≡ answers ++ last
    pub why : ((ended ≡ true) × (last ≡ [])) ⊎ ((ended ≡ false) × RefusesHead rest last)

  -- some requests at the front of the octets were handled in turn; the handler refused the head
  -- after them, and nothing else was handled
  pub record ScreensHead
      (octets : List ℕ) (old : State) (replies : List ℕ) (new : State) : Type 0 where
    pub answers : List ℕ
    pub rest : List ℕ
    pub head : RequestHead
    pub after : List ℕ
    pub fault : HeadFault
    pub answered : HandlesPrefix does fault_reply octets old answers new false rest
    pub begins : StartsWithHead rest head after
    pub good : fault_of_head head ≡ None
    pub screened_for : screened does new head ≡ Some fault
    pub replies_are : replies ≡ answers ++ fault_reply fault

  abbrev pub ClosesSession : List ℕ → State → List ℕ → State → Type 0
  ClosesSession octets old replies new =
      EndsSession octets old replies new ⊎ ScreensHead octets old replies new

  -- the handler refuses no head
  abbrev pub ScreensNothing : Type 0
  ScreensNothing = (now : State) (head : RequestHead) → screened does now head ≡ None

  -- the result of feeding all octets, with the session's value afterwards
  abbrev pub FeedsSession : List ℕ → State → List ℕ → State → Option (List ℕ) → Type 0
  FeedsSession octets old replies new (Some rest) =
      HandlesAllRequests octets old replies new false rest × IsPartialRequest rest
  FeedsSession octets old replies new None = ClosesSession octets old replies new

  -- the result of feeding one more piece to a session; a closed session ignores it
  abbrev pub FeedsPiece :
      Option (List ℕ) → State → List ℕ → List ℕ → State → Option (List ℕ) → Type 0
  FeedsPiece (Some held) old piece replies new session =
      FeedsSession (held ++ piece) old replies new session
  FeedsPiece None old piece replies new session = (replies ≡ []) × (old ≡ new) × (session ≡ None)

  -- out of memory: some requests at the front of the octets were handled in turn, nothing else
  pub record HandlesSomePrefix (octets : List ℕ) (old new : State) : Type 0 where
    pub replies : List ℕ
    pub ended : Bool
    pub rest : List ℕ
    pub runs : HandlesPrefix does fault_reply octets old replies new ended rest

  abbrev pub FeedsPieceInPart : Option (List ℕ) → State → List ℕ → State → Type 0
  FeedsPieceInPart (Some held) old piece new = HandlesSomePrefix (held ++ piece) old new
  FeedsPieceInPart None old piece new = old ≡ new

  -- pieces in turn, each with the replies to it
  unfoldable pub FeedsPieces :
      Option (List ℕ) → State → List (List ℕ × List ℕ) → State → Option (List ℕ) → Type 0
  FeedsPieces before old [] new session = (before ≡ session) × (old ≡ new)
  FeedsPieces before old (turn ∷ turns) new session =
      (between : Option (List ℕ)) × (middle : State)
      × FeedsPiece before old turn.0 turn.1 middle between
      × FeedsPieces between middle turns new session

  -- feeding pieces to a new session is feeding all of them joined, with all replies joined
  abbrev pub PiecesAreFedAsOne : Type 0
  PiecesAreFedAsOne =
      (turns : List (List ℕ × List ℕ)) (old new : State) (session : Option (List ℕ))
      → FeedsPieces (Some []) old turns new session
      → FeedsSession (flat_map (λ turn. turn.0) turns) old (flat_map (λ turn. turn.1) turns) new
      session

  -- if the handler refuses no head, all octets received determine whether a session is open and
  -- what it holds
  abbrev pub CutsMakeNoDifference : Type 0
  CutsMakeNoDifference =
      ScreensNothing → (octets : List ℕ) (old new left : State) (replies others : List ℕ)
      → (session other : Option (List ℕ))
      → FeedsSession octets old replies new session → FeedsSession octets old others left other
      → session ≡ other
