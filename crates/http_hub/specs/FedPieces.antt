-- Pieces of any number of connections, fed to one handler in any interleaving.
use Rattle.std.specs.Prelude.{◌≡◌, ◌⊎◌, ◌==◌, ℕ, Bool, List, [], ◌∷◌, ◌++◌}
use Rattle.std.specs.Prelude.{Option, Some, None, cond, map, ⊤}
use Rattle.std.specs.List.{flat_map}
use Rattle.http_requests.specs.HandlerRuns.{HandlerRelation, FaultReplies, HandlesRequests}
use Rattle.http_requests.specs.HandlerRuns.{HandlesPrefix, KeepsScreens, Screen}
use Rattle.http_requests.specs.SessionFeeding.{FeedsSession, FeedsPiece, FeedsPieceInPart}
use Rattle.http_hub.specs.HandledRequests.{HandledInTurn, HandledRequest, ReplaysHandled}
use Rattle.http_hub.specs.HandledRequests.{handled_for}

-- a piece, the number of its connection, and the replies to the piece, or `None` if they are lost:
-- the memory ran out within the piece, or the connection came to hold too much and was refused
pub record FedPiece : Type 0 where
  pub connection : ℕ
  pub octets : List ℕ
  pub replies : Option (List ℕ)

-- the value of the session of each connection
abbrev pub Sessions : Type 0
Sessions = ℕ → Option (List ℕ)

abbrev pub with_session : Sessions → ℕ → Option (List ℕ) → Sessions
with_session sessions connection session =
    λ other. cond (connection == other) session (sessions other)

-- every session is new
abbrev pub new_sessions : Sessions
new_sessions = λ _. Some []

-- the pieces of one connection, each with the replies to it
abbrev pub pieces_of : ℕ → List FedPiece → List (List ℕ × Option (List ℕ))
pieces_of connection [] = []
pieces_of connection (piece ∷ pieces) =
    cond (piece.connection == connection)
    ((piece.octets, piece.replies) ∷ pieces_of connection pieces) (pieces_of connection pieces)

-- the replies that are given
abbrev pub given_replies : Option (List ℕ) → List ℕ
given_replies None = []
given_replies (Some replies) = replies

-- the octets of all pieces
abbrev pub octets_in : List (List ℕ × Option (List ℕ)) → List ℕ
octets_in pieces = flat_map (λ (piece : List ℕ × Option (List ℕ)). piece.0) pieces

-- the replies to all pieces
abbrev pub replies_in : List (List ℕ × Option (List ℕ)) → List ℕ
replies_in pieces = flat_map (λ (piece : List ℕ × Option (List ℕ)). given_replies piece.1) pieces

-- the replies to one of the pieces are lost
abbrev pub HasFailure : List (List ℕ × Option (List ℕ)) → Type 0
HasFailure [] = ⊥
HasFailure (piece ∷ pieces) = (piece.1 ≡ None) ⊎ HasFailure pieces

-- all replies to one connection
abbrev pub replies_to : ℕ → List FedPiece → List ℕ
replies_to connection pieces = replies_in (pieces_of connection pieces)

-- all requests are of this connection
abbrev pub AreForConnection : ℕ → List HandledRequest → Type 0
AreForConnection connection [] = ⊤
AreForConnection connection (one ∷ more) =
    (one.connection ≡ connection) × AreForConnection connection more

module _ {State : Type 0} (does : HandlerRelation State) (fault_reply : FaultReplies) where
  -- the result of feeding a piece; if its replies are lost, some requests were handled and the
  -- session is closed
  abbrev pub FeedsOrFails :
      Option (List ℕ) → State → List ℕ → Option (List ℕ) → State → Option (List ℕ) → Type 0
  FeedsOrFails before old piece (Some replies) new session =
      FeedsPiece does fault_reply before old piece replies new session
  FeedsOrFails before old piece None new session =
      FeedsPieceInPart does fault_reply before old piece new × (session ≡ None)

  -- some requests at the front of the octets were handled in turn, and nothing else; the last
  -- replies are lost, and the session is closed
  pub record LosesReplies
      (octets : List ℕ) (old : State) (replies : List ℕ) (new : State)
      (session : Option (List ℕ)) : Type 0 where
    pub lost : List ℕ
    pub ended : Bool
    pub rest : List ℕ
    pub runs : HandlesPrefix does fault_reply octets old (replies ++ lost) new ended rest
    pub session_closed : session ≡ None

  -- the result of feeding pieces to a new session is that of feeding them joined; replies are lost
  -- only with the pieces whose replies are
  abbrev pub FeedsAlone :
      List (List ℕ × Option (List ℕ)) → State → State → Option (List ℕ) → Type 0
  FeedsAlone pieces old new session =
      FeedsSession does fault_reply (octets_in pieces) old (replies_in pieces) new session
      ⊎ (HasFailure pieces
      × LosesReplies (octets_in pieces) old (replies_in pieces) new session)

module _ (screen : Screen) (fault_reply : FaultReplies) where
  -- the requests are in the order of the pieces that complete them; those of a piece are the
  -- requests that its own session completes, and are of its own connection
  unfoldable pub AreInPieceOrder : Sessions → List FedPiece → List HandledRequest → Type 0
  AreInPieceOrder before [] handled = handled ≡ []
  AreInPieceOrder before (piece ∷ pieces) handled =
      (first : List HandledRequest) × (rest : List HandledRequest) × (between : Option (List ℕ))
      × (handled ≡ first ++ rest) × AreForConnection piece.connection first
      × FeedsOrFails (ReplaysHandled screen) fault_reply
      (before piece.connection) first piece.octets piece.replies [] between
      × AreInPieceOrder (with_session before piece.connection between) pieces rest

module _ {State : Type 0} (does : HandlerRelation State) (fault_reply : FaultReplies) where
  -- each piece was fed to the session of its connection; no other session changed
  unfoldable pub FedInTurn : Sessions → State → List FedPiece → State → Sessions → Type 0
  FedInTurn before old [] new after =
      (old ≡ new) × ((connection : ℕ) → before connection ≡ after connection)
  FedInTurn before old (piece ∷ pieces) new after =
      (middle : State) × (between : Option (List ℕ))
      × FeedsOrFails does fault_reply
      (before piece.connection) old piece.octets piece.replies middle between
      × FedInTurn (with_session before piece.connection between) middle pieces new after

  -- The handler made one run of all requests. Each connection gets the replies that it would get
  -- alone from a handler that replays its own requests: all of its requests are replied to in
  -- order, whatever other connections sent. The last replies are lost only if those to one of its
  -- own pieces are.
  pub record AreOneRun (old : State) (pieces : List FedPiece) (new : State) (after : Sessions)
      : Type 0 where
    pub handled : List HandledRequest
    pub in_turn : HandledInTurn does old handled new
    pub one_run : HandlesRequests does fault_reply old
        (map (λ (one : HandledRequest). one.request) handled)
        (flat_map (λ (one : HandledRequest). one.reply) handled) new
    pub in_piece_order :
        AreInPieceOrder (does.screens old) fault_reply new_sessions pieces handled
    pub each_alone : (connection : ℕ) → FeedsAlone (ReplaysHandled (does.screens old)) fault_reply
        (pieces_of connection pieces) (handled_for connection handled) [] (after connection)

  -- every interleaving that starts from new sessions is one run
  abbrev pub InterleavingsAreOneRun : Type 0
  InterleavingsAreOneRun =
      KeepsScreens does → (old new : State) (pieces : List FedPiece) (after : Sessions)
      → FedInTurn new_sessions old pieces new after → AreOneRun old pieces new after
