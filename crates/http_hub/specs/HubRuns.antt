-- The effect of any list of a hub's operations.
use Rattle.std.specs.Prelude.{◌≡◌, ◌==◌, ◌≤◌, ◌⊎◌, ℕ, List, [], ◌∷◌, ◌++◌, Option, Some, None}
use Rattle.std.specs.Prelude.{cond, length, take, slice_get}
use Rattle.http_requests.specs.HandlerRuns.{HandlerRelation, FaultReplies, KeepsScreens}
use Rattle.http_requests.specs.declared.head_fault.HeadFault.TheVariants.{Busy}
use Rattle.http_hub.specs.FedPieces.{AreOneRun, FedPiece, Sessions, replies_to}
use Rattle.http_hub.specs.Hubs.{EndsAt, FailsAt, HubValue, IsAt, OpensAt, ReceivesAt, RefusesAt}
use Rattle.http_hub.specs.Hubs.{SendsAt, new_hub, open_count}
use Rattle.http_hub.specs.Links.{LinkValue}

-- One operation of a hub. A connection is named by its serial number: how many were opened before
-- it.
pub data HubStep : Type 0 where
  -- a new connection, at this time
  Opens : ℕ → HubStep
  -- the connection sends a piece and gets these replies, at this time
  Receives : ℕ → List ℕ → List ℕ → ℕ → HubStep
  -- the memory runs out within a piece of the connection
  Fails : ℕ → List ℕ → HubStep
  -- the connection sends a piece, what it comes to hold is dropped, and this is its last reply, at
  -- this time
  Refuses : ℕ → List ℕ → List ℕ → ℕ → HubStep
  -- these octets are sent to the connection, at this time
  Sends : ℕ → List ℕ → ℕ → HubStep
  -- the connection is ended, and its place is free
  Ends : ℕ → HubStep

-- the pieces that the steps feed
abbrev pub pieces_in : List HubStep → List FedPiece
pieces_in [] = []
pieces_in (Opens now ∷ steps) = pieces_in steps
pieces_in (Receives serial piece replies now ∷ steps) =
    record { connection = serial; octets = piece; replies = Some replies } ∷ pieces_in steps
pieces_in (Fails serial piece ∷ steps) =
    record { connection = serial; octets = piece; replies = None } ∷ pieces_in steps
pieces_in (Refuses serial piece reply now ∷ steps) =
    record { connection = serial; octets = piece; replies = None } ∷ pieces_in steps
pieces_in (Sends serial octets now ∷ steps) = pieces_in steps
pieces_in (Ends serial ∷ steps) = pieces_in steps

-- all octets that were sent to the connection
abbrev pub sent_to : ℕ → List HubStep → List ℕ
sent_to connection [] = []
sent_to connection (Opens now ∷ steps) = sent_to connection steps
sent_to connection (Receives serial piece replies now ∷ steps) = sent_to connection steps
sent_to connection (Fails serial piece ∷ steps) = sent_to connection steps
sent_to connection (Refuses serial piece reply now ∷ steps) = sent_to connection steps
sent_to connection (Sends serial octets now ∷ steps) =
    cond (serial == connection) (octets ++ sent_to connection steps) (sent_to connection steps)
sent_to connection (Ends serial ∷ steps) = sent_to connection steps

-- the replies with which the connection was refused
abbrev pub refused_to : ℕ → List HubStep → List ℕ
refused_to connection [] = []
refused_to connection (Opens now ∷ steps) = refused_to connection steps
refused_to connection (Receives serial piece replies now ∷ steps) = refused_to connection steps
refused_to connection (Fails serial piece ∷ steps) = refused_to connection steps
refused_to connection (Refuses serial piece reply now ∷ steps) =
    cond (serial == connection) (reply ++ refused_to connection steps)
    (refused_to connection steps)
refused_to connection (Sends serial octets now ∷ steps) = refused_to connection steps
refused_to connection (Ends serial ∷ steps) = refused_to connection steps

-- the session of a link; a connection without a link has a new session
abbrev pub session_of : Option LinkValue → Option (List ℕ)
session_of None = Some []
session_of (Some link) = link.session

-- the pending octets of a link
abbrev pub pending_of : Option LinkValue → List ℕ
pending_of None = []
pending_of (Some link) = link.pending

-- the sessions of all links, by their serial numbers
abbrev pub sessions_of : List LinkValue → Sessions
sessions_of links = λ serial. session_of (slice_get links serial)

-- these are the links of all connections so far, by their serial numbers; that of an open
-- connection is at its place, and no two places have the same connection
pub record AreAllLinks (hub : HubValue) (links : List LinkValue) : Type 0 where
  pub all : length links ≡ hub.opened
  pub are_open : (place : ℕ) (link : LinkValue) → IsAt hub place link
      → slice_get links link.serial ≡ Some link
  pub are_apart : (place other : ℕ) (link another : LinkValue)
      → IsAt hub place link → IsAt hub other another
      → link.serial ≡ another.serial → place ≡ other

module _ {State : Type 0} (does : HandlerRelation State) (fault_reply : FaultReplies) where
  -- The connection at this place received a piece, and what it came to hold was dropped. This reply
  -- is pending, that to a busy server's client, or none. No other place changed.
  pub record RefusesPieceAt
      (place : ℕ) (before : HubValue) (old : State) (piece reply : List ℕ) (now : ℕ)
      (new : State) (after : HubValue) : Type 0 where
    pub full : HubValue
    pub received : ReceivesAt does fault_reply place before old piece now new full
    pub reply_is : (reply ≡ fault_reply Busy) ⊎ (reply ≡ [])
    pub refused : RefusesAt place full reply now after

  -- the effect of one step, at some place
  abbrev pub DoesStep : HubValue → State → HubStep → State → HubValue → Type 0
  DoesStep before old (Opens now) new after =
      (old ≡ new) × (place : ℕ) × OpensAt place before now after
  DoesStep before old (Receives serial piece replies now) new after =
      (place : ℕ) × (received : ReceivesAt does fault_reply place before old piece now new after)
      × (received.link.serial ≡ serial) × (received.receives.replies ≡ replies)
  DoesStep before old (Fails serial piece) new after =
      (place : ℕ) × (failed : FailsAt does fault_reply place before old piece new after)
      × (failed.link.serial ≡ serial)
  DoesStep before old (Refuses serial piece reply now) new after =
      (place : ℕ) × (refused : RefusesPieceAt place before old piece reply now new after)
      × (refused.received.link.serial ≡ serial)
  DoesStep before old (Sends serial octets now) new after =
      (old ≡ new) × (place : ℕ) × (sends : SendsAt place before (length octets) now after)
      × (sends.link.serial ≡ serial) × (octets ≡ take (length octets) sends.link.pending)
  DoesStep before old (Ends serial) new after =
      (old ≡ new) × (place : ℕ) × (ends : EndsAt place before after)
      × (ends.link.serial ≡ serial)

  -- the effect of steps in turn
  unfoldable pub HubRuns : HubValue → State → List HubStep → State → HubValue → Type 0
  HubRuns before old [] new after = (before ≡ after) × (old ≡ new)
  HubRuns before old (step ∷ steps) new after =
      (between : HubValue) × (middle : State) × DoesStep before old step middle between
      × HubRuns between middle steps new after

  -- The handler made one run of all requests, and each connection gets the replies to its own
  -- requests, as if it were alone. The octets sent to a connection, followed by those that are
  -- pending, are these replies in order, and after them that of a refusal, if it was refused; what
  -- was sent to an ended connection is a prefix of them. At most `limit` connections are open at
  -- once.
  pub record SeparatesConnections
      (limit : ℕ) (old : State) (steps : List HubStep) (new : State) (after : HubValue)
      : Type 0 where
    pub links : List LinkValue
    pub are_all : AreAllLinks after links
    pub one_run : AreOneRun does fault_reply old (pieces_in steps) new (sessions_of links)
    pub sent : (serial : ℕ) → replies_to serial (pieces_in steps) ++ refused_to serial steps
        ≡ sent_to serial steps ++ pending_of (slice_get links serial)
    pub within : open_count after ≤ limit

  -- every run of a hub that starts without connections separates them
  abbrev pub HubsSeparateConnections : Type 0
  HubsSeparateConnections =
      KeepsScreens does → (limit : ℕ) (old new : State) (steps : List HubStep) (after : HubValue)
      → HubRuns (new_hub limit) old steps new after
      → SeparatesConnections limit old steps new after
