-- A connection of a server, and the effect of each operation on it.
use Rattle.std.specs.Prelude.{◌≡◌, ◌<◌, ◌+◌, ◌-◌, ◌*◌, ◌/◌, ◌^◌, ◌&&◌, ◌||◌, ℕ, Bool, false, List}
use Rattle.std.specs.Prelude.{[], ◌∷◌, Option, Some, None, drop, length, nat_eq, nat_le, nat_lt}
use Rattle.std.specs.Prelude.{if◌then◌else◌}
use Rattle.http_requests.specs.HandlerRuns.{HandlerRelation, FaultReplies}
use Rattle.http_requests.specs.HeldRequests.{IsHeldRequestLength, held_length}
use Rattle.http_requests.specs.SessionFeeding.{FeedsPiece}

-- a connection: its serial number, which is how many connections were opened before it; the value
-- of its session, the octets that are not sent yet, how many octets of replies it holds, when it was
-- last active, since when the rest of a request is awaited, and how long that request is
pub record LinkValue : Type 0 where
  pub serial : ℕ
  pub session : Option (List ℕ)
  pub pending : List ℕ
  pub reply_length : ℕ
  pub active_at : ℕ
  pub request_since : Option ℕ
  pub request_length : ℕ

-- the link of a new connection with this serial number
abbrev pub new_link : ℕ → ℕ → LinkValue
new_link serial now = record {
  serial = serial;
  session = Some [];
  pending = [];
  reply_length = 0;
  active_at = now;
  request_since = None;
  request_length = 0;
}

-- ---- since when the rest of a request is awaited

-- the rest of a request is awaited: some of its octets are held, and no octets are pending
abbrev pub awaits_request : ℕ → List ℕ → Bool
awaits_request held [] = nat_lt 0 held
awaits_request held (octet ∷ pending) = false

-- after a piece the held octets are those of the same request: some were held before, and all
-- octets of the piece were added
abbrev pub is_same_request : ℕ → ℕ → ℕ → Bool
is_same_request before added held = nat_lt 0 before && nat_eq held (before + added)

-- since when the rest of a request is awaited, after a piece was received: since before, if it is
-- the same request, and otherwise since now
abbrev pub since_after_piece : Option ℕ → ℕ → ℕ → ℕ → List ℕ → ℕ → Option ℕ
since_after_piece since before added held pending now =
    if awaits_request held pending
    then (if is_same_request before added held then since else Some now)
    else None

-- since when the rest of a request is awaited, after octets were sent: since now, if none are left
abbrev pub since_after_sent : ℕ → List ℕ → ℕ → Option ℕ
since_after_sent held pending now = if awaits_request held pending then Some now else None

-- ---- operations: none changes the serial number

-- how many octets of replies are held while these are pending: as many as before, sent or not, and
-- none once all of them were sent
abbrev pub reply_length_after : ℕ → List ℕ → ℕ
reply_length_after before [] = 0
reply_length_after before (octet ∷ pending) = before

-- the first octets were sent, and the rest is pending
abbrev pub link_after_sent : LinkValue → ℕ → ℕ → LinkValue
link_after_sent link count now = record {
  serial = link.serial;
  session = link.session;
  pending = drop count link.pending;
  reply_length = reply_length_after link.reply_length (drop count link.pending);
  active_at = now;
  request_since = since_after_sent (held_length link.session) (drop count link.pending) now;
  request_length = link.request_length;
}

-- the session is closed, and the rest is unchanged
abbrev pub link_after_failure : LinkValue → LinkValue
link_after_failure link = record {
  serial = link.serial;
  session = None;
  pending = link.pending;
  reply_length = link.reply_length;
  active_at = link.active_at;
  request_since = link.request_since;
  request_length = link.request_length;
}

-- what the connection came to hold was dropped: its session is closed, and this reply is pending
abbrev pub link_after_refusal : LinkValue → List ℕ → ℕ → LinkValue
link_after_refusal link reply now = record {
  serial = link.serial;
  session = None;
  pending = reply;
  reply_length = length reply;
  active_at = now;
  request_since = None;
  request_length = 0;
}

-- the link after a piece, with these replies, this session, and a request of this length
abbrev pub link_after_piece :
    LinkValue → List ℕ → List ℕ → Option (List ℕ) → ℕ → ℕ → LinkValue
link_after_piece link piece replies session request_length now = record {
  serial = link.serial;
  session = session;
  pending = replies;
  reply_length = length replies;
  active_at = now;
  request_since = since_after_piece link.request_since (held_length link.session) (length piece)
      (held_length session) replies now;
  request_length = request_length;
}

module _ {State : Type 0} (does : HandlerRelation State) (fault_reply : FaultReplies) where
  -- a piece was fed to the session while no octets were pending; its replies are then pending
  pub record ReceivesPiece
      (before : LinkValue) (old : State) (piece : List ℕ) (now : ℕ) (new : State)
      (after : LinkValue) : Type 0 where
    pub replies : List ℕ
    pub session : Option (List ℕ)
    pub feeds : FeedsPiece does fault_reply before.session old piece replies new session
    pub none_pending : before.pending ≡ []
    pub request_length : ℕ
    pub is_request_length : IsHeldRequestLength session request_length
    pub after_is : after ≡ link_after_piece before piece replies session request_length now

-- ---- expiry

-- the octets of a request for which it has one more second
abbrev pub octets_a_second : ℕ
octets_a_second = 4096

-- the milliseconds that a request of this length may take beyond the patience
abbrev pub extra_time : ℕ → ℕ
extra_time request_length = request_length / octets_a_second * 1000

-- that time is more than this many milliseconds ago
abbrev pub is_long_ago : Option ℕ → ℕ → ℕ → Bool
is_long_ago None now most = false
is_long_ago (Some time) now most = nat_lt most (now - time)

-- For more than `patience` milliseconds the connection was not active, or the rest of a request has
-- been awaited for longer than the request may take.
abbrev pub has_expired : LinkValue → ℕ → ℕ → Bool
has_expired link now patience =
    nat_lt patience (now - link.active_at)
    || is_long_ago link.request_since now (patience + extra_time link.request_length)

-- the test holds from this time on and not before; without a time it holds at no time below 2^64
abbrev pub IsFirstTime : (ℕ → Bool) → Option ℕ → Type 0
IsFirstTime test None = (now : ℕ) → now < 2 ^ 64 → test now ≡ false
IsFirstTime test (Some time) = (now : ℕ) → test now ≡ nat_le time now
