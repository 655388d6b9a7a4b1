-- The open connections of a server, and the effect of each operation on them.
use Rattle.std.specs.Prelude.{◌≡◌, ◌≤◌, ◌||◌, ◌-◌, ◌^◌, ℕ, suc, Bool, false, List, Option, Some}
use Rattle.std.specs.Prelude.{None, length, slice_get, slice_set, replicate, count_by, is_some}
use Rattle.std.specs.Prelude.{nat_eq}
use Rattle.std.specs.List.{list_any}
use Rattle.http_requests.specs.HandlerRuns.{HandlerRelation, FaultReplies}
use Rattle.http_requests.specs.SessionFeeding.{FeedsPieceInPart}
use Rattle.http_hub.specs.Links.{LinkValue, ReceivesPiece, has_expired, link_after_failure}
use Rattle.http_hub.specs.Links.{link_after_refusal, link_after_sent, new_link}

-- the places of a server, each with an open connection or none, and the number of connections that
-- were opened so far
pub record HubValue : Type 0 where
  pub slots : List (Option LinkValue)
  pub opened : ℕ

-- the place has this connection
abbrev pub IsAt : HubValue → ℕ → LinkValue → Type 0
IsAt hub place link = slice_get hub.slots place ≡ Some (Some link)

-- the place exists and has no connection
abbrev pub IsFreeAt : HubValue → ℕ → Type 0
IsFreeAt hub place = slice_get hub.slots place ≡ Some None

-- the place has some connection
abbrev pub IsOpenAt : HubValue → ℕ → Type 0
IsOpenAt hub place = (link : LinkValue) × IsAt hub place link

-- the number of open connections
abbrev pub open_count : HubValue → ℕ
open_count hub = count_by is_some hub.slots

-- the greatest number of connections over a server's life
abbrev pub most_opened : ℕ
most_opened = 2 ^ 64 - 1

-- no further connection can be opened
abbrev pub is_full : HubValue → Bool
is_full hub = nat_eq (open_count hub) (length hub.slots) || nat_eq hub.opened most_opened

-- the connection of a place, if there is the place and it has one
abbrev pub link_in : Option (Option LinkValue) → Option LinkValue
link_in None = None
link_in (Some link) = link

abbrev pub link_at : HubValue → ℕ → Option LinkValue
link_at hub place = link_in (slice_get hub.slots place)

-- ---- operations

-- a hub with this many places and no connections
abbrev pub new_hub : ℕ → HubValue
new_hub limit = record { slots = replicate limit None; opened = 0 }

-- the hub with another connection, or none, at the place
abbrev pub with_slot : HubValue → ℕ → Option LinkValue → HubValue
with_slot hub place link =
    record { slots = slice_set hub.slots place link; opened = hub.opened }

-- the hub with this connection at the place
abbrev pub with_link : HubValue → ℕ → LinkValue → HubValue
with_link hub place link = with_slot hub place (Some link)

-- a connection was opened at a free place; its serial number is the number of connections before
-- it, and its session is new; no other place changed
pub record OpensAt (place : ℕ) (before : HubValue) (now : ℕ) (after : HubValue) : Type 0 where
  pub was_free : IsFreeAt before place
  pub after_is : after ≡ record {
    slots = slice_set before.slots place (Some (new_link before.opened now));
    opened = suc before.opened;
  }

module _ {State : Type 0} (does : HandlerRelation State) (fault_reply : FaultReplies) where
  -- the connection at this place received a piece; no other place changed
  pub record ReceivesAt
      (place : ℕ) (before : HubValue) (old : State) (piece : List ℕ) (now : ℕ)
      (new : State) (after : HubValue) : Type 0 where
    pub link : LinkValue
    pub next : LinkValue
    pub found : IsAt before place link
    pub receives : ReceivesPiece does fault_reply link old piece now new next
    pub after_is : after ≡ with_link before place next

  -- out of memory: some requests at the front of the octets of the connection at this place were
  -- handled in turn, nothing else; their replies are lost, its session is closed, and no other
  -- place changed
  pub record FailsAt
      (place : ℕ) (before : HubValue) (old : State) (piece : List ℕ)
      (new : State) (after : HubValue) : Type 0 where
    pub link : LinkValue
    pub found : IsAt before place link
    pub feeds_in_part : FeedsPieceInPart does fault_reply link.session old piece new
    pub after_is : after ≡ with_link before place (link_after_failure link)

-- what the connection at this place came to hold was dropped; no other place changed
pub record RefusesAt (place : ℕ) (before : HubValue) (reply : List ℕ) (now : ℕ) (after : HubValue)
    : Type 0 where
  pub link : LinkValue
  pub found : IsAt before place link
  pub after_is : after ≡ with_link before place (link_after_refusal link reply now)

-- the first pending octets of the connection at this place were sent; no other place changed
pub record SendsAt (place : ℕ) (before : HubValue) (count now : ℕ) (after : HubValue)
    : Type 0 where
  pub link : LinkValue
  pub found : IsAt before place link
  pub count_fits : count ≤ length link.pending
  pub after_is : after ≡ with_link before place (link_after_sent link count now)

-- the connection at this place was ended, and the place is free; no other place changed
pub record EndsAt (place : ℕ) (before after : HubValue) : Type 0 where
  pub link : LinkValue
  pub found : IsAt before place link
  pub after_is : after ≡ with_slot before place None

-- ---- expiry

-- the connection, if there is one, has expired
abbrev pub is_expired_slot : ℕ → ℕ → Option LinkValue → Bool
is_expired_slot now patience None = false
is_expired_slot now patience (Some link) = has_expired link now patience

-- some connection has expired
abbrev pub any_expired : List (Option LinkValue) → ℕ → ℕ → Bool
any_expired slots now patience = list_any (is_expired_slot now patience) slots
