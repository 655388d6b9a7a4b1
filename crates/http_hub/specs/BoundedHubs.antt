-- A hub that refuses a large connection which doesn't fit beside the others.
use Rattle.std.specs.Prelude.{◌≡◌, ◌≤◌, ◌+◌, ◌-◌, ◌||◌, ◌⊎◌, ℕ, Bool, true, false, List, [], length}
use Rattle.std.specs.Prelude.{nat_eq, nat_le, Some}
use Rattle.http_requests.specs.HandlerRuns.{HandlerRelation, FaultReplies}
use Rattle.http_requests.specs.declared.head_fault.HeadFault.TheVariants.{Busy}
use Rattle.http_hub.specs.Holdings.{large_at, large_total, most_small}
use Rattle.http_hub.specs.HubRuns.{RefusesPieceAt}
use Rattle.http_hub.specs.Hubs.{FailsAt, HubValue, IsAt, ReceivesAt, RefusesAt}
use Rattle.http_hub.specs.Links.{LinkValue}

-- A connection may hold this many octets beside the others' if it is small, if it is the only large
-- one, or if all large ones together are within the bound.
abbrev pub may_hold : ℕ → ℕ → ℕ → Bool
may_hold most own others = nat_eq own 0 || nat_eq others 0 || nat_le (own + others) most

-- the connection at the place may hold what it holds
abbrev pub fits_at : ℕ → HubValue → LinkValue → Bool
fits_at most hub link =
    may_hold most (large_at (Some link)) (large_total hub.slots - large_at (Some link))

-- what the connection at the place held was dropped, since it may not hold it; the reply to a busy
-- server's client is pending, or none
pub record RefusesLargeAt
    (fault_reply : FaultReplies) (most place : ℕ) (full : HubValue) (now : ℕ) (after : HubValue)
    : Type 0 where
  pub link : LinkValue
  pub at : IsAt full place link
  pub too_large : fits_at most full link ≡ false
  pub reply : List ℕ
  pub reply_is : (reply ≡ fault_reply Busy) ⊎ (reply ≡ [])
  pub small : length reply ≤ most_small
  pub refused : RefusesAt place full reply now after

-- the connection at the place may hold what it holds, and nothing changed
pub record FitsAt (most place : ℕ) (full after : HubValue) : Type 0 where
  pub link : LinkValue
  pub at : IsAt full place link
  pub fits : fits_at most full link ≡ true
  pub after_is : after ≡ full

-- it may hold what it holds, or that was dropped
abbrev pub SettlesAt : FaultReplies → ℕ → ℕ → HubValue → ℕ → HubValue → Type 0
SettlesAt fault_reply most place full now after =
    FitsAt most place full after ⊎ RefusesLargeAt fault_reply most place full now after

module _ {State : Type 0} (does : HandlerRelation State) (fault_reply : FaultReplies) where
  -- a piece was fed, and the connection may hold what it then holds
  pub record ReceivesFitting
      (most place : ℕ) (before : HubValue) (old : State) (piece : List ℕ) (now : ℕ)
      (new : State) (after : HubValue) : Type 0 where
    pub received : ReceivesAt does fault_reply place before old piece now new after
    pub link : LinkValue
    pub at : IsAt after place link
    pub fits : fits_at most after link ≡ true

  -- A piece was fed, and the connection may not hold what it then holds. So it is dropped, and the
  -- reply to a busy server's client is pending, or none.
  pub record RefusesLarge
      (most place : ℕ) (before : HubValue) (old : State) (piece : List ℕ) (now : ℕ)
      (new : State) (after : HubValue) : Type 0 where
    pub reply : List ℕ
    pub refused : RefusesPieceAt does fault_reply place before old piece reply now new after
    pub link : LinkValue
    pub at : IsAt refused.full place link
    pub too_large : fits_at most refused.full link ≡ false
    pub small : length reply ≤ most_small

  -- the result of feeding a piece
  abbrev pub ReceivesWithin : ℕ → ℕ → HubValue → State → List ℕ → ℕ → State → HubValue → Type 0
  ReceivesWithin most place before old piece now new after =
      ReceivesFitting most place before old piece now new after
      ⊎ (FailsAt does fault_reply place before old piece new after
      ⊎ RefusesLarge most place before old piece now new after)
