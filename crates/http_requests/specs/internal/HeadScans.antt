-- The scan for the end of a head.
use Rattle.std.specs.Prelude.{◌≡◌, ◌≢◌, ◌<◌, ◌≤◌, ℕ, List, length, take, min}
use Rattle.http_requests.specs.HeadEnds.{head_state_after}
use Rattle.http_requests.specs.declared.head_state.HeadState.{HeadState}
use Rattle.http_requests.specs.declared.head_state.HeadState.TheVariants.{Ended}

-- The first `used` octets of the piece lead from one state to the other, and only the last of
-- them may end a head. If none does, `used` is the smaller of the piece's length and `room`.
pub record Scans (from : HeadState) (piece : List ℕ) (room used : ℕ) (to : HeadState) : Type 0 where
  pub within : used ≤ length piece
  pub fits : used ≤ room
  pub state_is : to ≡ head_state_after from (take used piece)
  pub not_before : (count : ℕ) → count < used → head_state_after from (take count piece) ≢ Ended
  pub all : to ≢ Ended → used ≡ min (length piece) room
