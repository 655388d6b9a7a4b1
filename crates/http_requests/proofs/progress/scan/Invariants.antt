use Rattle.std.proofs.Common.{◌≡◌, ◌≢◌, ◌<◌, ◌+◌, ℕ, take}
use Rattle.http_requests.specs.HeadEnds.{head_state_after}
use Rattle.http_requests.specs.declared.head_state.HeadState.TheVariants.{Ended}
use Rattle.http_requests.proofs.progress.scan.Given as goal

abbrev pub invariant-loop-i : goal.invariant-loop-i
invariant-loop-i l = record {
  state_is : l.state ≡ head_state_after l.fn.state (take l.i l.piece);
  before : (k : ℕ) → k < l.i + 1 → head_state_after l.fn.state (take k l.piece) ≢ Ended;
}
