-- What a session was fed was handled from the front.
use Rattle.std.proofs.Common.{ℕ, List, ◌++◌, false, Option, Some, None, inl, inr}
use Rattle.http_requests.specs.HandlerRuns.{HandlerRelation, FaultReplies}
use Rattle.http_requests.specs.SessionFeeding.{FeedsPiece, FeedsPieceInPart, FeedsSession}
use Rattle.http_requests.specs.SessionFeeding.{HandlesSomePrefix}
use Rattle.http_requests.proofs.RunLemmas.{answered_run}

module _ {State : Type 0} (does : HandlerRelation State) (fault_reply : FaultReplies) where
  pub part_of_fed : (octets replies : List ℕ) (old new : State) (session : Option (List ℕ))
      → FeedsSession does fault_reply octets old replies new session
      → HandlesSomePrefix does fault_reply octets old new
  part_of_fed octets replies old new (Some rest) fed = record {
    replies = replies;
    ended = false;
    rest = rest;
    runs = answered_run does fault_reply octets old replies new false rest fed.0;
  }
  part_of_fed octets replies old new None (inr stop) =
      record { replies = stop.answers; ended = false; rest = stop.rest; runs = stop.answered }
  part_of_fed octets replies old new None (inl stop) = record {
    replies = stop.answers;
    ended = stop.ended;
    rest = stop.rest;
    runs = answered_run does fault_reply octets old stop.answers new stop.ended stop.rest
        stop.answered;
  }

  -- the same of a piece that was fed to a session
  pub part_of_piece : (before : Option (List ℕ)) (old new : State) (piece replies : List ℕ)
      (session : Option (List ℕ)) → FeedsPiece does fault_reply before old piece replies new session
      → FeedsPieceInPart does fault_reply before old piece new
  part_of_piece (Some held) old new piece replies session fed =
      part_of_fed (held ++ piece) replies old new session fed
  part_of_piece None old new piece replies session fed = fed.1
