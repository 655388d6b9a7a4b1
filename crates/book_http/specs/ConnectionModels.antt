-- What contracts know of a connection.
use Rattle.std.specs.Prelude.{ℕ, List, Option}
use Rattle.book_http.specs.ConnectionCalls.{ConnectionCall}

-- what contracts know of a connection
pub record ConnectionModel (Connection : Type 0) : Type 0 where
  -- the octets that are still to be read, if known
  pub remaining : Connection → Option (List ℕ)
  -- the octets that were written, if known
  pub contents : Connection → Option (List ℕ)
  -- the calls so far, if known
  pub calls : Connection → Option (List ConnectionCall)
