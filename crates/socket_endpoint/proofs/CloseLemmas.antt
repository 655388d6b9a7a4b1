-- Closing the sockets of a list, one after the other.
use Rattle.std.proofs.Common.{◌≡◌, ◌<◌, ◌+◌, ℕ, zero, suc, List, [], ◌∷◌, Option, None, subst}
use Rattle.std.proofs.Common.{arith, drop, length, set}
use Rattle.socket_endpoint.specs.SocketCalls.{SocketLog}
use Rattle.socket_endpoint.specs.SocketEvents.{ClosesAll, ClosesSocket, socket_at}
use Rattle.socket_endpoint.specs.declared.polling.Polling.{Polling}

module _ {S L C : Type 0} (log : S → SocketLog L C) where
  closes_first : (places : List (Option C)) (place : ℕ) (old middle last : Polling S C)
      → place < length places → ClosesSocket log (socket_at places place) old middle
      → ClosesAll log (drop (suc place) (set places place None)) middle last
      → ClosesAll log (drop place places) old last
  closes_first [] place old middle last there closes rest = absurd (omega (arith, there))
  closes_first (x ∷ xs) zero old middle last there closes rest = (middle, closes, rest)
  closes_first (x ∷ xs) (suc place) old middle last there closes rest =
      let below : place < length xs = omega (arith, there) in
      closes_first xs place old middle last below closes rest

  -- the socket at the next place is closed, and then the others
  pub closes_next : (places next : List (Option C)) (place : ℕ) (old middle last : Polling S C)
      → place < length places → ClosesSocket log (socket_at places place) old middle
      → next ≡ set places place None
      → ClosesAll log (drop (place + 1) next) middle last → ClosesAll log (drop place places) old
      last
  closes_next places next place old middle last there closes is rest =
      let one_more : place + 1 ≡ suc place = omega arith in
      let others = subst (λ n. ClosesAll log (drop n next) middle last) one_more rest in
      closes_first places place old middle last there closes (subst (λ ps. ClosesAll log (drop (suc
      place) ps) middle last) is others)
