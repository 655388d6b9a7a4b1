-- What it means that accepting a connection failed, by the error numbers of Linux (accept(2)).
use Rattle.std.specs.Prelude.{ℕ, ℤ, pos, int_lt, unsigned_abs, List, [], ◌∷◌, ◌==◌, Option}
use Rattle.std.specs.Prelude.{Some, None, if◌then◌else◌}
use Rattle.socket_endpoint.specs.declared.accept_causes.AcceptCause.{AcceptCause}
use Rattle.socket_endpoint.specs.declared.accept_causes.AcceptCause.TheVariants.{NoneWaits}
use Rattle.socket_endpoint.specs.declared.accept_causes.AcceptCause.TheVariants.{TriesAgain}
use Rattle.socket_endpoint.specs.declared.accept_causes.AcceptCause.TheVariants.{Shortage, Broken}

-- The numbers that don't mean that the listener failed.
abbrev pub accept_causes : List (ℕ × AcceptCause)
accept_causes =
    -- EAGAIN
    (11, NoneWaits)
    -- ENOMEM, ENFILE, EMFILE, ENOBUFS
    ∷ (12, Shortage) ∷ (23, Shortage) ∷ (24, Shortage) ∷ (105, Shortage)
    -- EINTR, ECONNABORTED
    ∷ (4, TriesAgain) ∷ (103, TriesAgain)
    -- EPERM, ENONET, EPROTO, ENOPROTOOPT, EOPNOTSUPP
    ∷ (1, TriesAgain) ∷ (64, TriesAgain) ∷ (71, TriesAgain) ∷ (92, TriesAgain) ∷ (95, TriesAgain)
    -- ENETDOWN, ENETUNREACH, EHOSTDOWN, EHOSTUNREACH
    ∷ (100, TriesAgain) ∷ (101, TriesAgain) ∷ (112, TriesAgain) ∷ (113, TriesAgain)
    ∷ []

-- the cause beside the number, and that the listener failed if the number isn't there
abbrev pub cause_in : List (ℕ × AcceptCause) → ℕ → AcceptCause
cause_in [] number = Broken
cause_in (row ∷ rows) number = if number == row.0 then row.1 else cause_in rows number

-- the cause of an error, which may have no number
abbrev pub accept_cause : Option ℤ → AcceptCause
accept_cause None = TriesAgain
accept_cause (Some code) =
    if int_lt code (pos 0) then Broken else cause_in accept_causes (unsigned_abs code)
