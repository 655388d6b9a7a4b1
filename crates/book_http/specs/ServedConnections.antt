-- Serving a connection: the octets read, the octets written, and the new state of the handler. A
-- reader is represented by the octets that are still to be read, and a writer by those that it
-- holds, if known.
use Rattle.std.specs.Prelude.{◌≡◌, ◌⊎◌, ◌≤◌, ℕ, List, ◌++◌, length, Option, Some, None, Result}
use Rattle.std.specs.Prelude.{Ok, Err}
use Rattle.std.specs.Io.KnownBytes.{Appends, Consumes, IsAtEnd}
use Rattle.book_http.specs.Pieces.{IsInPieces, IsPiece, piece_octets_max, pieces_max}
use Rattle.http_requests.specs.SessionFeeding.{FeedsSession, HandlesSomePrefix, FeedsPieceInPart}
use Rattle.http_requests.specs.SessionFeeding.{FeedsPiece}
use Rattle.http_requests.specs.HandlerRuns.{HandlerRelation, FaultReplies}
use Rattle.book_http.specs.Streams.{WritesPrefix}
use Rattle.book_http.specs.declared.serve_fault.ServeFault.{ServeFault}
use Rattle.book_http.specs.declared.serve_fault.ServeFault.TheVariants.{Read, Write, TooManyTurns}
use Rattle.book_http.specs.declared.serve_fault.ServeFault.TheVariants.{Memory}

-- the fault that a connection was aborted with, if any
abbrev pub fault_of : {A : Type 0} → Result A ServeFault → Option ServeFault
fault_of (Ok done) = None
fault_of (Err fault) = Some fault

module _ {State : Type 0} (does : HandlerRelation State) (fault_reply : FaultReplies) where
  -- The octets read were fed to a new session, which has this value, and all replies were written.
  pub record FeedsInput
      (input left output written : Option (List ℕ)) (old new : State)
      (session : Option (List ℕ)) : Type 0 where
    pub octets : List ℕ
    pub replies : List ℕ
    pub read : Consumes input left octets
    pub fed : FeedsSession does fault_reply octets old replies new session
    pub sent : Appends output written replies

  -- The octets are those that leave a session open, and one piece more.
  pub record EndsWithPiece (octets : List ℕ) (old : State) : Type 0 where
    pub before : List ℕ
    pub piece : List ℕ
    pub octets_are : octets ≡ before ++ piece
    pub piece_is : IsPiece piece
    pub replies : List ℕ
    pub middle : State
    pub held : List ℕ
    pub fed : FeedsSession does fault_reply before old replies middle (Some held)

  -- It was served to its end: the end of the input, or a closed session. Nothing is read after the
  -- piece that closes the session.
  pub record ServesToEnd (input left output written : Option (List ℕ)) (old new : State)
      : Type 0 where
    pub session : Option (List ℕ)
    pub serves : FeedsInput input left output written old new session
    pub at_end : IsAtEnd left ⊎ (session ≡ None)
    pub closes : session ≡ None → EndsWithPiece serves.octets old

  -- it was served so far, and the session is still open
  pub record ServesSoFar (input left output written : Option (List ℕ)) (old new : State)
      : Type 0 where
    pub held : List ℕ
    pub serves : FeedsInput input left output written old new (Some held)

  -- it was served so far, in that many pieces, and the session is still open
  pub record ServesPieces
      (count : ℕ) (input left output written : Option (List ℕ)) (old new : State) : Type 0 where
    pub held : List ℕ
    pub serves : FeedsInput input left output written old new (Some held)
    pub in_pieces : IsInPieces serves.octets count

  -- It was served so far. Then a piece was read and fed, and the writer failed: a prefix of the
  -- replies to the piece was written.
  pub record FailsToWrite (input left output written : Option (List ℕ)) (old new : State)
      : Type 0 where
    pub between : Option (List ℕ)
    pub sent : Option (List ℕ)
    pub middle : State
    pub held : List ℕ
    pub piece : List ℕ
    pub replies : List ℕ
    pub session : Option (List ℕ)
    pub serves : FeedsInput input between output sent old middle (Some held)
    pub read : Consumes between left piece
    pub piece_is : IsPiece piece
    pub fed : FeedsPiece does fault_reply (Some held) middle piece replies new session
    pub out : WritesPrefix replies sent written

  -- It was served so far. Then a piece was read, and memory ran out: some requests, from the first
  -- on, were handled, and their replies are lost. The piece is empty if nothing was read.
  pub record LosesReplies (input left output written : Option (List ℕ)) (old new : State)
      : Type 0 where
    pub between : Option (List ℕ)
    pub middle : State
    pub held : List ℕ
    pub piece : List ℕ
    pub serves : FeedsInput input between output written old middle (Some held)
    pub read : Consumes between left piece
    pub at_most : length piece ≤ piece_octets_max
    pub part : HandlesSomePrefix does fault_reply (held ++ piece) middle new

  -- a connection was aborted with this fault
  abbrev pub AbortsConnection :
      ServeFault → Option (List ℕ) → Option (List ℕ) → Option (List ℕ) → Option (List ℕ)
      → State → State → Type 0
  AbortsConnection Read input left output written old new =
      ServesSoFar input left output written old new
  AbortsConnection Write input left output written old new =
      FailsToWrite input left output written old new
  AbortsConnection TooManyTurns input left output written old new =
      ServesPieces pieces_max input left output written old new
  AbortsConnection Memory input left output written old new =
      LosesReplies input left output written old new

  -- a connection was served to its end, or aborted with this fault
  abbrev pub ServesUntil :
      Option ServeFault → Option (List ℕ) → Option (List ℕ) → Option (List ℕ) → Option (List ℕ)
      → State → State → Type 0
  ServesUntil None input left output written old new =
      ServesToEnd input left output written old new
  ServesUntil (Some fault) input left output written old new =
      AbortsConnection fault input left output written old new

  -- ---- one piece

  -- a session of this value was fed the piece, and the replies to it were written
  pub record AnswersPiece
      (before : Option (List ℕ)) (old : State) (piece : List ℕ) (sent written : Option (List ℕ))
      (new : State) (session : Option (List ℕ)) : Type 0 where
    pub replies : List ℕ
    pub feeds : FeedsPiece does fault_reply before old piece replies new session
    pub out : Appends sent written replies

  -- it was fed the piece, and a prefix of the replies was written
  pub record AnswersPieceInPart
      (before : Option (List ℕ)) (old : State) (piece : List ℕ) (sent written : Option (List ℕ))
      (new : State) (session : Option (List ℕ)) : Type 0 where
    pub replies : List ℕ
    pub feeds : FeedsPiece does fault_reply before old piece replies new session
    pub out : WritesPrefix replies sent written

  -- a piece wasn't replied to, because of this fault
  abbrev pub FailsPiece :
      ServeFault → Option (List ℕ) → State → List ℕ → Option (List ℕ) → Option (List ℕ)
      → State → Option (List ℕ) → Type 0
  FailsPiece Read before old piece sent written new session = ⊥
  FailsPiece Write before old piece sent written new session =
      AnswersPieceInPart before old piece sent written new session
  FailsPiece TooManyTurns before old piece sent written new session = ⊥
  FailsPiece Memory before old piece sent written new session =
      FeedsPieceInPart does fault_reply before old piece new × (written ≡ sent)
