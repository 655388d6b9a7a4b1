-- A connection is served in turns.
use Rattle.std.proofs.Common.{◌≡◌, ◌≢◌, ◌+◌, ◌≤◌, ℕ, List, [], ◌∷◌, ◌++◌, length, take, refl, sym}
use Rattle.std.proofs.Common.{subst, inl, inr, Option, Some, None, arith, Result, Ok, Err, OnOk}
use Rattle.std.proofs.Common.{IfErr}
use Rattle.std.proofs.lemmas.List.{append-nil}
use Rattle.std.proofs.KnownBytes.{Appends-nil, Appends-trans, Consumes-nil, Consumes-trans}
use Rattle.std.proofs.KnownBytes.{Consumes-kept}
use Rattle.std.specs.Io.KnownBytes.{Appends, Consumes, IsAtEnd, Keeps}
use Rattle.http_requests.specs.SessionFeeding.{FeedsSession, FeedsPieceInPart, FeedsPiece}
use Rattle.http_requests.specs.SessionFeeding.{FeedsPieces}
use Rattle.http_requests.specs.HandlerRuns.{HandlerRelation, FaultReplies}
use Rattle.http_requests.proofs.PieceLemmas.{pieces_are_fed}
use Rattle.http_requests.proofs.RunLemmas.{part_none}
use Rattle.book_http.specs.declared.serve_fault.ServeFault.{ServeFault}
use Rattle.book_http.specs.declared.serve_fault.ServeFault.TheVariants.{Read, Write, TooManyTurns}
use Rattle.book_http.specs.declared.serve_fault.ServeFault.TheVariants.{Memory}
use Rattle.book_http.specs.Pieces.{IsInPieces, IsPiece, piece_octets_max, pieces_max}
use Rattle.book_http.specs.Streams.{WritesPrefix}
use Rattle.book_http.specs.ServedConnections.{AbortsConnection, FailsToWrite, LosesReplies}
use Rattle.book_http.specs.ServedConnections.{FailsPiece, FeedsInput, ServesToEnd, AnswersPiece}
use Rattle.book_http.specs.ServedConnections.{ServesUntil, fault_of}
use Rattle.book_http.proofs.PieceLemmas.{piece_of, pieces_none, pieces_on}

module _ {State : Type 0} (does : HandlerRelation State) (fault_reply : FaultReplies) where
  -- how a connection ended, by its result
  pub of_served : (result : Result (Unit {0}) ServeFault) (input left output written :
      Option (List ℕ)) (old new : State)
      → ServesUntil does fault_reply (fault_of result) input left output written old new
      → OnOk result (ServesToEnd does fault_reply input left output written old new)
  of_served (Ok done) input left output written old new served = served
  of_served (Err fault) input left output written old new aborted = tt

  pub of_aborted : (result : Result (Unit {0}) ServeFault) (input left output written :
      Option (List ℕ)) (old new : State)
      → ServesUntil does fault_reply (fault_of result) input left output written old new
      → IfErr result (λ fault.
      AbortsConnection does fault_reply fault input left output written old new)
  of_aborted (Ok done) input left output written old new served = tt
  of_aborted (Err fault) input left output written old new aborted = aborted

  -- a new session was fed nothing
  pub fed_none : (old : State) → FeedsSession does fault_reply [] old [] old (Some [])
  unfolding FeedsPieces
  fed_none old = pieces_are_fed does fault_reply [] old old (Some []) (refl, refl)

  -- one piece after the octets that were fed
  pub fed_on : (octets piece replies more : List ℕ) (old middle new : State) (before session :
      Option (List ℕ))
      → FeedsSession does fault_reply octets old replies middle before
      → FeedsPiece does fault_reply before middle piece more new session
      → FeedsSession does fault_reply (octets ++ piece) old (replies ++ more) new session
  unfolding FeedsPieces
  fed_on octets piece replies more old middle new before session fed feeds =
      let turns : List (List ℕ × List ℕ) = (octets, replies) ∷ (piece, more) ∷ [] in
      let all : FeedsSession does fault_reply (octets ++ (piece ++ [])) old
      (replies ++ (more ++ [])) new session =
      pieces_are_fed does fault_reply turns old new session (
        before,
        middle,
        fed,
        (session, new, feeds, (refl, refl)),
      ) in
      subst (λ t. FeedsSession does fault_reply (octets ++ t) old (replies ++ more) new session)
      (append-nil piece)
      (subst (λ t. FeedsSession does fault_reply (octets ++ (piece ++ [])) old (replies ++ t) new
      session) (append-nil more) all)

  -- ---- a turn

  pub serves_none : (input output : Option (List ℕ)) (old : State)
      → FeedsInput does fault_reply input input output output old old (Some [])
  serves_none input output old = record {
    octets = [];
    replies = [];
    read = Consumes-nil input;
    fed = fed_none old;
    sent = Appends-nil output;
  }

  -- a piece was read and fed, and the replies to it were written
  serves_on : (input between left output sent written : Option (List ℕ)) (old middle new : State)
      (before session : Option (List ℕ)) (piece replies : List ℕ)
      → FeedsInput does fault_reply input between output sent old middle before
      → Consumes between left piece
      → FeedsPiece does fault_reply before middle piece replies new session
      → Appends sent written replies
      → FeedsInput does fault_reply input left output written old new session
  serves_on input between left output sent written old middle new before session piece replies
      serves read feeds out = record {
        octets = serves.octets ++ piece;
        replies = serves.replies ++ replies;
        read = Consumes-trans input between left serves.octets piece serves.read read;
        fed = fed_on serves.octets piece serves.replies replies old middle new before session
            serves.fed
            feeds;
        sent = Appends-trans output sent written serves.replies replies serves.sent out;
      }

  -- a read that gave nothing
  serves_still : (input between left output written : Option (List ℕ)) (old new : State) (session :
      Option (List ℕ))
      → FeedsInput does fault_reply input between output written old new session
      → Keeps between left → FeedsInput does fault_reply input left output written old new
      session
  serves_still input between left output written old new session serves kept = record {
    octets = serves.octets;
    replies = serves.replies;
    read = Consumes-kept input between left serves.octets serves.read kept;
    fed = serves.fed;
    sent = serves.sent;
  }

  -- ---- the pieces so far

  -- it was served in that many pieces, and the session is open
  pub record SoFar (count : ℕ) (input left output written : Option (List ℕ)) (old new : State)
      (session : Option (List ℕ)) : Type 0 where
    pub held : List ℕ
    pub is : session ≡ Some held
    pub serves : FeedsInput does fault_reply input left output written old new (Some held)
    pub in_pieces : IsInPieces serves.octets count

  pub far_start : (input output : Option (List ℕ)) (old : State) (session : Option (List ℕ))
      → session ≡ Some [] → SoFar 0 input input output output old old session
  unfolding serves_none
  far_start input output old session is =
      record { held = []; is = is; serves = serves_none input output old; in_pieces = pieces_none }

  -- one piece after them
  module _ (count : ℕ) (input between left output sent written : Option (List ℕ)) (old middle new :
      State) (before session : Option (List ℕ)) (piece replies : List ℕ) where
    fed_to : (after : Option (List ℕ))
        → (far : SoFar count input between output sent old middle before) → session ≡ after
        → FeedsPiece does fault_reply before middle piece replies new session
        → FeedsPiece does fault_reply (Some far.held) middle piece replies new after
    fed_to after far e feeds =
        subst (λ s. FeedsPiece does fault_reply (Some far.held) middle piece replies new s) e
        (subst (λ b. FeedsPiece does fault_reply b middle piece replies new session) far.is
        feeds)

    pub far_on : SoFar count input between output sent old middle before
        → Consumes between left piece → IsPiece piece
        → FeedsPiece does fault_reply before middle piece replies new session
        → Appends sent written replies
        → session ≢ None → SoFar (count + 1) input left output written old new session
    unfolding serves_on
    far_on far read piece_is feeds out is_open = by_value session refl
      where
        by_value : (value : Option (List ℕ)) → session ≡ value
            → SoFar (count + 1) input left output written old new session
        by_value None e = absurd (is_open e)
        by_value (Some held) e = record {
          held = held;
          is = e;
          serves = serves_on input between left output sent written old middle new (Some far.held)
              (Some held) piece replies far.serves read (fed_to (Some held) far e feeds) out;
          in_pieces = pieces_on far.serves.octets piece count far.in_pieces piece_is;
        }

    -- the session closed
    pub all_closed : SoFar count input between output sent old middle before
        → Consumes between left piece → IsPiece piece
        → FeedsPiece does fault_reply before middle piece replies new session
        → Appends sent written replies
        → session ≡ None → ServesToEnd does fault_reply input left output written old new
    unfolding serves_on
    all_closed far read piece_is feeds out closed = record {
      session = session;
      serves = serves_on input between left output sent written old middle new (Some far.held)
          session piece replies far.serves read (fed_to session far refl feeds) out;
      at_end = inr closed;
      closes = λ _. record {
        before = far.serves.octets;
        piece = piece;
        octets_are = refl;
        piece_is = piece_is;
        replies = far.serves.replies;
        middle = middle;
        held = far.held;
        fed = far.serves.fed;
      };
    }

    -- not all replies were written
    pub broke_writing : SoFar count input between output sent old middle before
        → Consumes between left piece → IsPiece piece
        → FeedsPiece does fault_reply before middle piece replies new session
        → WritesPrefix replies sent written → FailsToWrite does fault_reply input left output
        written old new
    broke_writing far read piece_is feeds out = record {
      between = between;
      sent = sent;
      middle = middle;
      held = far.held;
      piece = piece;
      replies = replies;
      session = session;
      serves = far.serves;
      read = read;
      piece_is = piece_is;
      fed = fed_to session far refl feeds;
      out = out;
    }

  -- ---- where it ended

  -- with the input
  pub all_read : (count : ℕ) (input between left output written : Option (List ℕ)) (old new : State)
      (session : Option (List ℕ)) (piece : List ℕ)
      → SoFar count input between output written old new session → piece ≡ []
      → Consumes between left piece → IsAtEnd left
      → ServesToEnd does fault_reply input left output written old new
  all_read count input between left output written old new session piece far none read end =
      record {
        session = Some far.held;
        serves = record {
          octets = far.serves.octets;
          replies = far.serves.replies;
          read = subst (Consumes input left) (append-nil far.serves.octets)
              (Consumes-trans input between left far.serves.octets [] far.serves.read
              (subst (Consumes between left) none read));
          fed = far.serves.fed;
          sent = far.serves.sent;
        };
        at_end = inl end;
        closes = λ (closed : Some far.held ≡ None). absurd (let no : Some far.held
            ≡ None = closed in
            cc);
      }

  pub broke_reading : (count : ℕ) (input between left output written : Option (List ℕ)) (old new :
      State) (session : Option (List ℕ)) (why : ServeFault) → why ≡ Read
      → SoFar count input between output written old new session → Keeps between left
      → AbortsConnection does fault_reply why input left output written old new
  broke_reading count input between left output written old new session why is far kept =
      subst (λ w. AbortsConnection does fault_reply w input left output written old new) (sym is)
      (record {
        held = far.held;
        serves = serves_still input between left output written old new
            (Some far.held) far.serves kept;
      })

  pub broke_turning : (count : ℕ) (input left output written : Option (List ℕ)) (old new : State)
      (session : Option (List ℕ))
      → SoFar count input left output written old new session → count ≡ pieces_max
      → AbortsConnection does fault_reply TooManyTurns input left output written old new
  broke_turning count input left output written old new session far all =
      record {
        held = far.held;
        serves = far.serves;
        in_pieces = subst (IsInPieces far.serves.octets) all far.in_pieces;
      }

  pub broke_first : (input output : Option (List ℕ)) (old : State) (why : ServeFault) → why ≡ Memory
      → AbortsConnection does fault_reply why input input output output old old
  broke_first input output old why is =
      let loses : LosesReplies does fault_reply input input output output old old = record {
        between = input;
        middle = old;
        held = [];
        piece = [];
        serves = serves_none input output old;
        read = Consumes-nil input;
        at_most = omega arith;
        part = part_none does fault_reply [] old old refl;
      } in
      subst (λ w. AbortsConnection does fault_reply w input input output output old old) (sym is)
      loses

  pub broke_feeding : (count : ℕ) (input between left output written : Option (List ℕ))
      (old middle new : State) (before : Option (List ℕ)) (piece : List ℕ)
      → SoFar count input between output written old middle before → Consumes between left piece
      → IsPiece piece → FeedsPieceInPart does fault_reply before middle piece new
      → LosesReplies does fault_reply input left output written old new
  broke_feeding count input between left output written old middle new before piece far read
      piece_is loses = record {
        between = between;
        middle = middle;
        held = far.held;
        piece = piece;
        serves = far.serves;
        read = read;
        at_most = piece_is.at_most;
        part = subst (λ s. FeedsPieceInPart does fault_reply s middle piece new) far.is loses;
      }

  -- ---- a whole piece

  module _ (count : ℕ) (input between left output sent written : Option (List ℕ)) (old middle new :
      State) (before session : Option (List ℕ)) (piece : List ℕ) where
    pub turn_on : SoFar count input between output sent old middle before
        → Consumes between left piece → IsPiece piece → AnswersPiece does fault_reply before middle
        piece sent written new session
        → session ≢ None → SoFar (count + 1) input left output written old new session
    turn_on far read piece_is turn is_open =
        far_on count input between left output sent written old middle new before session piece
        turn.replies far read piece_is turn.feeds turn.out is_open

    pub turn_closed : SoFar count input between output sent old middle before
        → Consumes between left piece → IsPiece piece → AnswersPiece does fault_reply before middle
        piece sent written new session
        → session ≡ None → ServesToEnd does fault_reply input left output written old new
    turn_closed far read piece_is turn closed =
        all_closed count input between left output sent written old middle new before session piece
        turn.replies far read piece_is turn.feeds turn.out closed

    pub turn_lost : (why : ServeFault) → SoFar count input between output sent old middle before
        → Consumes between left piece → IsPiece piece
        → FailsPiece does fault_reply why before middle piece sent written new session
        → AbortsConnection does fault_reply why input left output written old new
    turn_lost Read far read piece_is lost = absurd lost
    turn_lost Write far read piece_is lost =
        broke_writing count input between left output sent written old middle new before session
        piece lost.replies far read piece_is lost.feeds lost.out
    turn_lost TooManyTurns far read piece_is lost = absurd lost
    turn_lost Memory far read piece_is lost =
        broke_feeding count input between left output written old middle new before piece
        (subst (λ w. SoFar count input between output w old middle before) (sym lost.1) far)
        read piece_is lost.0

  -- what was written is the same
  pub far_kept : (count : ℕ) (input left output sent written : Option (List ℕ)) (old new : State)
      (session : Option (List ℕ)) → SoFar count input left output sent old new session
      → written ≡ sent
      → SoFar count input left output written old new session
  far_kept count input left output sent written old new session far same =
      subst (λ w. SoFar count input left output w old new session) (sym same) far

  -- a fault of a piece isn't one of these
  pub no_read_fault : (before session : Option (List ℕ)) (old new : State) (piece : List ℕ)
      (sent written : Option (List ℕ)) (why : ServeFault)
      → FailsPiece does fault_reply why before old piece sent written new session → why ≡ Read → ⊥
  no_read_fault before session old new piece sent written why fails is =
      subst (λ w. FailsPiece does fault_reply w before old piece sent written new session) is fails

  pub no_turns_fault : (before session : Option (List ℕ)) (old new : State) (piece : List ℕ)
      (sent written : Option (List ℕ)) (why : ServeFault)
      → FailsPiece does fault_reply why before old piece sent written new session
      → why ≡ TooManyTurns → ⊥
  no_turns_fault before session old new piece sent written why fails is =
      subst (λ w. FailsPiece does fault_reply w before old piece sent written new session) is fails

  -- ---- a read and the replies to it

  module _ (count size : ℕ) (room : List ℕ) (input between mid left output sent out written :
      Option (List ℕ)) (old middle new : State) (before session : Option (List ℕ))
      (far : SoFar count input between output sent old middle before) (read :
      Consumes between mid (take size room)) (same_out : out ≡ sent) (same_left : left ≡ mid)
      (some : size ≡ 0 → ⊥) (within : size ≤ length room) (small : length room ≤ piece_octets_max)
    where
      far_now : SoFar count input between output out old middle before
      far_now = far_kept count input between output sent out old middle before far same_out

      read_now : Consumes between left (take size room)
      read_now = subst (λ l. Consumes between l (take size room)) (sym same_left) read

      pub step_on : AnswersPiece does fault_reply before middle (take size room) out written new
          session → session ≢ None → SoFar (count + 1) input left output written old new session
      step_on turn is_open = turn_on count input between left output out written old middle new
          before
          session (take size room) far_now read_now (piece_of size room some within small) turn
          is_open

      pub step_closed : AnswersPiece does fault_reply before middle (take size room) out written new
          session → session ≡ None → ServesToEnd does fault_reply input left output written old new
      step_closed turn closed = turn_closed count input between left output out written old middle
          new
          before session (take size room) far_now read_now (piece_of size room some within small)
          turn
          closed

      pub step_lost : (why : ServeFault) → FailsPiece does fault_reply why before middle
          (take size room) out written new session → AbortsConnection does fault_reply why input
          left
          output written old new
      step_lost why lost = turn_lost count input between left output out written old middle new
          before
          session (take size room) why far_now read_now (piece_of size room some within small) lost

  -- the input ended, and nothing was written
  pub step_ended : (count size : ℕ) (room : List ℕ) (input between left output sent written :
      Option (List ℕ)) (old new : State) (session : Option (List ℕ))
      → SoFar count input between output sent old new session
      → Consumes between left (take size room) → written ≡ sent → size ≡ 0 → IsAtEnd left
      → ServesToEnd does fault_reply input left output written old new
  step_ended count size room input between left output sent written old new session far read same
      none end =
      all_read count input between left output written old new session (take size room)
      (far_kept count input between output sent written old new session far same)
      (subst (λ n. take n room ≡ []) (sym none) refl) read end

  -- the reader failed
  pub step_failed : (count : ℕ) (input between left output sent written : Option (List ℕ))
      (old new : State) (session : Option (List ℕ)) (why : ServeFault)
      → SoFar count input between output sent old new session → why ≡ Read
      → Keeps between left → written ≡ sent → AbortsConnection does fault_reply why input left
      output written old new
  step_failed count input between left output sent written old new session why far is kept same =
      broke_reading count input between left output written old new session why is
      (far_kept count input between output sent written old new session far same) kept
