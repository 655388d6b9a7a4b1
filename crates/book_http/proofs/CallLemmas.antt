-- Calls in their order.
use Rattle.std.proofs.Common.{◌≡◌, ◌≢◌, ◌∙◌, zero, suc, Bool, ◌+◌, ◌≤◌, ℕ, List, [], ◌∷◌, ◌++◌}
use Rattle.std.proofs.Common.{length, take, refl, sym, ap, subst, inl, inr, Option, Some, None, Ok}
use Rattle.std.proofs.Common.{Err, arith, append_assoc, length-append}
use Rattle.std.proofs.lemmas.List.{append-nil}
use Rattle.std.specs.declared.io.ErrorKind.{ErrorKind}
use Rattle.book_http.specs.declared.serve_fault.ServeFault.{ServeFault}
use Rattle.book_http.specs.declared.serve_fault.ServeFault.TheVariants.{Read, Write, TooManyTurns}
use Rattle.book_http.specs.declared.serve_fault.ServeFault.TheVariants.{Memory}
use Rattle.book_http.specs.ConnectionCalls.{AddsCalls, AnswersInOrder, EndsInOrder, ReadsInOrder}
use Rattle.book_http.specs.ConnectionCalls.{SendsInOrder, ConnectionCall, DialogueState, InputEnded}
use Rattle.book_http.specs.ConnectionCalls.{ReaderFailed, WriterFailed, FailsToReceive, Leads}
use Rattle.book_http.specs.ConnectionCalls.{LeadsOn, MayFollow, Receives, Replies, Sends}
use Rattle.book_http.specs.ConnectionCalls.{TriesTooOften, Waits, tries_max}

pub added_none : (a : Option (List ConnectionCall)) → AddsCalls a a []
added_none None = tt
added_none (Some calls) = sym (append-nil calls)

pub added_on : (a b c : Option (List ConnectionCall)) (first more : List ConnectionCall)
    → AddsCalls a b first → AddsCalls b c more → AddsCalls a c (first ++ more)
added_on None b c first more p q = tt
added_on (Some x) None c first more p q = absurd p
added_on (Some x) (Some y) None first more p q = absurd q
added_on (Some x) (Some y) (Some z) first more p q = q ∙ ap (λ l. l ++ more) p
    ∙ append_assoc x first more

pub lead_on : (first more : List ConnectionCall) (state between next : DialogueState)
    → Leads state first between → Leads between more next → Leads state (first ++ more) next
unfolding Leads
lead_on [] more state between next p q = subst (λ s. Leads s more next) (sym p) q
lead_on (call ∷ first) more state between next p q =
    (p.0, p.1, lead_on first more p.0 between next p.2 q)

pub leads_none : (a : Option (List ConnectionCall)) (state : DialogueState)
    → LeadsOn a a state state
unfolding Leads
leads_none a state = record { calls = []; added = added_none a; lead = refl }

pub leads_one : (a b : Option (List ConnectionCall)) (call : ConnectionCall) (state next :
    DialogueState) → AddsCalls a b (call ∷ []) → MayFollow state call next → LeadsOn a b state next
unfolding Leads
leads_one a b call state next added may = record {
  calls = call ∷ [];
  added = added;
  lead = (next, may, refl);
}

pub leads_on : (a b c : Option (List ConnectionCall)) (state between next : DialogueState)
    → LeadsOn a b state between → LeadsOn b c between next → LeadsOn a c state next
leads_on a b c state between next p q =
    record {
      calls = p.calls ++ q.calls;
      added = added_on a b c p.calls q.calls p.added q.added;
      lead = lead_on p.calls q.calls state between next p.lead q.lead;
    }

pub tries_on : (a b c : Option (List ConnectionCall)) (state between : DialogueState)
    → LeadsOn a b state between → TriesTooOften b c between → TriesTooOften a c state
tries_on a b c state between p q =
    record {
      calls = p.calls ++ q.calls;
      added = added_on a b c p.calls q.calls p.added q.added;
      next = q.next;
      lead = lead_on p.calls q.calls state between q.next p.lead q.lead;
      many = grind (arith, length-append, q.many);
    }

-- ---- tries

-- so many calls left the state, whichever number of pieces was read
pub record LeavesIn (a b : Option (List ConnectionCall)) (tries : ℕ) (state : ℕ → DialogueState) :
    Type 0 where
  pub calls : List ConnectionCall
  pub added : AddsCalls a b calls
  pub count : length calls ≡ tries
  pub lead : (pieces : ℕ) → Leads (state pieces) calls (state pieces)

pub leaves_none : (a : Option (List ConnectionCall)) (state : ℕ → DialogueState)
    → LeavesIn a a 0 state
unfolding Leads
leaves_none a state = record {
  calls = [];
  added = added_none a;
  count = refl;
  lead = λ pieces. refl;
}

pub leaves_more : (a b c : Option (List ConnectionCall)) (tries : ℕ) (state : ℕ
    → DialogueState) (call : ConnectionCall) → LeavesIn a b tries state → AddsCalls b c (call ∷ [])
    → ((pieces : ℕ) → MayFollow (state pieces) call (state pieces)) → LeavesIn a c (tries + 1) state
unfolding Leads
leaves_more a b c tries state call before added may =
    record {
      calls = before.calls ++ (call ∷ []);
      added = added_on a b c before.calls (call ∷ []) before.added added;
      count = grind (arith, length-append, before.count);
      lead = λ pieces. lead_on before.calls (call ∷ []) (state pieces) (state pieces) (state pieces)
          (before.lead pieces) (state pieces, may pieces, refl);
    }

pub leaves_leads : (a b : Option (List ConnectionCall)) (tries : ℕ) (state : ℕ
    → DialogueState) (pieces : ℕ) → LeavesIn a b tries state
    → LeadsOn a b (state pieces) (state pieces)
leaves_leads a b tries state pieces before = record {
  calls = before.calls;
  added = before.added;
  lead = before.lead pieces;
}

pub leaves_many : (a b : Option (List ConnectionCall)) (tries : ℕ) (state : ℕ
    → DialogueState) (pieces : ℕ) → LeavesIn a b tries state → tries_max ≤ tries
    → TriesTooOften a b (state pieces)
leaves_many a b tries state pieces before many =
    record {
      calls = before.calls;
      added = before.added;
      next = state pieces;
      lead = before.lead pieces;
      many = omega (arith, before.count, many);
    }

-- ---- reads

pub reads_piece : (a b c : Option (List ConnectionCall)) (tries pieces count : ℕ) (room : List ℕ)
    → LeavesIn a b tries Waits → AddsCalls b c (Receives (take count room) ∷ [])
    → count ≤ length room
    → ReadsInOrder pieces a c (Ok count)
reads_piece a b c tries pieces zero room before added within =
    leads_on a b c (Waits pieces) (Waits pieces) InputEnded (leaves_leads a b tries Waits pieces
    before) (leads_one b c (Receives []) (Waits pieces) InputEnded added refl)
reads_piece a b c tries pieces (suc count) [] before added within = absurd (omega (arith, within))
reads_piece a b c tries pieces (suc count) (x ∷ xs) before added within =
    leads_on a b c (Waits pieces) (Waits pieces) (Replies (pieces + 1))
    (leaves_leads a b tries Waits pieces before)
    (leads_one b c (Receives (x ∷ take count xs)) (Waits pieces) (Replies (pieces + 1)) added refl)

pub reads_fault : (a b c : Option (List ConnectionCall)) (tries pieces : ℕ) (kind : ErrorKind)
    (fault : ServeFault) → LeavesIn a b tries Waits → AddsCalls b c (FailsToReceive kind ∷ [])
    → kind ≢ ErrorKind.Interrupted
    → ReadsInOrder pieces a c (Err fault)
reads_fault a b c tries pieces kind fault before added failed =
    inl (leads_on a b c (Waits pieces) (Waits pieces) ReaderFailed (leaves_leads a b tries Waits
    pieces before) (leads_one b c (FailsToReceive kind) (Waits pieces) ReaderFailed added
    (inr (failed, refl))))

-- ---- writes

pub sends_end : (a b c : Option (List ConnectionCall)) (tries pieces : ℕ) (call : ConnectionCall)
    (next : DialogueState) (fault : ServeFault) → LeavesIn a b tries Replies
    → AddsCalls b c (call ∷ [])
    → MayFollow (Replies pieces) call WriterFailed → SendsInOrder pieces next a c (Err fault)
sends_end a b c tries pieces call next fault before added may =
    inl (leads_on a b c (Replies pieces) (Replies pieces) WriterFailed
    (leaves_leads a b tries Replies pieces before) (leads_one b c call (Replies pieces)
    WriterFailed added may))

-- a write of some octets leaves the state
pub sent_some : (count pieces : ℕ) → (count ≡ 0 → ⊥)
    → MayFollow (Replies pieces) (Sends count) (Replies pieces)
sent_some zero pieces some = absurd (some refl)
sent_some (suc count) pieces some = refl

pub sent_none : (count pieces : ℕ) → count ≡ 0
    → MayFollow (Replies pieces) (Sends count) WriterFailed
sent_none zero pieces none = refl
sent_none (suc count) pieces none = absurd (omega (arith, none))

-- ---- a piece, and the whole connection

module _ (a b c : Option (List ConnectionCall)) (pieces : ℕ) where
  -- the input ended
  pub ends_at_end : (count : ℕ) → count ≡ 0 → LeadsOn a b (Waits 0) (Waits pieces)
      → ReadsInOrder pieces b c (Ok count) → EndsInOrder None a c
  ends_at_end zero none far reads = inl (leads_on a b c (Waits 0) (Waits pieces) InputEnded far
      reads)
  ends_at_end (suc count) none far reads = absurd (omega (arith, none))

  pub ends_reading : (fault : ServeFault) → fault ≡ Read → LeadsOn a b (Waits 0) (Waits pieces)
      → ReadsInOrder pieces b c (Err fault) → EndsInOrder (Some fault) a c
  ends_reading fault is far reads = subst (λ f. EndsInOrder (Some f) a c) (sym is) (by_case reads)
    where
      by_case : ReadsInOrder pieces b c (Err fault) → EndsInOrder (Some Read) a c
      by_case (inl failed) = inl (leads_on a b c (Waits 0) (Waits pieces) ReaderFailed far failed)
      by_case (inr often) = inr (tries_on a b c (Waits 0) (Waits pieces) far often)

  -- a piece was read
  pub read_some : (count : ℕ) → (count ≡ 0 → ⊥) → LeadsOn a b (Waits 0) (Waits pieces)
      → ReadsInOrder pieces b c (Ok count) → LeadsOn a c (Waits 0) (Replies (pieces + 1))
  read_some zero some far reads = absurd (some refl)
  read_some (suc count) some far reads =
      leads_on a b c (Waits 0) (Waits pieces) (Replies (pieces + 1)) far reads

  -- it was replied to
  pub replied : (closed : Bool) → LeadsOn a b (Waits 0) (Replies (pieces + 1))
      → AnswersInOrder (pieces + 1) b c (Ok closed) → LeadsOn a c (Waits 0) (Waits (pieces + 1))
  replied closed far answers = leads_on a b c (Waits 0) (Replies (pieces + 1)) (Waits (pieces + 1))
      far answers

  pub ends_answering : (fault : ServeFault) → LeadsOn a b (Waits 0) (Replies (pieces + 1))
      → AnswersInOrder (pieces + 1) b c (Err fault) → (fault ≡ Read → ⊥)
      → (fault ≡ TooManyTurns → ⊥) → EndsInOrder (Some fault) a c
  ends_answering Read far answers reads turns = absurd (reads refl)
  ends_answering TooManyTurns far answers reads turns = absurd (turns refl)
  ends_answering Memory far answers reads turns = (
    pieces + 1,
    inr (subst (λ d. LeadsOn a d (Waits 0) (Replies (pieces + 1))) (sym answers)
        far),
  )
  ends_answering Write far (inl failed) reads turns =
      inl (leads_on a b c (Waits 0) (Replies (pieces + 1)) WriterFailed far failed)
  ends_answering Write far (inr often) reads turns =
      inr (tries_on a b c (Waits 0) (Replies (pieces + 1)) far often)

-- a piece was read and replied to
pub read_and_replied : (a b c d : Option (List ConnectionCall)) (pieces count : ℕ) (closed : Bool)
    → (count ≡ 0 → ⊥) → LeadsOn a b (Waits 0) (Waits pieces) → ReadsInOrder pieces b c (Ok count)
    → AnswersInOrder (pieces + 1) c d (Ok closed) → LeadsOn a d (Waits 0) (Waits (pieces + 1))
read_and_replied a b c d pieces count closed some far reads answers =
    replied a c d pieces closed (read_some a b c pieces count some far reads) answers
