-- The calls about sockets that linger, and which sockets linger after them.
use Rattle.std.proofs.Common.{◌≡◌, ◌⊎◌, ◌∙◌, ◌+◌, ℕ, zero, suc, Bool, true, false, List, [], ◌∷◌}
use Rattle.std.proofs.Common.{Option, Some, None, Ok, Err, inl, inr, refl, sym, ap, subst, map}
use Rattle.std.proofs.Common.{get_or, set, min, nat_eq, if◌then◌else◌}
use Rattle.socket_endpoint.specs.Lingering.{DrainsSlots, DropsInput, IsDrain, IsLingering}
use Rattle.socket_endpoint.specs.Lingering.{IsWatched, LooksAt, NoneIsOver, OnlyLeave, StaysOrGoes}
use Rattle.socket_endpoint.specs.Lingering.{WatchesUnlessOver, lingering, lingering_at}
use Rattle.socket_endpoint.specs.LingerSlots.{is_slot_given_up, slot_after}
use Rattle.socket_endpoint.specs.Lingers.{linger_after}
use Rattle.socket_endpoint.specs.PollTimes.{most_time}
use Rattle.socket_endpoint.specs.declared.linger.Linger.{Linger}
use Rattle.socket_endpoint.specs.SocketCalls.{Repeats, SocketCall, SocketLog}
use Rattle.socket_endpoint.specs.SocketCalls.Repeats.{no_call, one_more_call}
use Rattle.socket_endpoint.specs.SocketCalls.SocketCall.{ReadsClock, Polls, WatchesListener}
use Rattle.socket_endpoint.specs.SocketCalls.SocketCall.{Accepts, SendsAtOnce, Watches}
use Rattle.socket_endpoint.specs.SocketCalls.SocketCall.{WatchesInput, ReadsSocket, WritesSocket}
use Rattle.socket_endpoint.specs.SocketCalls.SocketCall.{EndsSending}
use Rattle.socket_endpoint.specs.declared.lingerers.Lingerer.{Lingerer}

leave_step : {A : Type 0} (x y z : Option A) → (z ≡ None) ⊎ (z ≡ y) → (y ≡ None) ⊎ (y ≡ x)
    → (z ≡ None) ⊎ (z ≡ x)
leave_step x y z (inl gone) earlier = inl gone
leave_step x y z (inr same) (inl gone) = inl (same ∙ gone)
leave_step x y z (inr same) (inr was) = inr (same ∙ was)

was_there : {A : Type 0} (x y : Option A) (z : A) → (y ≡ None) ⊎ (y ≡ x) → y ≡ Some z → x ≡ Some z
was_there x y z (inl gone) found = absurd (cc (gone, found))
was_there x y z (inr same) found = sym same ∙ found

closed_if : (count : Bool) (x y : Linger) → y.closed_at ≡ x.closed_at
    → (if count then x else y).closed_at ≡ x.closed_at
closed_if true x y same = refl
closed_if false x y same = same

closed_kept : (linger : Linger) (count now : ℕ) → (linger_after linger count now).closed_at ≡
    linger.closed_at
closed_kept linger count now = closed_if (nat_eq count 0) linger (record {
  closed_at =
      linger.closed_at;
  heard_at = now;
  dropped = min (linger.dropped + count) most_time;
}) refl

module _ {C : Type 0} where
  pub leave_same : (slots : List (Option (Lingerer C))) → OnlyLeave slots slots
  leave_same slots slot = inr refl

  pub leave_trans : (a b c : List (Option (Lingerer C))) → OnlyLeave a b → OnlyLeave b c
      → OnlyLeave a c
  leave_trans a b c first later slot = leave_step (lingering_at a slot) (lingering_at b slot)
      (lingering_at c slot) (later slot) (first slot)

  pub leave_set : (slots : List (Option (Lingerer C))) (i : ℕ) (next : Option (Lingerer C))
      → (lingering next ≡ None) ⊎ (lingering next ≡ lingering_at slots i)
      → OnlyLeave slots (set slots i next)
  leave_set [] i next kept j = inr refl
  leave_set (x ∷ xs) zero next kept zero = kept
  leave_set (x ∷ xs) zero next kept (suc j) = inr refl
  leave_set (x ∷ xs) (suc i) next kept zero = inr refl
  leave_set (x ∷ xs) (suc i) next kept (suc j) = leave_set xs i next kept j

  lingers_at : (slots : List (Option (Lingerer C))) (slot : ℕ) (lingerer : Lingerer C)
      → get_or slots slot None ≡ Some lingerer → IsLingering slots lingerer.stream
  lingers_at slots slot lingerer found = (slot, lingerer.linger.closed_at, ap lingering found)

  lingering_before : (a b : List (Option (Lingerer C))) → OnlyLeave a b → (stream : C)
      → IsLingering b stream → IsLingering a stream
  lingering_before a b leave stream it = (
    it.0,
    it.1,
    was_there (lingering_at a it.0) (lingering_at
        b it.0) (stream, it.1) (leave it.0) it.2,
  )

  after_given_up : (slot : Option (Lingerer C)) (over : Bool)
      → (lingering (if over then None else slot) ≡ None) ⊎ (lingering (if over then None else slot)
      ≡ lingering slot)
  after_given_up slot true = inl refl
  after_given_up slot false = inr refl

  leave_map : (now : ℕ) (slots : List (Option (Lingerer C)))
      → OnlyLeave slots (map (slot_after now) slots)
  leave_map now [] slot = inr refl
  leave_map now (x ∷ xs) zero = after_given_up x (is_slot_given_up now x)
  leave_map now (x ∷ xs) (suc slot) = leave_map now xs slot

  not_over : (now : ℕ) (slot : Option (Lingerer C)) (over : Bool)
      → is_slot_given_up now slot ≡ over → is_slot_given_up now (if over then None else slot) ≡
      false
  not_over now slot true is = refl
  not_over now slot false is = is

  none_over : (now : ℕ) (slots : List (Option (Lingerer C)))
      → NoneIsOver now (map (slot_after now) slots)
  none_over now [] slot = refl
  none_over now (x ∷ xs) zero = not_over now x (is_slot_given_up now x) refl
  none_over now (x ∷ xs) (suc slot) = none_over now xs slot

  pub given_up_none : (now : ℕ) (middle new : List (Option (Lingerer C)))
      → new ≡ map (slot_after now) middle → NoneIsOver now new
  given_up_none now middle new is = subst (λ slots. NoneIsOver now slots) (sym is) (none_over now
      middle)

module _ {L C : Type 0} where
  pub same_log : {P : SocketCall L C → Type 0} (x y : SocketLog L C) → y ≡ x → Repeats P 0 x y
  same_log {P} x y is = subst (λ t. Repeats P 0 x t) (sym is) no_call

  pub join : {P Q : SocketCall L C → Type 0} {n m : ℕ} {x y z : SocketLog L C} → Repeats P n x y
      → ((call : SocketCall L C) → Q call → P call) → Repeats Q m y z
      → (total : ℕ) × Repeats P total x z
  join {n = n} first imp no_call = (n, first)
  join first imp (one_more_call call rest such is) = let so_far = join first imp rest in (
    so_far.0 +
        1,
    one_more_call call so_far.1 (imp call such) is,
  )

  drain_before : (a b : List (Option (Lingerer C))) → OnlyLeave a b → (call : SocketCall L C)
      → IsDrain b call → IsDrain a call
  drain_before a b leave (ReadsSocket stream buffer answer) it = lingering_before a b leave stream
      it
  drain_before a b leave (WatchesInput stream token answer) it = (
    it.0,
    it.1,
    it.2,
    was_there
        (lingering_at a it.0) (lingering_at b it.0) (stream, it.1) (leave it.0) it.3,
  )
  drain_before a b leave (ReadsClock answer) it = absurd it
  drain_before a b leave (Polls most time answer events) it = absurd it
  drain_before a b leave (WatchesListener listener token answer) it = absurd it
  drain_before a b leave (Accepts listener answer) it = absurd it
  drain_before a b leave (SendsAtOnce stream) it = absurd it
  drain_before a b leave (Watches stream token answer) it = absurd it
  drain_before a b leave (WritesSocket stream octets answer) it = absurd it
  drain_before a b leave (EndsSending stream answer) it = absurd it

  pub drains_none : (slots : List (Option (Lingerer C))) (x : SocketLog L C)
      → DrainsSlots slots slots x x
  drains_none slots x = record { count = 0; calls = no_call; leave = leave_same slots }

  pub drains_trans : (a b c : List (Option (Lingerer C))) (x y z : SocketLog L C)
      → DrainsSlots a b x y → DrainsSlots b c y z → DrainsSlots a c x z
  drains_trans a b c x y z first later =
      let calls = join first.calls (drain_before a b first.leave) later.calls in
      record { count = calls.0; calls = calls.1; leave = leave_trans a b c first.leave later.leave }

  -- ---- one look

  abbrev Some_calls : List (Option (Lingerer C)) → SocketLog L C → SocketLog L C → Type 0
  Some_calls slots x y = (count : ℕ) × Repeats (IsDrain slots) count x y

  reads_drain : (slots : List (Option (Lingerer C))) (stream : C) (x y : SocketLog L C) {room most
      count : ℕ} {expected : _} → IsLingering slots stream → DropsInput stream room most count
      expected x y → Some_calls slots x y
  reads_drain slots stream x y there (inl nothing) = (0, same_log x y nothing.unread)
  reads_drain slots stream x y there (inr once) = (
    0 + 1,
    one_more_call (ReadsSocket stream
        once.buffer once.answer) no_call there once.made,
  )

  watch_drains : (slots : List (Option (Lingerer C))) (stream : C) (closed_at count slot : ℕ) (done
      : Bool) (x y : SocketLog L C) → lingering_at slots slot ≡ Some (stream, closed_at)
      → IsWatched stream count slot done x y → Some_calls slots x y
  watch_drains slots stream closed_at count slot true x y there it = (
    0 + 1,
    one_more_call
        (WatchesInput stream it.0 (Ok tt)) no_call (slot, closed_at, it.1, there) it.2,
  )
  watch_drains slots stream closed_at count slot false x y there (inl it) = (
    0 + 1,
    one_more_call
        (WatchesInput stream it.0 (Err it.1)) no_call (slot, closed_at, it.2, there) it.3,
  )
  watch_drains slots stream closed_at count slot false x y there (inr it) = (0, same_log x y it.0)

  -- ---- those whose time is over

  pub given_up_leave : (now : ℕ) (old middle new : List (Option (Lingerer C))) (x y : SocketLog L C)
      → new ≡ map (slot_after now) middle → DrainsSlots old middle x y → DrainsSlots old new x y
  given_up_leave now old middle new x y is drains =
      record {
        count = drains.count;
        calls = drains.calls;
        leave = leave_trans old middle new
            drains.leave (subst (λ slots. OnlyLeave middle slots) (sym is) (leave_map now middle));
      }

  -- no socket was in the slot
  pub drains_free : (slots : List (Option (Lingerer C))) (slot : ℕ) (x : SocketLog L C)
      → DrainsSlots slots (set slots slot None) x x
  drains_free slots slot x = record {
    count = 0;
    calls = no_call;
    leave = leave_set slots slot None
        (inl refl);
  }

module _ {L C : Type 0} (slots : List (Option (Lingerer C))) (slot : ℕ) (old new : Lingerer C)
    (found : get_or slots slot None ≡ Some old) where
  watch_calls : (count : ℕ) (stream : C) (over stays : Bool) (x y : SocketLog L C)
      → stream ≡ old.stream → WatchesUnlessOver over stream count slot stays x y
      → Some_calls slots x y
  watch_calls count stream true stays x y same it = (0, same_log x y it.1)
  watch_calls count stream false stays x y same it =
      watch_drains slots old.stream old.linger.closed_at count slot stays x y (ap lingering found)
      (subst (λ s. IsWatched s count slot stays x y) same it)

  look_calls : (room now count : ℕ) (stays : Bool) (x y : SocketLog L C)
      → StaysOrGoes old new room now count slot stays x y → Some_calls slots x y
  look_calls room now count stays x y it =
      let first = reads_drain slots old.stream x it.middle (lingers_at slots slot old found)
      it.looks.reads in
      let later = watch_calls count new.stream it.over stays it.middle y it.looks.stream_is
      it.watches in
      join first.1 (λ call such. such) later.1

  closed_same : (room now : ℕ) (over : Bool) (x y : SocketLog L C)
      → LooksAt old new room now over x y → new.linger.closed_at ≡ old.linger.closed_at
  closed_same room now over x y looks = ap (λ linger. linger.closed_at) looks.linger_is
      ∙ closed_kept old.linger looks.count now

  -- the socket goes
  pub look_goes : (room now count : ℕ) (x y : SocketLog L C)
      → StaysOrGoes old new room now count slot false x y → DrainsSlots slots (set slots slot None)
      x y
  look_goes room now count x y it =
      let calls = look_calls room now count false x y it in
      record { count = calls.0; calls = calls.1; leave = leave_set slots slot None (inl refl) }

  -- it lingers on
  pub look_stays : (room now count : ℕ) (x y : SocketLog L C)
      → StaysOrGoes old new room now count slot true x y → DrainsSlots slots (set slots slot (Some
      new)) x y
  look_stays room now count x y it =
      let calls = look_calls room now count true x y it in
      let closed = closed_same room now it.over x it.middle it.looks in
      let stays : lingering (Some new) ≡ lingering_at slots slot = ap (λ stream. Some (
        stream,
        new.linger.closed_at,
      )) it.looks.stream_is ∙ ap (λ time. Some (old.stream, time)) closed
      ∙ sym (ap lingering found) in
      record {
        count = calls.0;
        calls = calls.1;
        leave = leave_set slots slot (Some new) (inr stays);
      }
