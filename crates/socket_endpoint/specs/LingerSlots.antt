-- The slots of the closed connections that linger.
use Rattle.std.specs.Prelude.{◌≡◌, ◌≤◌, ℕ, suc, Bool, false, min, List, map, Option, Some, None}
use Rattle.std.specs.Prelude.{slice_get, if◌then◌else◌}
use Rattle.std.specs.List.{fold}
use Rattle.socket_endpoint.specs.Lingers.{deadline_of, is_given_up}
use Rattle.socket_endpoint.specs.PollTimes.{earlier, most_time}
use Rattle.socket_endpoint.specs.declared.lingerers.Lingerer.{Lingerer}

-- when the connection in the slot is given up if no octets come
abbrev pub slot_deadline : {C : Type 0} → Option (Lingerer C) → Option ℕ
slot_deadline None = None
slot_deadline (Some lingerer) = Some (min (deadline_of lingerer.linger) most_time)

-- when the first of them is
abbrev pub first_deadline : {C : Type 0} → List (Option (Lingerer C)) → Option ℕ
first_deadline slots = fold earlier None (map slot_deadline slots)

-- a free slot comes before all others, and then that of the connection that was closed first
abbrev pub slot_rank : {C : Type 0} → Option (Lingerer C) → ℕ
slot_rank None = 0
slot_rank (Some lingerer) = suc lingerer.linger.closed_at

-- no slot comes before this one
abbrev pub IsFirstSlot : {C : Type 0} → List (Option (Lingerer C)) → ℕ → Type 0
IsFirstSlot {C = C} slots first = (other : ℕ) → (slot chosen : Option (Lingerer C))
    → slice_get slots other ≡ Some slot → slice_get slots first ≡ Some chosen
    → slot_rank chosen ≤ slot_rank slot

-- the connection in the slot is given up
abbrev pub is_slot_given_up : {C : Type 0} → ℕ → Option (Lingerer C) → Bool
is_slot_given_up now None = false
is_slot_given_up now (Some lingerer) = is_given_up lingerer.linger now

-- the slot, which is free if its connection is given up
abbrev pub slot_after : {C : Type 0} → ℕ → Option (Lingerer C) → Option (Lingerer C)
slot_after now slot = if is_slot_given_up now slot then None else slot
