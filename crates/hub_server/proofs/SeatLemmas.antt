-- The turn of a seat, and the pieces of its octets.
use Rattle.std.proofs.Common.{◌≡◌, ◌∙◌, ◌<◌, ◌≤◌, ◌+◌, ◌-◌, ℕ, zero, suc, Bool, true, false, List}
use Rattle.std.proofs.Common.{[], ◌∷◌, Some, refl, sym, ap, arith, drop, get_or, length, take}
use Rattle.std.proofs.Common.{slice_get, slice_range, slice_set, nat_eq, if◌then◌else◌}
use Rattle.std.proofs.lemmas.List.{drop-drop, drop-take, length-take}
use Rattle.std.proofs.lemmas.Option.{slice_get-get_or}
use Rattle.http_hub.proofs.PlaceLemmas.{found_at}
use Rattle.hub_server.specs.Seats.{HasTurn, SeatValue, next_piece, seat_after_wait}
use Rattle.hub_server.specs.Seats.{seats_after_wait}
use Rattle.hub_server.specs.declared.turn.Turn.TheVariants.{Asleep, Awake}

-- ---- pieces

front_on : (b : Bool) (x : ℕ) (xs : List ℕ) → take (length (next_piece xs)) xs ≡ next_piece xs
    → take (length (if b then x ∷ [] else x ∷ next_piece xs)) (x ∷ xs) ≡ (if b then x ∷ []
    else x ∷ next_piece xs)
front_on true x xs same = refl
front_on false x xs same = ap (λ t. x ∷ t) same

-- a piece is the front of the octets
pub piece_front : (xs : List ℕ) → take (length (next_piece xs)) xs ≡ next_piece xs
piece_front [] = refl
piece_front (x ∷ xs) = front_on (nat_eq x 10) x xs (piece_front xs)

within_on : (b : Bool) (x : ℕ) (xs : List ℕ) → length (next_piece xs) ≤ length xs
    → length (if b then x ∷ [] else x ∷ next_piece xs) ≤ suc (length xs)
within_on true x xs within = omega arith
within_on false x xs within = omega (arith, within)

pub piece_within : (xs : List ℕ) → length (next_piece xs) ≤ length xs
piece_within [] = omega arith
piece_within (x ∷ xs) = within_on (nat_eq x 10) x xs (piece_within xs)

some_on : (b : Bool) (x : ℕ) (xs : List ℕ) → 0 < length (if b then x ∷ [] else x ∷ next_piece xs)
some_on true x xs = omega arith
some_on false x xs = omega arith

-- a piece of some octets isn't empty
pub piece_some : (xs : List ℕ) → 0 < length xs → 0 < length (next_piece xs)
piece_some [] some = some
piece_some (x ∷ xs) some = some_on (nat_eq x 10) x xs

-- ---- turns

pub asleep_has_none : (seat : SeatValue) → seat.turn ≡ Asleep → HasTurn seat → ⊥
asleep_has_none seat asleep has = let other : seat.turn ≡ Awake has.0 = has.1 in cc (asleep, other)

-- ---- the turns after a wait

pub wait_none : (seats : List SeatValue) → seats_after_wait [] seats ≡ seats
wait_none [] = refl
wait_none (seat ∷ seats) = refl

same_head : {A : Type 0} (x y : A) → Some x ≡ Some y → x ≡ y
same_head x y same = cc same

-- one more place begins its turn
pub wait_more : (ready : List Bool) (seats : List SeatValue) (i : ℕ) (is_ready : Bool) (seat :
    SeatValue) → slice_get ready i ≡ Some is_ready → slice_get seats i ≡ Some seat
    → slice_set (seats_after_wait (take i ready) seats) i (seat_after_wait is_ready seat)
    ≡ seats_after_wait (take (suc i) ready) seats
wait_more [] seats i is_ready seat at found = absurd (cc at)
wait_more (r ∷ ready) [] i is_ready seat at found = absurd (cc found)
wait_more (r ∷ ready) (s ∷ seats) zero is_ready seat at found =
    let same_ready : r ≡ is_ready = same_head r is_ready at in
    let same_seat : s ≡ seat = same_head s seat found in
    ap (λ (t : SeatValue). t ∷ seats) (ap (λ b. seat_after_wait b seat) (sym same_ready)
    ∙ ap (λ (t : SeatValue). seat_after_wait r t) (sym same_seat))
    ∙ ap (λ t. seat_after_wait r s ∷ t) (sym (wait_none seats))
wait_more (r ∷ ready) (s ∷ seats) (suc i) is_ready seat at found =
    ap (λ t. seat_after_wait r s ∷ t) (wait_more ready seats i is_ready seat at found)

-- a place that didn't begin its turn yet
pub wait_same : (ready : List Bool) (seats : List SeatValue) (i : ℕ)
    → slice_get (seats_after_wait (take i ready) seats) i ≡ slice_get seats i
wait_same ready [] i = refl
wait_same ready (s ∷ seats) zero = refl
wait_same [] (s ∷ seats) (suc i) = refl
wait_same (r ∷ ready) (s ∷ seats) (suc i) = wait_same ready seats i

-- a wait changes no unfed octets
pub wait_unfed : (ready : List Bool) (seats : List SeatValue) (i : ℕ) (seat : SeatValue)
    → slice_get (seats_after_wait ready seats) i ≡ Some seat
    → (old : SeatValue) × (slice_get seats i ≡ Some old) × (old.unfed ≡ seat.unfed)
wait_unfed ready [] i seat found = absurd (cc found)
wait_unfed [] (s ∷ seats) i seat found = (seat, found, refl)
wait_unfed (r ∷ ready) (s ∷ seats) zero seat found =
    (s, refl, ap (λ (t : SeatValue). t.unfed) (same_head (seat_after_wait r s) seat found))
wait_unfed (r ∷ ready) (s ∷ seats) (suc i) seat found = wait_unfed ready seats i seat found

-- what a place reads is there
pub begins_more : (ready : List Bool) (seats now : List SeatValue) (i : ℕ) (seat next : SeatValue)
    → i < length ready → i < length now → now ≡ seats_after_wait (take i ready) seats
    → seat ≡ get_or now i seat
    → next ≡ seat_after_wait (get_or ready i false) seat
    → slice_set now i next ≡ seats_after_wait (take (i + 1) ready) seats
begins_more ready seats now i seat next within there is seat_is next_is =
    let found : slice_get now i ≡ Some seat = found_at now i seat there seat_is in
    let before : slice_get seats i ≡ Some seat = sym (wait_same ready seats i)
    ∙ ap (λ (t : List SeatValue). slice_get t i) (sym is) ∙ found in
    let one_more : suc i ≡ i + 1 = omega arith in
    ap (λ (t : List SeatValue). slice_set t i next) is
    ∙ ap (λ (x : SeatValue). slice_set (seats_after_wait (take i ready) seats) i x) next_is
    ∙ wait_more ready seats i (get_or ready i false) seat (slice_get-get_or ready i false within)
    before ∙ ap (λ n. seats_after_wait (take n ready) seats) one_more

-- ---- octets that were fed

pub slice_later : (xs : List ℕ) (from count end : ℕ) → count ≤ length (slice_range xs from end)
    → from ≤ end → slice_range xs (from + count) end ≡ drop count (slice_range xs from end)
slice_later xs from count end within order =
    let few : count ≤ end - from = omega (arith, length-take (end - from) (drop from xs), within) in
    let same : end - from ≡ count + (end - (from + count)) = omega (arith, few, order) in
    sym (ap (λ n. drop count (take n (drop from xs))) same
    ∙ drop-take count (end - (from + count)) (drop from xs)
    ∙ ap (λ (t : List ℕ). take (end - (from + count)) t) (drop-drop count from xs))
