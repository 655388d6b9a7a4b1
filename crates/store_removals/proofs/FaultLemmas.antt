-- What a planned removal or move gives to its writes.
use Rattle.std.proofs.Common.{◌≡◌, ◌<◌, ◌≤◌, ◌+◌, ◌^◌, ℕ, ℤ, pos, Bool, true, false, not, is_some}
use Rattle.std.proofs.Common.{List, [], ◌∷◌, filter, map, take, min, Option, Some, None, Result, Ok}
use Rattle.std.proofs.Common.{IfSome, refl, ap, ◌∙◌, arith}
use Rattle.std.specs.Option.{option_map_or}
use Rattle.std.specs.List.{AllByRecursion}
use Rattle.sqlite.specs.Order.{Row, column}
use Rattle.sqlite.specs.declared.types.Value.TheVariants.{Int}
use Rattle.sqlite_trees.proofs.ListLemmas.{all-permutation}
use Rattle.book_model.specs.declared.answers.Stored.{Stored}
use Rattle.book_model.specs.Bounds.{Bounds}
use Rattle.book_model.specs.declared.answers.Moved.{Moved}
use Rattle.book_model.specs.declared.refusal.Refusal.{Refusal}
use Rattle.book_model.specs.declared.refusal.Refusal.TheVariants.{BookFull, UidTaken}
use Rattle.book_model.specs.declared.refusal.Refusal.TheVariants.{VersionMismatch}
use Rattle.book_model.specs.CallOutcomes.{◌>>=◌, refuse_unless}
use Rattle.std.specs.Prelude.{nat_lt}
use Rattle.book_model.specs.Moving.{Moving, move_answer, move_numbers, moving_of}
use Rattle.book_model.specs.Putting.{FoundMember, is_expected, next_number}
use Rattle.book_model.specs.Removing.{remove_number}
use Rattle.store_tables.specs.Members.{MemberRow, by_changed, is_removed_above, number_shown}
use Rattle.store_tables.specs.QueryResults.{FindsFirstRow}
use Rattle.store_rows.specs.Values.{natural}
use Rattle.store_lookups.specs.StoreFaults.{IsFaultlessMember}
use Rattle.store_lookups.proofs.StoreFaultLemmas.{cell}
use Rattle.store_writes.proofs.NumberLemmas.{next_room, passed, through}

-- a removal that gets a number removes a live card
pub removes_live : (limits : Bounds) (found : FoundMember) (expect : Option ℕ) (number : ℕ)
    → remove_number limits found expect ≡ Ok number → (stored : Stored) × (found.live ≡ Some stored)
removes_live limits found expect number is = go found.live refl
  where
    go : (live : Option Stored) → found.live ≡ live → (stored : Stored) × (found.live ≡ Some stored)
    go None e = absurd (let bad = rw e at is in cc)
    go (Some stored) e = (stored, e)

pub removal_room : (limits : Bounds) (found : FoundMember) (expect : Option ℕ) (number : ℕ)
    → remove_number limits found expect ≡ Ok number → found.number < limits.changes_max
removal_room limits found expect number is =
    let live = removes_live limits found expect number is in
    next_room limits found.number number (passed (is_expected expect live.0.version)
    (VersionMismatch live.0.version) (next_number limits found.number) number
    (rw live.1 at is)).1

-- the number of the first removed member is read
pub first_readable : (h : ℤ) (book : ℤ) (ms : List MemberRow) (row : Row)
    → AllByRecursion IsFaultlessMember ms
    → FindsFirstRow by_changed number_shown (filter (is_removed_above book h) ms) (Ok row) → (n : ℕ)
    × (column row 0 ≡ Int (pos n))
first_readable h book ms row all first =
    go first.ordered (all-permutation IsFaultlessMember _ first.ordered first.same
    (filtered ms all)) first.first
  where
    filtered : (xs : List MemberRow) → AllByRecursion IsFaultlessMember xs
        → AllByRecursion IsFaultlessMember (filter (is_removed_above book h) xs)
    filtered [] all = tt
    filtered (x ∷ xs) all = step (is_removed_above book h x) refl (filtered xs all.1)
      where
        step : (b : Bool) → is_removed_above book h x ≡ b
            → AllByRecursion IsFaultlessMember (filter (is_removed_above book h) xs)
            → AllByRecursion IsFaultlessMember (filter (is_removed_above book h) (x ∷ xs))
        step true e more = rw e (all.0, more)
        step false e more = rw e more

    head : (x y : Row) (xs ys : List Row) → x ∷ xs ≡ y ∷ ys → x ≡ y
    head x y xs ys e = cc

    go : (ys : List MemberRow) → AllByRecursion IsFaultlessMember ys
        → row ∷ [] ≡ take 1 (map number_shown ys) → (n : ℕ) × (column row 0 ≡ Int (pos n))
    go [] all e = absurd (let bad = e in cc)
    go (y ∷ ys) all e = (
      natural y.changed,
      ap (λ r. column r 0) (head row (number_shown y) [] [] e)
          ∙ cell y.changed all.0.readable.changed,
    )

-- what a plan forgets is at most the next number
pub least_within : (first : Option ℕ) (number drop : ℕ)
    → drop ≡ option_map_or (min number) first number → drop ≤ number
least_within None number drop is = omega (arith, is)
least_within (Some first) number drop is = omega (arith, is)

pub drop_below : (drop : Option ℕ) (number : ℕ) → IfSome drop (λ upto. upto ≤ number + 1)
    → number + 1 < 2 ^ 63 → IfSome drop (λ upto. upto < 2 ^ 63)
drop_below None number low fits = tt
drop_below (Some upto) number low fits = omega (arith, low, fits)

-- the number of a change is below the limit
pub moves_live : (limits : Bounds) (source target : FoundMember) (expect : Option ℕ) (moving :
    Moving) → move_answer limits source target expect ≡ Ok moving → (stored : Stored)
    × (source.live ≡ Some stored)
moves_live limits source target expect moving is = go source.live refl
  where
    go : (live : Option Stored) → source.live ≡ live → (stored : Stored)
        × (source.live ≡ Some stored)
    go None e = absurd (let bad = rw e at is in cc)
    go (Some stored) e = (stored, e)

pub move_rooms : (limits : Bounds) (source target : FoundMember) (expect : Option ℕ) (moving :
    Moving) → move_answer limits source target expect ≡ Ok moving
    → (source.number < limits.changes_max) × (target.number < limits.changes_max)
move_rooms limits source target expect moving is =
    let live = moves_live limits source target expect moving is in
    let stored = live.0 in
    let last = move_numbers limits target.cards source.number target.number >>= λ numbers. Ok
    (moving_of stored.card numbers) in
    let free = passed (not (is_some target.live)) UidTaken
    (refuse_unless (is_expected expect stored.version) (VersionMismatch stored.version) >>= λ _.
    last) moving (rw live.1 at is) in
    let expected = passed (is_expected expect stored.version) (VersionMismatch stored.version) last
    moving free.1 in
    numbered stored (through (move_numbers limits target.cards source.number target.number)
    (λ numbers. Ok (moving_of stored.card numbers)) moving expected.1)
  where
    numbered : (stored : Stored) → (numbers : Moved)
        × (move_numbers limits target.cards source.number target.number ≡ Ok numbers)
        × ◌≡◌ {A = Result Moving Refusal} (Ok (moving_of stored.card numbers)) (Ok moving)
        → (source.number < limits.changes_max) × (target.number < limits.changes_max)
    numbered stored it =
        let next = λ (from : ℕ). next_number limits target.number >>= λ version. Ok
        (record { from = from; version = version }) in
        let room = passed (nat_lt target.cards limits.cards_max) BookFull
        (next_number limits source.number >>= next) it.0 it.1 in
        let from = through (next_number limits source.number) next it.0 room.1 in
        let version = through (next_number limits target.number)
        (λ version. Ok (record { from = from.0; version = version })) it.0 from.2 in (
          next_room limits source.number from.0 from.1,
          next_room limits target.number version.0
              version.1,
        )
