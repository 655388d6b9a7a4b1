-- Which removal a book drops.
use Rattle.std.proofs.Common.{◌≡◌, ℕ, ◌+◌, ◌≤◌, Bool, true, false, not, ◌&&◌, cond, is_some, nat_lt}
use Rattle.std.proofs.Common.{length, List, [], ◌∷◌, ◌++◌, map, filter, Option, Some, None, Less}
use Rattle.std.proofs.Common.{Equal, Greater, min, refl, sym, ap, ◌∙◌, subst, arith}
use Rattle.std.specs.Option.{option_map_or}
use Rattle.std.specs.FinMap as finite
use Rattle.std.specs.FinMap.{entries-insert}
use Rattle.std.specs.FinMap.Entries.{put, by_order}
use Rattle.std.proofs.Math.Nat.{min_comm, le-min}
use Rattle.std.proofs.lemmas.Bool.{both_ways}
use Rattle.std.proofs.lemmas.List.{map-append}
use Rattle.base_types.specs.TextMaps.{text_cmp}
use Rattle.base_types.proofs.TextLemmas.{text_total}
use Rattle.vcard_lines.specs.declared.line.Line.{Line}
use Rattle.book_model.specs.declared.row.Row.{Row}
use Rattle.book_model.specs.BookChanges.{least}
use Rattle.book_model.specs.Pages.{MemberWithRow}
use Rattle.book_model.specs.BookQueries.{is_tombstone_after, tombstone_count_after}
use Rattle.book_model.specs.Counting.{one_if}
use Rattle.sync_core.proofs.RowLemmas.{Rows, nat_lt-false}

-- the least of some numbers and one more
least_more : (n : ℕ) (ns : List ℕ)
    → least (ns ++ (n ∷ [])) ≡ Some (option_map_or (min n) (least ns) n)
least_more n [] = refl
least_more n (k ∷ ns) =
    ap (λ (o : Option ℕ). Some (option_map_or (min k) o k)) (least_more n ns)
    ∙ elim (least ns) as (λ (o : Option ℕ). Some (min k (option_map_or (min n) o n))
    ≡ Some (min n (option_map_or (min k) o k))) [
      | Some m ↦ ap Some (swapped k n m)
      | None ↦ ap Some (min_comm k n)
    ]
  where
    swapped : (a b c : ℕ) → min a (min b c) ≡ min b (min a c)
    swapped a b c = grind arith

-- the numbers of the removals among members, in their order
abbrev pub numbers_of : ℕ → List MemberWithRow → List ℕ
numbers_of h ms = map (λ m. m.1.changed) (filter (λ (m : MemberWithRow). is_tombstone_after h m.1)
    ms)

numbers_more : (h : ℕ) (ms : List MemberWithRow) (m : MemberWithRow)
    → is_tombstone_after h m.1 ≡ true → numbers_of h (ms ++ (m ∷ [])) ≡ numbers_of h ms
    ++ (m.1.changed ∷ [])
numbers_more h [] m e = ap (λ b. map (λ m. m.1.changed) (cond b (m ∷ []) [])) e
numbers_more h (x ∷ ms) m e =
    elim (is_tombstone_after h x.1) as (λ b. map (λ m. m.1.changed)
    (cond b (x ∷ filter (λ (m : MemberWithRow). is_tombstone_after h m.1) (ms ++ (m ∷ [])))
    (filter (λ (m : MemberWithRow). is_tombstone_after h m.1) (ms ++ (m ∷ []))))
    ≡ map (λ m. m.1.changed) (cond b (x ∷ filter (λ (m : MemberWithRow). is_tombstone_after h m.1)
    ms) (filter (λ (m : MemberWithRow). is_tombstone_after h m.1) ms)) ++ (m.1.changed ∷ [])) [
      | true ↦ ap (λ ns. x.1.changed ∷ ns) (numbers_more h ms m e)
      | false ↦ numbers_more h ms m e
    ]

-- one more removal
pub removal_more : {A B : Type 0} (f : A → B) (g : B → MemberWithRow) (h : ℕ) (xs : List A) (x : A)
    → is_tombstone_after h (g (f x)).1 ≡ true
    → Some (option_map_or (min (g (f x)).1.changed) (least (numbers_of h (map g (map f xs))))
    (g (f x)).1.changed) ≡ least (numbers_of h (map g (map f (xs ++ (x ∷ [])))))
removal_more f g h xs x e =
    sym (least_more (g (f x)).1.changed (numbers_of h (map g (map f xs))))
    ∙ ap least (sym (numbers_more h (map g (map f xs)) (g (f x)) e))
    ∙ ap (λ ms. least (numbers_of h ms)) (sym (ap (map g) (map-append f xs (x ∷ []))
    ∙ map-append g (map f xs) (f x ∷ [])))

-- ---- the number of tombstones

counted : {A : Type 0} (b : Bool) (x : A) (xs : List A) → length (cond b (x ∷ xs) xs)
    ≡ one_if b + length xs
counted b x xs = elim b as (λ t. length (cond t (x ∷ xs) xs) ≡ one_if t + length xs) [
  | true ↦
      omega arith
  | false ↦ omega arith
]

filter_short : {A : Type 0} (p : A → Bool) (xs : List A) → length (filter p xs) ≤ length xs
filter_short p [] = omega arith
filter_short p (x ∷ xs) =
    let rest = filter_short p xs in
    elim (p x) as (λ b. length (cond b (x ∷ filter p xs) (filter p xs)) ≤ length (x ∷ xs)) [
      | true ↦ omega (arith, rest)
      | false ↦ omega (arith, rest)
    ]

abbrev removed_of : ℕ → List MemberWithRow → List MemberWithRow
removed_of h ms = filter (λ (m : MemberWithRow). is_tombstone_after h m.1) ms

-- writing a row adds at most one removal
put_bound : (h : ℕ) (uid : List ℕ) (row : Row) (ms : List MemberWithRow)
    → length (removed_of h (put text_cmp uid row ms)) ≤ length (removed_of h ms) + one_if
    (is_tombstone_after h row)
put_bound h uid row [] =
    let one = counted {A = MemberWithRow} (is_tombstone_after h row) (uid, row) [] in
    omega (arith, one)
put_bound h uid row (m ∷ ms) =
    let rest = put_bound h uid row ms in
    let was = counted (is_tombstone_after h m.1) m (removed_of h ms) in
    elim (text_cmp uid m.0) as (λ o. length
    (removed_of h (by_order o ((uid, row) ∷ m ∷ ms) ((m.0, row) ∷ ms)
    (m ∷ put text_cmp uid row ms))) ≤ length (removed_of h (m ∷ ms)) + one_if
    (is_tombstone_after h row)) [
      | Less ↦ let one = counted {A = MemberWithRow} (is_tombstone_after h row) (
        uid,
        row,
      ) (removed_of h (m ∷ ms)) in omega (arith, one)
      | Equal ↦ let one = counted {A = MemberWithRow} (is_tombstone_after h row) (
        m.0,
        row,
      ) (removed_of h ms) in omega (arith, one, was)
      | Greater ↦ let is = counted (is_tombstone_after h m.1) m
          (removed_of h (put text_cmp uid row ms)) in omega (arith, is, was, rest)
    ]

-- there are at most as many removals as members
pub removed_short : (h : ℕ) (members : Rows) → tombstone_count_after members h ≤ finite.len members
removed_short h members =
    let short = filter_short (λ (m : MemberWithRow). is_tombstone_after h m.1)
    (finite.entries members) in
    let long = finite.len-entries members in
    omega (arith, short, long)

pub bound_insert : (h bound : ℕ) (members : Rows) (uid : List ℕ) (row : Row)
    → tombstone_count_after members h ≤ bound
    → tombstone_count_after (finite.insert members uid row) h ≤ bound + one_if
    (is_tombstone_after h row)
bound_insert h bound members uid row before =
    let put = subst (λ (ms : List MemberWithRow). length (removed_of h ms) ≤ length
    (removed_of h (finite.entries members)) + one_if (is_tombstone_after h row))
    (sym (entries-insert text_total members uid row))
    (put_bound h uid row (finite.entries members)) in
    omega (arith, put, before)

-- the row of a change is a removal only if it has no card
one_removal : (h n : ℕ) (card : Option (List Line)) (is_removal : Bool)
    → is_some card ≡ not is_removal → one_if (is_tombstone_after h (record {
      changed = n;
      card = card;
    })) ≤ one_if is_removal
one_removal h n (Some card) is_removal e = omega arith
one_removal h n None true e = elim (nat_lt h n) as (λ b. one_if b ≤ 1) [
  | true ↦ omega arith
  | false ↦ omega arith
]
one_removal h n None false e = absurd (both_ways false refl e)

pub bound_changed : (h bound next rows : ℕ) (is_removal : Bool) (members new : Rows) (uid : List ℕ)
    (n : ℕ) (card : Option (List Line)) → tombstone_count_after members h ≤ bound
    → new ≡ finite.insert members uid (record { changed = n; card = card })
    → is_some card ≡ not is_removal → rows ≡ finite.len new
    → next ≡ min (bound + one_if is_removal) rows
    → tombstone_count_after new h ≤ next
bound_changed h bound next rows is_removal members new uid n card before wrote none long is =
    let more : tombstone_count_after new h ≤ bound + one_if
    (is_tombstone_after h (record { changed = n; card = card })) =
    subst (λ (m : Rows). tombstone_count_after m h ≤ bound + one_if
    (is_tombstone_after h (record { changed = n; card = card }))) (sym wrote)
    (bound_insert h bound members uid (record { changed = n; card = card }) before) in
    let one = one_removal h n card is_removal none in
    let short = removed_short h new in
    subst (λ (k : ℕ). tombstone_count_after new h ≤ k) (sym is) (le-min (omega (arith, more, one))
    (omega (arith, short, long)))

pub bound_room : (h bound : ℕ) (members : Rows) (uid : List ℕ)
    → tombstone_count_after members h ≤ bound
    → tombstone_count_after (finite.insert members uid (record { changed = 0; card = None })) h ≤
    bound
bound_room h bound members uid before =
    let put = bound_insert h bound members uid (record { changed = 0; card = None }) before in
    let none = ap one_if (nat_lt-false h 0 (omega arith)) in
    omega (arith, put, none)

-- storing a card isn't a removal
pub bound_stored : (h bound : ℕ) (members new : Rows) (uid : List ℕ) (row : Row) (card : List Line)
    → tombstone_count_after members h ≤ bound → new ≡ finite.insert members uid row
    → row.card ≡ Some card
    → tombstone_count_after new h ≤ bound
bound_stored h bound members new uid row card before wrote some =
    let put = bound_insert h bound members uid row before in
    let none : one_if (is_tombstone_after h row) ≡ 0 =
    ap (λ (o : Option (List Line)). one_if (not (is_some o) && nat_lt h row.changed)) some in
    subst (λ (m : Rows). tombstone_count_after m h ≤ bound) (sym wrote) (omega (arith, put, none))
