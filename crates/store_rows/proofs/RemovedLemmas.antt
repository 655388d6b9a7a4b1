-- Removed members in the tables, remembered or forgotten by a book.
use Rattle.std.proofs.Common.{◌≡◌, ℕ, ℤ, pos, negsuc, ◌<◌, min, Bool, true, false, not, ◌&&◌, ◌||◌}
use Rattle.std.proofs.Common.{cond, List, [], ◌∷◌, map, filter, find, length, Option, Some, None}
use Rattle.std.proofs.Common.{is_some, int_eq, int_lt, int_le, nat_lt, IsPermutation, refl, sym, ap}
use Rattle.std.proofs.Common.{ap₂, subst, ◌∙◌, true≢false, arith}
use Rattle.std.specs.Option.{option_map, option_map_or, option_and_then}
use Rattle.std.specs.FinMap as finite
use Rattle.std.proofs.lemmas.List.{length-map}
use Rattle.std.proofs.lemmas.List.Sorted.{length_permutation}
use Rattle.std.proofs.lemmas.Map.Lookups.{exact_bytes}
use Rattle.std.proofs.lemmas.Bool.{and_parts}
use Rattle.sqlite_trees.proofs.ListLemmas.{filter-map, IsPermutation-filter, ascending-filter}
use Rattle.sqlite_trees.proofs.ListLemmas.{all-filter}
use Rattle.base_types.proofs.TextLemmas.{text_total}
use Rattle.book_model.specs.declared.row.Row.{Row as Kept}
use Rattle.book_model.specs.Forgetting.{is_row_kept, rows_after_forget}
use Rattle.book_model.specs.BookQueries.{is_tombstone_after as row_removed_after}
use Rattle.book_model.specs.BookQueries.{tombstone_count_after}
use Rattle.store_tables.specs.Members.{MemberRow, AreMembers, is_in_book, has_uid, is_removed_above}
use Rattle.store_tables.specs.Members.{is_removed_up_to, without_removed}
use Rattle.store_rows.specs.Values.{natural, text_card}
use Rattle.store_rows.specs.TableBooks.{model_row, member_entry, members_in}
use Rattle.store_rows.specs.ForgetLaws.{CountsAreRemembered, ForgettingIsHeld, ForgettingForgets}
use Rattle.store_rows.specs.ForgetLaws.{DeletionsAreDropped, DropsForget}
use Rattle.store_rows.specs.SoundTables.{HasBookId, IsReadableMember}
use Rattle.store_rows.proofs.KeyedEntries.{Once, entries_are, find_left, found_has}
use Rattle.store_rows.proofs.RowLemmas.{once_members, single_member, uid_of_row, get-members_in}
use Rattle.store_rows.proofs.LookupLemmas.{natural_of}
use Rattle.store_rows.proofs.WriteLemmas.{holds_members, members_within, sound_members}

-- ---- tests of a stored row and of the member read from it

none_below : (h : ℕ) → false ≡ nat_lt h 0
none_below h = grind arith

pub above : (h : ℕ) (z : ℤ) → int_lt (pos h) z ≡ nat_lt h (natural z)
above h (pos n) = refl
above h (negsuc n) = none_below h

below : (u : ℕ) (z : ℤ) → not (int_le z (pos u)) ≡ nat_lt u (natural z)
below u (pos n) = grind arith
below u (negsuc n) = none_below u

pub has_card : (card : Option (List ℕ)) → is_some (option_map text_card card) ≡ is_some card
has_card None = refl
has_card (Some t) = refl

pub removed_is : (book : ℤ) (h : ℕ) (m : MemberRow)
    → (is_in_book book m && row_removed_after h (model_row m)) ≡ is_removed_above book (pos h) m
removed_is book h m = ap₂ (λ a b. int_eq m.book book && (not a && b)) (has_card m.card)
    (sym (above h m.changed))

kept_is : (book : ℤ) (u : ℕ) (m : MemberRow) → is_row_kept u (model_row m)
    ≡ not (not (is_some m.card) && int_le m.changed (pos u))
kept_is book u m = ap₂ (λ a b. a || b) (has_card m.card) (sym (below u m.changed))
    ∙ turn (is_some m.card) (int_le m.changed (pos u))
  where
    turn : (a b : Bool) → (a || not b) ≡ not (not a && b)
    turn true b = refl
    turn false b = refl

dropped_is : (book : ℤ) (u : ℕ) (m : MemberRow)
    → (is_in_book book m && not (is_row_kept u (model_row m))) ≡ is_removed_up_to book (pos u) m
dropped_is book u m = ap (λ b. int_eq m.book book && not b) (kept_is book u m)
    ∙ ap (λ b. int_eq m.book book && b) (twice (not (is_some m.card) && int_le m.changed (pos u)))
  where
    twice : (b : Bool) → not (not b) ≡ b
    twice true = refl
    twice false = refl

pub filter_in : {X : Type 0} (p q : X → Bool) (xs : List X)
    → filter q (filter p xs) ≡ filter (λ x. p x && q x) xs
filter_in p q [] = refl
filter_in p q (x ∷ xs) = step (p x) (q x) refl refl (filter_in p q xs)
  where
    step : (a b : Bool) → p x ≡ a → q x ≡ b → filter q (filter p xs) ≡ filter (λ x. p x && q x) xs
        → filter q (filter p (x ∷ xs)) ≡ filter (λ x. p x && q x) (x ∷ xs)
    step true true e k more = rw (e, k) (ap (λ l. x ∷ l) more)
    step true false e k more = rw (e, k) more
    step false b e k more = rw e more

-- ---- the entries that pass a test

-- the entries of the book that pass are the members of the table that pass
pub passing_entries : (book : ℤ) (ms : List MemberRow) (test : Kept → Bool) (wanted : MemberRow
    → Bool) → Once (is_in_book book) uid_of_row model_row ms
    → ((m : MemberRow) → (is_in_book book m && test (model_row m)) ≡ wanted m)
    → IsPermutation (map member_entry (filter wanted ms)) (filter (λ (e : List ℕ × Kept). test e.1)
    (finite.entries (members_in book ms)))
passing_entries book ms test wanted kept is =
    let q : List ℕ × Kept → Bool = λ e. test e.1 in
    let xs = filter (is_in_book book) ms in
    let same : filter q (map member_entry xs) ≡ map member_entry (filter wanted ms) =
    filter-map q member_entry xs ∙ ap (map member_entry) (filter_in (is_in_book book)
    (λ m. q (member_entry m)) ms ∙ (λ i. filter (λ m. is m i) ms)) in
    subst (λ l. IsPermutation l (filter q (finite.entries (members_in book ms)))) same
    (IsPermutation-filter q _ _ (entries_are (is_in_book book) uid_of_row model_row ms kept))

passing_count : (book : ℤ) (ms : List MemberRow) (test : Kept → Bool) (wanted : MemberRow → Bool)
    → Once (is_in_book book) uid_of_row model_row ms
    → ((m : MemberRow) → (is_in_book book m && test (model_row m)) ≡ wanted m)
    → length (filter (λ (e : List ℕ × Kept). test e.1) (finite.entries (members_in book ms)))
    ≡ length (filter wanted ms)
passing_count book ms test wanted kept is =
    length_permutation _ _ (passing_entries book ms test wanted kept is)
    ∙ length-map (filter wanted ms) member_entry

pub removed_count : (book : ℤ) (ms : List MemberRow) (h : ℕ) → AreMembers ms
    → tombstone_count_after (members_in book ms) h ≡ length (filter (is_removed_above book (pos h))
    ms)
removed_count book ms h kept = passing_count book ms (row_removed_after h)
    (is_removed_above book (pos h)) (once_members book ms kept) (removed_is book h)

pub count_is : (n m : ℕ) → min n 9223372036854775807 ≡ m → m < 9223372036854775807 → n ≡ m
count_is n m e below = grind (arith, e, below)

pub counts_remembered : CountsAreRemembered
counts_remembered rows name f row n sound outcome shows =
    let count = length (filter (is_removed_above (pos f.id) (pos f.horizon)) rows.members) in
    let is : min count 9223372036854775807 ≡ n =
    natural_of (pos (min count 9223372036854775807)) n
    (ap (λ r. Rattle.sqlite.specs.Order.column r 0) (sym outcome) ∙ shows.is) in
    removed_count (pos f.id) rows.members f.horizon sound.members ∙ count_is count n is shows.below

-- ---- forgetting

pub left_members : (book : ℤ) (ms : List MemberRow) (u : ℕ) → AreMembers ms
    → members_in book (without_removed book (pos u) ms) ≡ rows_after_forget (members_in book ms) u
left_members book ms u kept = finite.same_map text_total exact_bytes _ _ (λ q.
    get-members_in book (without_removed book (pos u) ms) q
    ∙ ap (option_map model_row) (find_left (has_uid book q)
    (λ m. not (is_removed_up_to book (pos u) m)) ms (single_member book q ms kept))
    ∙ at q (find (has_uid book q) ms) refl
    ∙ sym (finite.get-retain_keys (members_in book ms) (λ uid. option_map_or (is_row_kept u)
    (finite.get (members_in book ms) uid) false) q
    (λ x tied. ap (λ k. option_map_or (is_row_kept u) (finite.get (members_in book ms) k) false)
    (sym (exact_bytes q x tied)))))
  where
    stays : (q : List ℕ) (m : MemberRow) → has_uid book q m ≡ true
        → not (is_removed_up_to book (pos u) m) ≡ is_row_kept u (model_row m)
    stays q m here =
        let mine : is_in_book book m ≡ true =
        (and_parts (int_eq m.book book) (Rattle.std.proofs.Common.bytes_eq m.uid q) here).0 in
        ap (λ b. not (b && (not (is_some m.card) && int_le m.changed (pos u)))) mine
        ∙ sym (kept_is book u m)

    at : (q : List ℕ) (found : Option MemberRow) → find (has_uid book q) ms ≡ found
        → option_map model_row (option_and_then (λ m. cond (not (is_removed_up_to book (pos u) m))
        (Some m) None) found)
        ≡ cond (option_map_or (is_row_kept u) (finite.get (members_in book ms) q) false)
        (finite.get (members_in book ms) q) None
    at q None is = rw (get-members_in book ms q, is)
    at q (Some m) is =
        let here = (found_has (has_uid book q) ms m is).1 in
        rw (get-members_in book ms q, is, stays q m here) (each (is_row_kept u (model_row m)))
      where
        each : (b : Bool) → option_map model_row (cond b (Some m) None)
            ≡ cond b (Some (model_row m)) None
        each true = refl
        each false = refl

-- the members of another book all stay
other_members : (book other u : ℤ) (ms : List MemberRow) → int_eq other book ≡ false
    → filter (is_in_book other) (without_removed book u ms) ≡ filter (is_in_book other) ms
other_members book other u [] apart = refl
other_members book other u (m ∷ ms) apart =
    step (is_in_book other m) (is_removed_up_to book u m) refl refl (other_members book other u ms
    apart)
  where
    step : (a b : Bool) → is_in_book other m ≡ a → is_removed_up_to book u m ≡ b
        → filter (is_in_book other) (without_removed book u ms) ≡ filter (is_in_book other) ms
        → filter (is_in_book other) (without_removed book u (m ∷ ms)) ≡ filter (is_in_book other)
        (m ∷ ms)
    step true true e k more = absurd (true≢false (sym (and_parts (int_eq m.book book) _ k).0
        ∙ ap (λ i. int_eq i book) (Rattle.store_tables.proofs.KeyedRows.same_int m.book other e)
        ∙ apart))
    step true false e k more = rw (k, e) (ap (λ l. m ∷ l) more)
    step false true e k more = rw (k, e) more
    step false false e k more = rw (k, e) more

pub forgetting_held : ForgettingIsHeld
forgetting_held old new rows b upto h sound members w =
    let left = without_removed b.id (pos upto) rows.members in
    let kept : AreMembers left = ascending-filter (λ (x y : MemberRow). (int_eq x.id y.id ≡ false)
    × (has_uid x.book x.uid y ≡ false)) (λ m. not (is_removed_up_to b.id (pos upto) m))
    rows.members sound.members in
    let all = all-filter (λ (m : MemberRow). HasBookId rows.books m.book)
    (λ m. not (is_removed_up_to b.id (pos upto) m)) rows.members sound.listed_members in
    let readable = all-filter IsReadableMember (λ m. not (is_removed_up_to b.id (pos upto) m))
    rows.members sound.readable.members in
    record {
      holds = holds_members old new rows left h members w;
      within = members_within b.id rows left (sound_members rows left sound kept all readable)
          (λ other e. ap (λ l. finite.from_entries (map member_entry l))
          (other_members b.id other (pos upto) rows.members e));
    }

pub forgetting_forgets : ForgettingForgets
forgetting_forgets rows name f upto sound =
    let members = left_members (pos f.id) rows.members upto sound.members in
    λ i. record (Rattle.store_rows.specs.TableBooks.row_book rows
    (Rattle.store_rows.specs.TableBooks.line_row name f)) {
      horizon = upto;
      members = members i;
    }

pub deletions_dropped : DeletionsAreDropped
deletions_dropped rows name f upto sound =
    sym (passing_count (pos f.id) rows.members (λ row. not (is_row_kept upto row))
    (is_removed_up_to (pos f.id) (pos upto)) (once_members (pos f.id) rows.members sound.members)
    (dropped_is (pos f.id) upto))

pub drops_forget : DropsForget
drops_forget book upto = refl
