-- The due rows of a history's rows, in the order of their numbers, are its due members, and their
-- page is its report.
use Rattle.std.proofs.Common.{◌≡◌, ℕ, suc, ◌-◌, ◌<◌, ◌≤◌, max, Bool, true, false, cond, T, List, []}
use Rattle.std.proofs.Common.{◌∷◌, length, filter, take, map, get_or, Some, None, nat_lt, refl, sym}
use Rattle.std.proofs.Common.{ap, ◌∙◌, subst, ⊎_elim, arith}
use Rattle.std.specs.Option.{option_map, option_map_or}
use Rattle.std.specs.List.{All, AllByRecursion, list_any, IsDistinct}
use Rattle.std.specs.List.Sorted.{IsPermutation, IsNonDecreasingBy}
use Rattle.std.specs.Map.{lookup, keys_of}
use Rattle.std.specs.FinMap as finite
use Rattle.std.specs.FinMap.Entries.{find, below_all, is_sorted}
use Rattle.std.proofs.lemmas.Bool.{cases_Bool, cases_lt, cond-true, cond-false, or_cases, or_left}
use Rattle.std.proofs.lemmas.Bool.{or_right, both_ways, false_from_ne_true, ltb-true}
use Rattle.std.proofs.lemmas.List.{take-map, length-map}
use Rattle.std.proofs.lemmas.List.Elements.{All-filter, All-weaker, filter_passes}
use Rattle.std.proofs.lemmas.List.Elements.{recursion_from_All}
use Rattle.std.proofs.lemmas.List.Sorted.{All-permutation, IsPermutation-map}
use Rattle.std.proofs.lemmas.List.Sorted.{list_any-IsPermutation}
use Rattle.std.proofs.lemmas.Map.Entries.{lookup_from_place}
use Rattle.std.proofs.lemmas.Map.Keys.{IsDistinct-cons, IsDistinct-head, IsDistinct-tail}
use Rattle.std.proofs.lemmas.Map.Keys.{IsDistinct-IsPermutation}
use Rattle.std.proofs.lemmas.Map.Made.{IsDistinct-keys_filter}
use Rattle.std.proofs.lemmas.Option.{slice_get-get_or, slice_get-map, same_Some}
use Rattle.base_types.specs.TextMaps.{text_cmp}
use Rattle.book_model.specs.declared.answers.Stored.{Stored}
use Rattle.book_model.specs.declared.page.Entry.{Entry}
use Rattle.book_model.specs.declared.page.Entry.TheVariants.{Changed, Removed}
use Rattle.book_model.specs.declared.page.Page.{Page}
use Rattle.book_model.specs.declared.row.Row.{Row}
use Rattle.book_model.specs.declared.token.Mark.{Mark}
use Rattle.book_laws.specs.EventLogs.{BookEvent, same_uid, last_number, live, touched_uids}
use Rattle.book_model.specs.Pages.{MemberWithRow, ReportRequest, is_due_row, due_rows}
use Rattle.book_model.specs.Pages.{IsOrderedByNumber, IsReport, entry_of_row, number_at_index}
use Rattle.book_model.specs.Pages.{truncated_answer, complete_answer, report_answer, ReportAnswer}
use Rattle.book_model.specs.Pages.{page_of}
use Rattle.book_laws.specs.Reports.{is_due_member, due, entry_of, truncated_log_page}
use Rattle.book_laws.specs.Reports.{complete_log_page, report}
use Rattle.book_laws.specs.LogRows.{rows_of_log}
use Rattle.book_laws.specs.StoreHistories.{BookHistory, book_of_history}
use Rattle.book_model.proofs.BasicLemmas.{T_parts, less_differs}
use Rattle.base_types.proofs.TextLemmas.{same_equiv, same-equal}
use Rattle.book_laws.proofs.HistoryLemmas.{has, last-le, last_here, last_other, Rises, version_is}
use Rattle.book_laws.proofs.DueLemmas.{has-due, any_passes, due-rises, same_rising}
use Rattle.book_laws.proofs.RowLemmas.{row_at, row_known, due_by_row, due_row}

-- ---- different members have different numbers

last_apart : (h : List BookEvent) (u v : List ℕ) → 0 < last_number h u
    → last_number h u ≡ last_number h v → same_uid u v ≡ true
last_apart [] u v p e = absurd (omega arith)
last_apart (e ∷ h) u v p same = ⊎_elim
    (λ a. ⊎_elim
    (λ b. subst (λ (w : List ℕ). same_uid u w ≡ true) (sym (same-equal v e.uid b)) a)
    (λ b. let m = last_here h e u a in let n = last_other h e v b in let le = last-le h v in
    absurd (omega (arith, m, n, le, same)))
    (cases_Bool (same_uid v e.uid)))
    (λ a. let m = last_other h e u a in ⊎_elim
    (λ b. let n = last_here h e v b in let le = last-le h u in
    absurd (omega (arith, m, n, le, same)))
    (λ b. last_apart h u v (subst (λ n. 0 < n) m p) (sym m ∙ same ∙ last_other h e v b))
    (cases_Bool (same_uid v e.uid)))
    (cases_Bool (same_uid u e.uid))

-- ---- the entries of a map have distinct keys

apart_below : (x : List ℕ) (es : List MemberWithRow) → T (below_all text_cmp x es)
    → AllByRecursion (λ y. same_uid x y ≡ false) (keys_of es)
apart_below x [] h = tt
apart_below x (e ∷ es) h = let parts = T_parts _ _ h in
    (less_differs _ parts.0, apart_below x es parts.1)

distinct_from_sorted : (es : List MemberWithRow) → T (is_sorted text_cmp es)
    → IsDistinct same_uid (keys_of es)
unfolding IsDistinct
distinct_from_sorted [] h = tt
distinct_from_sorted (e ∷ es) h = let parts = T_parts _ _ h in
    IsDistinct-cons same_uid e.0 (keys_of es) (apart_below e.0 es parts.0)
    (distinct_from_sorted es parts.1)

find_lookup : (q : List ℕ) (es : List MemberWithRow) → find text_cmp q es ≡ lookup (same_uid q) es
find_lookup q [] = refl
find_lookup q (e ∷ es) = ap (cond (same_uid q e.0) (Some e.1)) (find_lookup q es)

-- the value under the key of an entry is the entry's
pub each_found : (m : finite.FinMap text_cmp Row)
    → AllByRecursion (λ (e : MemberWithRow). finite.get m e.0 ≡ Some e.1) (finite.entries m)
each_found m = recursion_from_All (λ (e : MemberWithRow). finite.get m e.0 ≡ Some e.1)
    (finite.entries m) (λ k d l.
    let e : MemberWithRow = get_or (finite.entries m) k d in
    finite.get-entries m e.0 ∙ find_lookup e.0 (finite.entries m)
    ∙ lookup_from_place same_equiv (finite.entries m) k e.0 e.1
    (distinct_from_sorted (finite.entries m) (finite.entries_sorted m))
    (slice_get-get_or (finite.entries m) k d l))

any_found : (p : MemberWithRow → Bool) (u : List ℕ) (row : Row) (es : List MemberWithRow)
    → ((k : List ℕ) → p (k, row) ≡ true) → lookup (same_uid u) es ≡ Some row
    → list_any (same_uid u) (keys_of (filter p es)) ≡ true
any_found p u row [] passes e = cc
any_found p u row (m ∷ ms) passes e = ⊎_elim
    (λ here.
    let is : m.1 ≡ row = same_Some _ _ (sym (cond-true _ _ _ here) ∙ e) in
    let pass : p m ≡ true = subst (λ (r : Row). p (m.0, r) ≡ true) (sym is) (passes m.0) in
    ap (λ (ns : List MemberWithRow). list_any (same_uid u) (keys_of ns))
    (cond-true (p m) (m ∷ filter p ms) (filter p ms) pass) ∙ or_left _ _ here)
    (λ other.
    let rest = any_found p u row ms passes (sym (cond-false _ _ _ other) ∙ e) in
    elim (p m) as (λ b. list_any (same_uid u) (keys_of (cond b (m ∷ filter p ms) (filter p ms)))
    ≡ true) [ true ↦ or_right _ _ rest | false ↦ rest ])
    (cases_Bool (same_uid u m.0))

both_same : (a b : Bool) → (a ≡ true → b ≡ true) → (b ≡ true → a ≡ true) → a ≡ b
both_same true b p q = sym (p refl)
both_same false b p q = sym (false_from_ne_true b (λ e. both_ways _ refl (q e)))

-- ---- a history's due members, with their rows

abbrev member_of : List BookEvent → List ℕ → MemberWithRow
member_of h uid = (uid, row_at h uid)

-- a member of the rows is as the history has it, and is due
pub record IsDueMember (h : List BookEvent) (mark : Mark) (m : MemberWithRow) : Type 0 where
  pub row : m.1 ≡ row_at h m.0
  pub some : 0 < last_number h m.0
  pub due : is_due_member h mark m.0 ≡ true

module _ (h : List BookEvent) (mark : Mark) where
  any_due : (u : List ℕ) (ms : List MemberWithRow) → AllByRecursion (IsDueMember h mark) ms
      → has (keys_of ms) u ≡ true → is_due_member h mark u ≡ true
  any_due u [] a h' = absurd (both_ways _ refl h')
  any_due u (m ∷ ms) a h' = ⊎_elim (λ is. ap (is_due_member h mark) (same-equal u m.0 is)
      ∙ a.0.due) (λ later. any_due u ms a.1 later) (or_cases _ _ h')

  as_members : (ms : List MemberWithRow) → AllByRecursion (IsDueMember h mark) ms
      → ms ≡ map (member_of h) (keys_of ms)
  as_members [] a = refl
  as_members (m ∷ ms) a = ap (λ r. (m.0, r) ∷ ms) a.0.row
      ∙ ap (λ ns. member_of h m.0 ∷ ns) (as_members ms a.1)

  above_keys : (m : MemberWithRow) (ns : List MemberWithRow) → IsDueMember h mark m
      → AllByRecursion (IsDueMember h mark) ns → AllByRecursion (λ n. m.1.changed ≤ n.1.changed) ns
      → AllByRecursion (λ v. same_uid m.0 v ≡ false) (keys_of ns)
      → AllByRecursion (λ v. last_number h m.0 < last_number h v) (keys_of ns)
  above_keys m [] one a up apart = tt
  above_keys m (n ∷ ns) one a up apart =
      let low = ap (λ r. r.changed) one.row in
      let high = ap (λ r. r.changed) a.0.row in (
        ⊎_elim (λ l. l) (λ ge. absurd (both_ways _ apart.0 (last_apart h m.0 n.0 one.some
            (let le = up.0 in omega (arith, low, high, le, ge))))) (cases_lt (last_number h m.0)
            (last_number h n.0)),
        above_keys m ns one a.1 up.1 apart.1,
      )

  rises_keys : (ms : List MemberWithRow) → AllByRecursion (IsDueMember h mark) ms
      → IsNonDecreasingBy (λ m. m.1.changed) ms → IsDistinct same_uid (keys_of ms)
      → Rises (last_number h) (keys_of ms)
  rises_keys [] a up apart = tt
  rises_keys (m ∷ ms) a up apart = (
    above_keys m ms a.0 a.1 (recursion_from_All (λ n. m.1.changed ≤ n.1.changed) ms
        (λ k d l. up 0 (suc k) d (omega arith) (omega arith))) (IsDistinct-head same_uid m.0
        (keys_of ms) apart),
    rises_keys ms a.1 (λ i j d le l. up (suc i) (suc j) d (omega arith) (omega arith))
        (IsDistinct-tail same_uid m.0 (keys_of ms) apart),
  )

module _ (h : List BookEvent) (horizon : ℕ) (mark : Mark) (le : horizon ≤ mark.base) (ordered :
    List MemberWithRow) (by : IsOrderedByNumber (due_rows (rows_of_log h horizon) mark) ordered)
  where
    abbrev all : List MemberWithRow
    all = finite.entries (rows_of_log h horizon)

    abbrev test : MemberWithRow → Bool
    test m = is_due_row mark m.1

    distinct_all : IsDistinct same_uid (keys_of all)
    distinct_all = distinct_from_sorted all (finite.entries_sorted (rows_of_log h horizon))

    found : All (λ (m : MemberWithRow). finite.get (rows_of_log h horizon) m.0 ≡ Some m.1) all
    found k d l =
        let m : MemberWithRow = get_or all k d in
        finite.get-entries (rows_of_log h horizon) m.0 ∙ find_lookup m.0 all
        ∙ lookup_from_place same_equiv all k m.0 m.1 distinct_all (slice_get-get_or all k d l)

    abbrev known : MemberWithRow → Type 0
    known m = (finite.get (rows_of_log h horizon) m.0 ≡ Some m.1) × (test m ≡ true)

    each : All (IsDueMember h mark) ordered
    each = All-weaker known (IsDueMember h mark)
        (λ m p. let is = row_known h horizon m.0 m.1 p.0 in record {
          row = is.0;
          some = is.1;
          due = sym (due_by_row h mark m.0) ∙ ap (is_due_row mark) (sym is.0) ∙ p.1;
        })
        ordered (All-permutation known (filter test all) ordered by.same
        (λ k d l. (
          All-filter test (λ (m : MemberWithRow). finite.get (rows_of_log h horizon) m.0
              ≡ Some m.1) all found k d l,
          filter_passes test all k d l,
        )))

    each_one : AllByRecursion (IsDueMember h mark) ordered
    each_one = recursion_from_All (IsDueMember h mark) ordered each

    keys_permuted : IsPermutation (keys_of (filter test all)) (keys_of ordered)
    keys_permuted = IsPermutation-map (λ (m : MemberWithRow). m.0) (filter test all) ordered by.same

    has_each : (u : List ℕ) → has (keys_of ordered) u ≡ has (due h mark) u
    has_each u = both_same _ _
        (λ in_rows. has-due h mark u (any_due h mark u ordered each_one in_rows))
        (λ in_due.
        let d : is_due_member h mark u ≡ true =
        any_passes (is_due_member h mark) u (touched_uids h) in_due in
        sym (list_any-IsPermutation (same_uid u) _ _ keys_permuted)
        ∙ any_found test u (row_at h u) all (λ k. due_by_row h mark u ∙ d)
        (sym (find_lookup u all) ∙ sym (finite.get-entries (rows_of_log h horizon) u)
        ∙ due_row h horizon mark u le d))

    ordered_is : ordered ≡ map (member_of h) (due h mark)
    ordered_is =
        let keys : keys_of ordered ≡ due h mark =
        same_rising (last_number h) (keys_of ordered) (due h mark)
        (rises_keys h mark ordered each_one by.rises (IsDistinct-IsPermutation same_uid
        same_equiv.symm _ _ keys_permuted (IsDistinct-keys_filter same_uid test all
        distinct_all)))
        (due-rises h mark) has_each in
        as_members h mark ordered each_one ∙ ap (map (member_of h)) keys

-- ---- and their page

entry_is : (h : List BookEvent) (uid : List ℕ) → entry_of_row (member_of h uid) ≡ entry_of h uid
entry_is h uid =
    elim (finite.get (live h) uid) as (λ o. ((s : Stored) → o ≡ Some s
    → s.version ≡ last_number h uid)
    → option_map_or (λ card. Changed uid (last_number h uid) card)
    (option_map (λ (s : Stored). s.card) o) (Removed uid)
    ≡ option_map_or (λ (s : Stored). Changed uid s.version s.card) o (Removed uid)) [
      | Some s ↦ λ v. ap (λ n. Changed uid n s.card) (sym (v s refl))
      | None ↦ λ v. refl
    ] (version_is h uid)

entries_are : (h : List BookEvent) (uids : List (List ℕ))
    → map entry_of_row (map (member_of h) uids) ≡ map (entry_of h) uids
entries_are h [] = refl
entries_are h (u ∷ uids) = ap (λ e. e ∷ map entry_of_row (map (member_of h) uids)) (entry_is h u)
    ∙ ap (λ es. entry_of h u ∷ es) (entries_are h uids)

number_is : (h : List BookEvent) (uids : List (List ℕ)) (i : ℕ) → i < length uids
    → number_at_index (map (member_of h) uids) i ≡ last_number h (get_or uids i [])
number_is h uids i l = ap (λ o. option_map_or (λ (m : MemberWithRow). m.1.changed) o 0)
    (slice_get-map (member_of h) uids i
    ∙ ap (option_map (member_of h)) (slice_get-get_or uids i [] l))

module _ (s : BookHistory) (mark : Mark) (k : ℕ) where
  abbrev asked : ReportRequest
  asked = record { book = book_of_history s; mark = mark; size = k }

  abbrev uids : List (List ℕ)
  uids = due s.log mark

  cut_is : k < length uids → truncated_answer mark (map (member_of s.log) uids) k
      ≡ truncated_log_page s.log mark k
  cut_is more =
      let P : List Entry → ℕ → ReportAnswer = λ es n. record {
        entries = es;
        mark = record { at = n; base = max n mark.base };
        truncated = true;
      } in
      ap (λ es. P es (number_at_index (map (member_of s.log) uids) (k - 1)))
      (ap (map entry_of_row) (take-map (member_of s.log) k uids)
      ∙ entries_are s.log (take k uids))
      ∙ ap (P (map (entry_of s.log) (take k uids))) (number_is s.log uids (k - 1) (omega arith))

  whole_is : complete_answer (length s.log) (map (member_of s.log) uids) ≡ complete_log_page s.log
      mark
  whole_is =
      let P : List Entry → ReportAnswer = λ es. record {
        entries = es;
        mark = record { at = length s.log; base = length s.log };
        truncated = false;
      } in
      ap P (entries_are s.log uids)

  same_answer : report_answer asked (map (member_of s.log) uids) ≡ report s.log mark k
  same_answer =
      ap (λ n. cond (nat_lt k n) (truncated_answer mark (map (member_of s.log) uids) k)
      (complete_answer (length s.log) (map (member_of s.log) uids)))
      (length-map uids (member_of s.log))
      ∙ elim (nat_lt k (length uids)) as (λ b. nat_lt k (length uids) ≡ b
      → cond b (truncated_answer mark (map (member_of s.log) uids) k)
      (complete_answer (length s.log) (map (member_of s.log) uids))
      ≡ cond b (truncated_log_page s.log mark k) (complete_log_page s.log mark)) [
        | true ↦ λ more. cut_is (ltb-true _ _ more)
        | false ↦ λ all. whole_is
      ] refl

-- a page that the rows allow is the history's, where no row that it needs was forgotten
pub page_is_report : (s : BookHistory) (mark : Mark) (k : ℕ) (page : Page) → s.horizon ≤ mark.base
    → IsReport (record { book = book_of_history s; mark = mark; size = k }) page
    → page ≡ page_of s.id (report s.log mark k)
page_is_report s mark k page le is =
    is.page_is ∙ ap (page_of s.id) (ap (report_answer (asked s mark k))
    (ordered_is s.log s.horizon mark le is.ordered is.by_number) ∙ same_answer s mark k)
