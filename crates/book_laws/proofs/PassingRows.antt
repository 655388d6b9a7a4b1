-- Which rows of a history stay, how many there are, and how many of them pass a test.
use Rattle.std.proofs.Common.{◌≡◌, ℕ, ◌+◌, ◌<◌, ◌≤◌, Bool, true, false, cond, not, ◌&&◌, ◌||◌, List}
use Rattle.std.proofs.Common.{[], ◌∷◌, ◌++◌, length, filter, Option, Some, None, is_some, nat_lt}
use Rattle.std.proofs.Common.{nat_le, Equal, refl, sym, ap, ◌∙◌, ⊎_elim, arith}
use Rattle.std.specs.Option.{option_map_or}
use Rattle.std.specs.FinMap as finite
use Rattle.std.specs.FinMap.{get-empty, get-insert, get-retain_keys, len-insert, len-empty}
use Rattle.std.specs.FinMap.{same_map}
use Rattle.std.specs.FinMap.Entries.{where_key, is_sorted-where_key, find-where_key, same_entries}
use Rattle.std.specs.List.{AllByRecursion}
use Rattle.std.proofs.lemmas.Bool.{cases_Bool, cases_lt, cond-true, cond-false, leb-true, le-leb}
use Rattle.std.proofs.lemmas.Bool.{lt-ltb, false_from_ne_true, ltb-true}
use Rattle.std.proofs.lemmas.List.{length-append}
use Rattle.std.proofs.lemmas.List.Elements.{filter-append}
use Rattle.std.proofs.lemmas.Map.Lookups.{exact_bytes}
use Rattle.base_types.specs.TextMaps.{text_cmp}
use Rattle.book_model.specs.declared.answers.Stored.{Stored}
use Rattle.book_model.specs.declared.row.Row.{Row}
use Rattle.book_model.specs.Books.{Book}
use Rattle.book_model.specs.BookChanges.{card_after}
use Rattle.book_laws.specs.LogCounts.{counts_of_log}
use Rattle.book_model.specs.Forgetting.{is_row_kept, dropped_row_count, book_after_forget}
use Rattle.book_laws.specs.EventLogs.{BookEvent, same_uid, live, last_number, touched_uids}
use Rattle.book_laws.specs.LogRows.{all_rows_of_log, is_row_of_log, rows_of_log}
use Rattle.book_laws.specs.StoreHistories.{BookHistory, book_of_history}
use Rattle.book_laws.specs.HistoryChanges.{is_dropped_tombstone, with_horizon}
use Rattle.book_model.proofs.BasicLemmas.{is_some-map}
use Rattle.book_laws.proofs.FilterLemmas.{filter_both}
use Rattle.book_laws.proofs.ReportLemmas.{each_found}
use Rattle.book_model.proofs.LiveCardLemmas.{Members}
use Rattle.book_laws.proofs.RowLemmas.{row_at, get-kept_rows, get-all_rows}
use Rattle.base_types.proofs.TextLemmas.{text_total, same_self, same-equal}

abbrev Rows : Type 0
Rows = finite.FinMap text_cmp Row

-- ---- how many rows there are

module _ (m : finite.FinMap text_cmp Row) (k : List ℕ) (v : Row) (p : List ℕ → Bool) where
  abbrev others : List ℕ → Bool
  others q = not (same_uid q k) && p q

  get-retained : (n : finite.FinMap text_cmp Row) (r : List ℕ → Bool) (q : List ℕ)
      → finite.get (finite.retain_keys n r) q ≡ cond (r q) (finite.get n q) None
  get-retained n r q = get-retain_keys n r q (λ x e. ap r (sym (exact_bytes q x e)))

  at : (q : List ℕ) → finite.get (finite.retain_keys (finite.insert m k v) p) q
      ≡ cond (p q) (cond (same_uid q k) (Some v) (finite.get m q)) None
  at q = get-retained (finite.insert m k v) p q
      ∙ ap (λ o. cond (p q) o None) (get-insert text_total m k v q)

  retained_in : p k ≡ true → finite.retain_keys (finite.insert m k v) p
      ≡ finite.insert (finite.retain_keys m others) k v
  retained_in e = same_map text_total exact_bytes _ _ (λ q. at q ∙ by q
      ∙ sym (get-insert text_total (finite.retain_keys m others) k v q
      ∙ ap (cond (same_uid q k) (Some v)) (get-retained m others q)))
    where
      by : (q : List ℕ) → cond (p q) (cond (same_uid q k) (Some v) (finite.get m q)) None
          ≡ cond (same_uid q k) (Some v) (cond (others q) (finite.get m q) None)
      by q = elim (same_uid q k) as (λ b. same_uid q k ≡ b
          → cond (p q) (cond b (Some v) (finite.get m q)) None ≡ cond b (Some v)
          (cond (not b && p q) (finite.get m q) None)) [
            | true ↦ λ s. cond-true (p q) (Some v) None (ap p (same-equal q k s) ∙ e)
            | false ↦ λ s. refl
          ] refl

  retained_out : p k ≡ false → finite.retain_keys (finite.insert m k v) p ≡ finite.retain_keys m
      others
  retained_out e = same_map text_total exact_bytes _ _ (λ q. at q ∙ by q
      ∙ sym (get-retained m others q))
    where
      by : (q : List ℕ) → cond (p q) (cond (same_uid q k) (Some v) (finite.get m q)) None
          ≡ cond (others q) (finite.get m q) None
      by q = elim (same_uid q k) as (λ b. same_uid q k ≡ b
          → cond (p q) (cond b (Some v) (finite.get m q)) None ≡ cond (not b && p q)
          (finite.get m q) None) [
            | true ↦ λ s. cond-false (p q) (Some v) None (ap p (same-equal q k s) ∙ e)
            | false ↦ λ s. refl
          ] refl

  none_there : finite.contains_key (finite.retain_keys m others) k ≡ false
  none_there = ap is_some (get-retained m others k
      ∙ ap (λ b. cond (not b && p k) (finite.get m k) None) (same_self k))

  len-retained_in : p k ≡ true → finite.len (finite.retain_keys (finite.insert m k v) p)
      ≡ finite.len (finite.retain_keys m others) + 1
  len-retained_in e = ap finite.len (retained_in e)
      ∙ len-insert text_total (finite.retain_keys m others) k v ∙ cond-false _ _ _ none_there

abbrev no_rows : Rows
no_rows = finite.empty

empty_still : (p : List ℕ → Bool) → finite.retain_keys no_rows p ≡ no_rows
empty_still p = same_map text_total exact_bytes _ _ (λ q. get-retain_keys no_rows p q
    (λ x e. ap p (sym (exact_bytes q x e))) ∙ ap (λ o. cond (p q) o None) (get-empty text_cmp q)
    ∙ none (p q) ∙ sym (get-empty text_cmp q))
  where
    none : (b : Bool) → ◌≡◌ {A = Option Row} (cond b None None) None
    none true = refl
    none false = refl

-- the rows whose UIDs pass are as many as the touched UIDs that pass
pub len_retained : (h : List BookEvent) (p : List ℕ → Bool)
    → finite.len (finite.retain_keys (all_rows_of_log h) p) ≡ length (filter p (touched_uids h))
len_retained [] p = ap finite.len (empty_still p) ∙ len-empty text_cmp Row
len_retained (e ∷ h) p =
    let row : Row = record { changed = length h + 1; card = card_after e.change } in
    let rest = len_retained h (λ u. not (same_uid u e.uid) && p u) in
    let seen = filter-append p (filter (λ u. not (same_uid u e.uid)) (touched_uids h)) (e.uid ∷ [])
    ∙ ap (λ us. us ++ filter p (e.uid ∷ [])) (filter_both p (λ u. not (same_uid u e.uid))
    (touched_uids h)) in
    ⊎_elim
    (λ passes.
    let one = len-retained_in (all_rows_of_log h) e.uid row p passes in
    let last_one : filter p (e.uid ∷ []) ≡ e.uid ∷ [] =
    cond-true (p e.uid) (e.uid ∷ []) [] passes in
    let total = ap length seen ∙ length-append (filter (λ u. not (same_uid u e.uid) && p u)
    (touched_uids h)) (filter p (e.uid ∷ [])) in
    let one_more = ap length last_one in
    omega (arith, one, rest, total, one_more))
    (λ fails.
    let none : filter p (e.uid ∷ []) ≡ [] = cond-false (p e.uid) (e.uid ∷ []) [] fails in
    let total = ap length seen ∙ length-append (filter (λ u. not (same_uid u e.uid) && p u)
    (touched_uids h)) (filter p (e.uid ∷ [])) in
    let no_more = ap length none in
    let same = ap finite.len (retained_out (all_rows_of_log h) e.uid row p fails) in
    omega (arith, same, rest, total, no_more))
    (cases_Bool (p e.uid))

-- ---- which rows stay

-- a test of the row at a UID
abbrev pub at_row : (Row → Bool) → finite.FinMap text_cmp Row → List ℕ → Bool
at_row test members uid = option_map_or test (finite.get members uid) false

-- the rows that pass a test, of those that were kept, are the rows whose UIDs pass it on the
-- history
pub retained_rows : (h : List BookEvent) (horizon : ℕ) (test : Row → Bool) (wanted : List ℕ → Bool)
    → ((uid : List ℕ) → 0 < last_number h uid → (is_row_of_log h horizon uid && test (row_at h uid))
    ≡ wanted uid)
    → finite.retain_keys (rows_of_log h horizon) (at_row test (rows_of_log h horizon))
    ≡ finite.retain_keys (all_rows_of_log h) wanted
retained_rows h horizon test wanted agree = same_map text_total exact_bytes _ _ (λ q.
    get-retain_keys (rows_of_log h horizon) (at_row test (rows_of_log h horizon)) q
    (λ x e. ap (at_row test (rows_of_log h horizon)) (sym (exact_bytes q x e)))
    ∙ ap (λ (o : Option Row). cond (option_map_or test o false) o None) (get-kept_rows h horizon q
    ∙ ap (λ o. cond (is_row_of_log h horizon q) o None) (get-all_rows h q))
    ∙ by q
    ∙ sym (get-retain_keys (all_rows_of_log h) wanted q (λ x e. ap wanted (sym (exact_bytes q x e)))
    ∙ ap (λ o. cond (wanted q) o None) (get-all_rows h q)))
  where
    chosen : (kept passes : Bool) (row : Row) → test row ≡ passes
        → cond (option_map_or test (cond kept (Some row) None) false) (cond kept (Some row) None)
        None ≡ cond (kept && passes) (Some row) None
    chosen true passes row e = ap (λ b. cond b (Some row) None) e
    chosen false passes row e = refl

    none : Option Row
    none = None

    nothing : (kept b : Bool) → cond (option_map_or test (cond kept none none) false)
        (cond kept none none) none ≡ cond b none none
    nothing true true = refl
    nothing true false = refl
    nothing false true = refl
    nothing false false = refl

    by : (q : List ℕ) → cond (option_map_or test (cond (is_row_of_log h horizon q)
        (cond (nat_lt 0 (last_number h q)) (Some (row_at h q)) None) None) false)
        (cond (is_row_of_log h horizon q) (cond (nat_lt 0 (last_number h q)) (Some (row_at h q))
        None) None) None
        ≡ cond (wanted q) (cond (nat_lt 0 (last_number h q)) (Some (row_at h q)) None) None
    by q = elim (nat_lt 0 (last_number h q)) as (λ b. nat_lt 0 (last_number h q) ≡ b
        → cond (option_map_or test (cond (is_row_of_log h horizon q) (cond b (Some (row_at h q))
        None) None) false) (cond (is_row_of_log h horizon q) (cond b (Some (row_at h q)) None) None)
        None
        ≡ cond (wanted q) (cond b (Some (row_at h q)) None) None) [
          | true ↦ λ some. chosen (is_row_of_log h horizon q) (test (row_at h q)) (row_at h q) refl
              ∙ ap (λ b. cond b (Some (row_at h q)) None)
              (agree q (ltb-true 0 (last_number h q) some))
          | false ↦ λ some. nothing (is_row_of_log h horizon q) (wanted q)
        ] refl

-- ---- how many rows pass a test

-- the entries of the rows that pass a test
module _ (m : finite.FinMap text_cmp Row) (test : Row → Bool) where
  abbrev by_key : List ℕ → Bool
  by_key = at_row test m

  -- on entries of the map the test of the key is that of the row
  same_passing : (es : Members) → AllByRecursion (λ e. finite.get m e.0 ≡ Some e.1) es
      → where_key text_cmp by_key es ≡ filter (λ (e : List ℕ × Row). test e.1) es
  same_passing [] a = refl
  same_passing (e ∷ es) a =
      ap (λ b. cond b (e ∷ where_key text_cmp by_key es) (where_key text_cmp by_key es))
      (ap (λ (o : Option Row). option_map_or test o false) a.0)
      ∙ ap (λ (ds : Members). cond (test e.1) (e ∷ ds) ds) (same_passing es a.1)

  pub entries-retained : finite.entries (finite.retain_keys m by_key)
      ≡ filter (λ (e : List ℕ × Row). test e.1) (finite.entries m)
  entries-retained =
      same_entries text_cmp text_total exact_bytes (finite.entries (finite.retain_keys m by_key))
      (where_key text_cmp by_key (finite.entries m))
      (finite.entries_sorted (finite.retain_keys m by_key)) (is_sorted-where_key text_cmp by_key
      (finite.entries m) (finite.entries_sorted m))
      (λ q. sym (finite.get-entries (finite.retain_keys m by_key) q)
      ∙ get-retain_keys m by_key q (alike q) ∙ ap (λ (o : Option Row). cond (by_key q) o None)
      (finite.get-entries m q) ∙ sym (find-where_key text_cmp by_key q (alike q)
      (finite.entries m)))
      ∙ same_passing (finite.entries m) (each_found m)
    where
      alike : (q x : List ℕ) → text_cmp q x ≡ Equal → by_key x ≡ by_key q
      alike q x e = ap by_key (sym (exact_bytes q x e))

-- the rows that were kept and pass a test are as many as the touched UIDs that pass it on the
-- history
pub passing_rows : (h : List BookEvent) (horizon : ℕ) (test : Row → Bool) (wanted : List ℕ → Bool)
    → ((uid : List ℕ) → 0 < last_number h uid → (is_row_of_log h horizon uid && test (row_at h uid))
    ≡ wanted uid)
    → length (filter (λ (member : List ℕ × Row). test member.1)
    (finite.entries (rows_of_log h horizon))) ≡ length (filter wanted (touched_uids h))
passing_rows h horizon test wanted agree =
    ap length (sym (entries-retained (rows_of_log h horizon) test))
    ∙ sym (finite.len-entries (finite.retain_keys (rows_of_log h horizon)
    (at_row test (rows_of_log h horizon))))
    ∙ ap finite.len (retained_rows h horizon test wanted agree)
    ∙ len_retained h wanted

-- ---- a higher horizon

module _ (horizon upto n : ℕ) (rises : horizon ≤ upto) where
  pub both_above : (nat_lt horizon n && nat_lt upto n) ≡ nat_lt upto n
  both_above = ⊎_elim
      (λ above. ap (λ b. b && nat_lt upto n) (lt-ltb horizon n (omega (arith, rises, above))))
      (λ below. let none : nat_lt upto n ≡ false = false_from_ne_true _
      (λ e. let l = ltb-true upto n e in absurd (omega (arith, l, below))) in
      ap (λ b. nat_lt horizon n && b) none ∙ and_false (nat_lt horizon n) ∙ sym none)
      (cases_lt upto n)
    where
      and_false : (b : Bool) → (b && false) ≡ false
      and_false true = refl
      and_false false = refl

not_above : (upto n : ℕ) → not (nat_lt upto n) ≡ nat_le n upto
not_above upto n = ⊎_elim
    (λ above.
    let none : nat_le n upto ≡ false = false_from_ne_true _ (λ e. let l = leb-true n upto e in
    absurd (omega (arith, l, above))) in
    ap not (lt-ltb upto n above) ∙ sym none)
    (λ below.
    let none : nat_lt upto n ≡ false = false_from_ne_true _ (λ e. let l = ltb-true upto n e in
    absurd (omega (arith, l, below))) in
    ap not none ∙ sym (le-leb n upto below))
    (cases_lt upto n)

module _ (history : BookHistory) (upto : ℕ) where
  still_kept : history.horizon ≤ upto → (uid : List ℕ) → 0 < last_number history.log uid
      → (is_row_of_log history.log history.horizon uid && is_row_kept upto (row_at history.log uid))
      ≡ is_row_of_log history.log upto uid
  still_kept rises uid some =
      ap (λ b. is_row_of_log history.log history.horizon uid
      && (b || nat_lt upto (last_number history.log uid))) (is_some-map (λ (s : Stored). s.card)
      (finite.get (live history.log) uid))
      ∙ elim (is_some (finite.get (live history.log) uid)) as
      (λ b. ((b || nat_lt history.horizon (last_number history.log uid))
      && (b || nat_lt upto (last_number history.log uid)))
      ≡ (b || nat_lt upto (last_number history.log uid))) [
        | true ↦ refl
        | false ↦ both_above history.horizon upto (last_number history.log uid) rises
      ]

  pub book_forgotten : history.horizon ≤ upto → book_of_history (with_horizon history upto)
      ≡ book_after_forget (book_of_history history) upto
  book_forgotten rises =
      let B : finite.FinMap text_cmp Row → Book = λ members. record {
        id = history.id;
        number = length history.log;
        horizon = upto;
        keep = history.keep;
        counts = counts_of_log history.log;
        members = members;
        imports = history.imports;
      } in
      ap B (sym (retained_rows history.log history.horizon (is_row_kept upto)
      (is_row_of_log history.log upto) (still_kept rises)))

  dropped : (uid : List ℕ) → 0 < last_number history.log uid
      → (is_row_of_log history.log history.horizon uid
      && not (is_row_kept upto (row_at history.log uid))) ≡ is_dropped_tombstone history upto uid
  dropped uid some =
      ap (λ b. is_row_of_log history.log history.horizon uid
      && not (b || nat_lt upto (last_number history.log uid)))
      (is_some-map (λ (s : Stored). s.card) (finite.get (live history.log) uid))
      ∙ elim (is_some (finite.get (live history.log) uid)) as
      (λ b. ((b || nat_lt history.horizon (last_number history.log uid))
      && not (b || nat_lt upto (last_number history.log uid)))
      ≡ (not b && nat_lt history.horizon (last_number history.log uid)
      && nat_le (last_number history.log uid) upto)) [
        | true ↦ refl
        | false ↦ ap (λ b. nat_lt history.horizon (last_number history.log uid) && b)
            (not_above upto (last_number history.log uid))
      ]

  pub dropped_is : dropped_row_count (book_of_history history).members upto
      ≡ length (filter (is_dropped_tombstone history upto) (touched_uids history.log))
  dropped_is = passing_rows history.log history.horizon (λ row. not (is_row_kept upto row))
      (is_dropped_tombstone history upto) dropped
