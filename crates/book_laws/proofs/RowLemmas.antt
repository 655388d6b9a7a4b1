-- The rows of a history.
use Rattle.std.proofs.Common.{◌≡◌, ℕ, ◌+◌, ◌<◌, ◌≤◌, Bool, true, false, cond, ◌&&◌, ◌||◌, List, []}
use Rattle.std.proofs.Common.{◌∷◌, length, Option, Some, None, is_some, nat_lt, refl, sym, ap, ◌∙◌}
use Rattle.std.proofs.Common.{⊎_elim, arith}
use Rattle.std.specs.Option.{option_map, option_and_then}
use Rattle.std.specs.FinMap as finite
use Rattle.std.specs.FinMap.{get-empty, get-insert, get-remove, get-retain_keys, same_map}
use Rattle.std.proofs.lemmas.Bool.{cases_Bool, cond-true, cond-false, or_left, or_right, or_cases}
use Rattle.std.proofs.lemmas.Bool.{and_parts, ltb-true, lt-ltb}
use Rattle.std.proofs.lemmas.Map.Lookups.{exact_bytes}
use Rattle.std.proofs.lemmas.Option.{cond_some}
use Rattle.base_types.specs.TextMaps.{text_cmp}
use Rattle.vcard_lines.specs.declared.line.Line.{Line}
use Rattle.book_model.specs.declared.answers.Stored.{Stored}
use Rattle.book_model.specs.declared.change.Change.{Change}
use Rattle.book_model.specs.declared.change.Change.TheVariants.{Stores, TakesAway}
use Rattle.book_model.specs.declared.row.Row.{Row}
use Rattle.book_model.specs.declared.token.Mark.{Mark}
use Rattle.book_model.specs.Books.{stored_in_row, LiveCards}
use Rattle.book_model.specs.BookChanges.{card_after}
use Rattle.book_laws.specs.EventLogs.{BookEvent, same_uid, cards_after_change, live, last_number}
use Rattle.book_model.specs.Pages.{is_due_row}
use Rattle.book_laws.specs.Reports.{is_due_member}
use Rattle.book_laws.specs.LogRows.{all_rows_of_log, is_row_of_log, rows_of_log}
use Rattle.book_model.proofs.BasicLemmas.{is_some-map}
use Rattle.base_types.proofs.TextLemmas.{text_total}
use Rattle.book_laws.proofs.HistoryLemmas.{last_here, last_other, get-changed, version_is}

-- the row of a member by its log
abbrev pub row_at : List BookEvent → List ℕ → Row
row_at h uid = record {
  changed = last_number h uid;
  card = option_map (λ s. s.card) (finite.get (live h) uid);
}

pub get-kept_rows : (h : List BookEvent) (horizon : ℕ) (q : List ℕ)
    → finite.get (rows_of_log h horizon) q ≡ cond (is_row_of_log h horizon q)
    (finite.get (all_rows_of_log h) q) None
get-kept_rows h horizon q = get-retain_keys (all_rows_of_log h) (is_row_of_log h horizon) q
    (λ x e. ap (is_row_of_log h horizon) (sym (exact_bytes q x e)))

-- an event writes its own row and no other
pub writes_row : (h : List BookEvent) (e : BookEvent) (horizon : ℕ) → horizon ≤ length h
    → rows_of_log (e ∷ h) horizon ≡ finite.insert (rows_of_log h horizon) e.uid
    (record { changed = length h + 1; card = card_after e.change })
writes_row h e horizon le = same_map text_total exact_bytes _ _ (λ q.
    get-kept_rows (e ∷ h) horizon q ∙ at q
    ∙ sym (get-insert text_total (rows_of_log h horizon) e.uid row q
    ∙ ap (cond (same_uid q e.uid) (Some row)) (get-kept_rows h horizon q)))
  where
    row : Row
    row = record { changed = length h + 1; card = card_after e.change }

    at : (q : List ℕ) → cond (is_row_of_log (e ∷ h) horizon q) (finite.get (all_rows_of_log (e ∷ h))
        q) None ≡ cond (same_uid q e.uid) (Some row) (cond (is_row_of_log h horizon q)
        (finite.get (all_rows_of_log h) q) None)
    at q = ap (λ o. cond (is_row_of_log (e ∷ h) horizon q) o None)
        (get-insert text_total (all_rows_of_log h) e.uid row q)
        ∙ ⊎_elim
        (λ here. cond-true _ _ _ (or_right _ _ (ap (nat_lt horizon) (last_here h e q here)
        ∙ lt-ltb _ _ (omega arith)))
        ∙ cond-true _ _ _ here ∙ sym (cond-true _ _ _ here))
        (λ other.
        ap (λ n. cond (is_some (finite.get (live (e ∷ h)) q) || nat_lt horizon n)
        (cond (same_uid q e.uid) (Some row) (finite.get (all_rows_of_log h) q)) None)
        (last_other h e q other)
        ∙ ap (λ o. cond (is_some o || nat_lt horizon (last_number h q))
        (cond (same_uid q e.uid) (Some row) (finite.get (all_rows_of_log h) q)) None)
        (get-changed (live h) e.uid q e.change (length h + 1) other)
        ∙ ap (λ o. cond (is_row_of_log h horizon q) o None) (cond-false _ _ _ other)
        ∙ sym (cond-false _ _ _ other))
        (cases_Bool (same_uid q e.uid))

-- ---- what the rows have at a UID

card-changed : (cards : LiveCards) (v uid : List ℕ) (change : Change) (n : ℕ)
    → same_uid uid v ≡ true → option_map (λ (s : Stored). s.card)
    (finite.get (cards_after_change cards v change n) uid) ≡ card_after change
card-changed cards v uid (Stores card why) n here =
    ap (option_map (λ (s : Stored). s.card)) (get-insert text_total cards v (record {
      version = n;
      card = card;
    }) uid ∙ cond-true _ _ _ here)
card-changed cards v uid (TakesAway why) n here =
    ap (option_map (λ (s : Stored). s.card)) (get-remove text_total cards v uid
    ∙ cond-true _ _ _ here)

pub get-all_rows : (h : List BookEvent) (uid : List ℕ) → finite.get (all_rows_of_log h) uid
    ≡ cond (nat_lt 0 (last_number h uid)) (Some (row_at h uid)) None
get-all_rows [] uid = get-empty text_cmp uid
get-all_rows (e ∷ h) uid =
    get-insert text_total (all_rows_of_log h) e.uid (record {
      changed = length h + 1;
      card = card_after e.change;
    }) uid
    ∙ ⊎_elim
    (λ here.
    let newest = last_here h e uid here in
    cond-true _ _ _ here
    ∙ ap (λ card. Some (row (length h + 1) card))
    (sym (card-changed (live h) e.uid uid e.change (length h + 1) here))
    ∙ ap (λ n. Some (row n (option_map (λ (s : Stored). s.card) (finite.get (live (e ∷ h)) uid))))
    (sym newest)
    ∙ sym (cond-true (nat_lt 0 (last_number (e ∷ h) uid)) _ _ (lt-ltb 0 _ (omega (arith, newest)))))
    (λ other.
    cond-false _ _ _ other ∙ get-all_rows h uid
    ∙ ap (λ n. cond (nat_lt 0 n) (Some
    (row n (option_map (λ (s : Stored). s.card) (finite.get (live h) uid)))) None)
    (sym (last_other h e uid other))
    ∙ ap (λ o. cond (nat_lt 0 (last_number (e ∷ h) uid))
    (Some (row (last_number (e ∷ h) uid) (option_map (λ (s : Stored). s.card) o))) None)
    (sym (get-changed (live h) e.uid uid e.change (length h + 1) other)))
    (cases_Bool (same_uid uid e.uid))
  where
    row : ℕ → Option (List Line) → Row
    row n card = record { changed = n; card = card }

cond_twice : {A : Type 0} (a b : Bool) (x y : A) → cond a (cond b (Some x) None) None ≡ Some y
    → (b ≡ true) × (x ≡ y)
cond_twice true b x y e = cond_some b x y e
cond_twice false b x y e = cc

pub row_known : (h : List BookEvent) (horizon : ℕ) (uid : List ℕ) (row : Row)
    → finite.get (rows_of_log h horizon) uid ≡ Some row → (row ≡ row_at h uid)
    × (0 < last_number h uid)
row_known h horizon uid row e =
    let is = cond_twice (is_row_of_log h horizon uid) (nat_lt 0 (last_number h uid)) (row_at h uid)
    row (ap (λ o. cond (is_row_of_log h horizon uid) o None) (sym (get-all_rows h uid))
    ∙ sym (get-kept_rows h horizon uid) ∙ e) in
    (sym is.1, ltb-true _ _ is.0)

pub due_by_row : (h : List BookEvent) (mark : Mark) (uid : List ℕ) → is_due_row mark (row_at h uid)
    ≡ is_due_member h mark uid
due_by_row h mark uid = ap (λ b. nat_lt mark.at (last_number h uid)
    && (b || nat_lt mark.base (last_number h uid))) (is_some-map (λ (s : Stored). s.card)
    (finite.get (live h) uid))

-- no row of a due member was forgotten
pub due_row : (h : List BookEvent) (horizon : ℕ) (mark : Mark) (uid : List ℕ) → horizon ≤ mark.base
    → is_due_member h mark uid ≡ true → finite.get (rows_of_log h horizon) uid ≡ Some (row_at h uid)
due_row h horizon mark uid le d =
    let parts = and_parts _ _ d in
    let since : mark.at < last_number h uid = ltb-true _ _ parts.0 in
    get-kept_rows h horizon uid
    ∙ cond-true (is_row_of_log h horizon uid) _ _ (⊎_elim
    (λ here. or_left _ _ here)
    (λ late. let after : mark.base < last_number h uid = ltb-true _ _ late in
    or_right (is_some (finite.get (live h) uid)) (nat_lt horizon (last_number h uid))
    (lt-ltb horizon (last_number h uid) (omega arith)))
    (or_cases _ _ parts.1))
    ∙ get-all_rows h uid ∙ cond-true (nat_lt 0 (last_number h uid)) _ _
    (lt-ltb 0 (last_number h uid) (omega arith))

-- ---- what is live, by the rows

last_some : (h : List BookEvent) (uid : List ℕ) (s : Stored) → finite.get (live h) uid ≡ Some s
    → 0 < last_number h uid
last_some [] uid s e = absurd (none_some (sym (get-empty text_cmp uid) ∙ e))
  where
    none_some : None ≡ Some s → ⊥
    none_some n = cc
last_some (e ∷ h) uid s is = ⊎_elim
    (λ here. let top = last_here h e uid here in omega (arith, top))
    (λ other. let before = last_some h uid s
    (sym (get-changed (live h) e.uid uid e.change (length h + 1) other) ∙ is) in
    let same = last_other h e uid other in omega (arith, before, same))
    (cases_Bool (same_uid uid e.uid))

pub live_by_row : (h : List BookEvent) (horizon : ℕ) (uid : List ℕ)
    → option_and_then stored_in_row (finite.get (rows_of_log h horizon) uid) ≡ finite.get (live h)
    uid
live_by_row h horizon uid =
    ap (option_and_then stored_in_row) (get-kept_rows h horizon uid
    ∙ ap (λ o. cond (is_row_of_log h horizon uid) o None) (get-all_rows h uid))
    ∙ elim (finite.get (live h) uid) as (λ o. ((s : Stored) → o ≡ Some s
    → (s.version ≡ last_number h uid) × (0 < last_number h uid))
    → option_and_then stored_in_row (cond (is_some o || nat_lt horizon (last_number h uid))
    (cond (nat_lt 0 (last_number h uid))
    (Some (row (last_number h uid) (option_map (λ (s : Stored). s.card) o))) None) None) ≡ o) [
      | Some s ↦ λ known.
          let facts = known s refl in
          ap (option_and_then stored_in_row) (cond-true (nat_lt 0 (last_number h uid))
          (Some (row (last_number h uid) (Some s.card))) None (lt-ltb 0 (last_number h uid)
          facts.1))
          ∙ ap (λ n. Some (stored n s.card)) (sym facts.0)
      | None ↦ λ known. removed_up_to_base (nat_lt horizon (last_number h uid))
          (nat_lt 0 (last_number h uid))
    ] (λ s e. (version_is h uid s e, last_some h uid s e))
  where
    row : ℕ → Option (List Line) → Row
    row n card = record { changed = n; card = card }

    stored : ℕ → List Line → Stored
    stored n card = record { version = n; card = card }

    removed_up_to_base : (a b : Bool)
        → option_and_then stored_in_row (cond a (cond b (Some (row (last_number h uid) None)) None)
        None) ≡ None
    removed_up_to_base true true = refl
    removed_up_to_base true false = refl
    removed_up_to_base false b = refl
