-- Facts of histories: which UIDs are touched and in which order, and what an event leaves as it
-- was.
use Rattle.std.proofs.Common.{◌≡◌, ℕ, ◌+◌, ◌<◌, ◌≤◌, Bool, true, false, cond, not, List, [], ◌∷◌}
use Rattle.std.proofs.Common.{◌++◌, length, filter, Some, None, refl, sym, ap, ◌∙◌, subst, ⊎_elim}
use Rattle.std.proofs.Common.{arith}
use Rattle.std.specs.List.{list_any, AllByRecursion}
use Rattle.std.specs.FinMap as finite
use Rattle.std.specs.FinMap.{get-empty, get-insert, get-remove}
use Rattle.std.proofs.lemmas.Bool.{cases_Bool, or_left, or_right, cond-true, cond-false, not-true}
use Rattle.std.proofs.lemmas.Bool.{not_from_false}
use Rattle.std.proofs.lemmas.List.Folds.{list_any-append}
use Rattle.std.proofs.lemmas.Map.Views.{any-filter_same}
use Rattle.std.proofs.lemmas.Option.{same_Some}
use Rattle.base_types.specs.TextMaps.{text_cmp}
use Rattle.book_model.specs.declared.answers.Stored.{Stored}
use Rattle.book_model.specs.declared.change.Change.{Change}
use Rattle.book_model.specs.declared.change.Change.TheVariants.{Stores, TakesAway}
use Rattle.book_laws.specs.EventLogs.{BookEvent, IsEventOf, same_uid, cards_after_change, live}
use Rattle.book_laws.specs.EventLogs.{last_number, touched_uids}
use Rattle.book_model.specs.Books.{LiveCards}
use Rattle.base_types.proofs.TextLemmas.{text_total, same_self, same-equal}

-- whether a UID is in the list
abbrev pub has : List (List ℕ) → List ℕ → Bool
has uids uid = list_any (same_uid uid) uids

pub last_here : (h : List BookEvent) (e : BookEvent) (uid : List ℕ) → same_uid uid e.uid ≡ true
    → last_number (e ∷ h) uid ≡ length h + 1
last_here h e uid here = cond-true (same_uid uid e.uid) (length h + 1) (last_number h uid) here

pub last_other : (h : List BookEvent) (e : BookEvent) (uid : List ℕ) → same_uid uid e.uid ≡ false
    → last_number (e ∷ h) uid ≡ last_number h uid
last_other h e uid other = cond-false (same_uid uid e.uid) (length h + 1) (last_number h uid) other

pub last-le : (h : List BookEvent) (uid : List ℕ) → last_number h uid ≤ length h
last-le [] uid = omega arith
last-le (e ∷ h) uid =
    elim (same_uid uid e.uid) as (λ b. cond b (length h + 1) (last_number h uid) ≤ length (e ∷ h)) [
      | true ↦ omega arith
      | false ↦ omega (arith, last-le h uid)
    ]

-- ---- events by their numbers

-- the last event has its number
pub last_event : (h : List BookEvent) (uid : List ℕ) → 0 < last_number h uid
    → IsEventOf h (last_number h uid) uid
last_event [] uid some = absurd (omega arith)
last_event (e ∷ h) uid some = ⊎_elim
    (λ here. record {
      later = [];
      event = e;
      earlier = h;
      parts = refl;
      number_is = last_here h e uid here;
      uid_is = sym (same-equal uid e.uid here);
    })
    (λ other.
    let before = last_event h uid (subst (λ n. 0 < n) (last_other h e uid other) some) in
    record {
      later = e ∷ before.later;
      event = before.event;
      earlier = before.earlier;
      parts = ap (λ es. e ∷ es) before.parts;
      number_is = last_other h e uid other
          ∙ before.number_is;
      uid_is = before.uid_is;
    })
    (cases_Bool (same_uid uid e.uid))

event_at : (later : List BookEvent) (e : BookEvent) (earlier : List BookEvent) (uid : List ℕ)
    → e.uid ≡ uid → length earlier + 1 ≤ last_number (later ++ e ∷ earlier) uid
event_at [] e earlier uid is = let top = last_here earlier e uid (ap (same_uid uid) is
    ∙ same_self uid) in omega (arith, top)
event_at (d ∷ ds) e earlier uid is =
    let more = event_at ds e earlier uid is in
    let most = last-le (ds ++ e ∷ earlier) uid in
    elim (same_uid uid d.uid) as (λ b. length earlier + 1 ≤ cond b (length (ds ++ e ∷ earlier) + 1)
    (last_number (ds ++ e ∷ earlier) uid)) [
      | true ↦ omega (arith, more, most)
      | false ↦ more
    ]

-- and no event of the UID has a greater one
pub event-le : (h : List BookEvent) (number : ℕ) (uid : List ℕ) → IsEventOf h number uid
    → number ≤ last_number h uid
event-le h number uid is =
    let at = event_at is.later is.event is.earlier uid is.uid_is in
    let so : length is.earlier + 1 ≤ last_number h uid =
    subst (λ (es : List BookEvent). length is.earlier + 1 ≤ last_number es uid) (sym is.parts)
    at in
    let n = is.number_is in omega (arith, so, n)

-- ---- the touched UIDs

-- a UID with an event is among them
pub has-touched : (h : List BookEvent) (uid : List ℕ) → 0 < last_number h uid
    → has (touched_uids h) uid ≡ true
has-touched [] uid some = absurd (omega arith)
has-touched (e ∷ h) uid some =
    let others = filter (λ v. not (same_uid v e.uid)) (touched_uids h) in
    ⊎_elim
    (λ here. list_any-append (same_uid uid) others (e.uid ∷ [])
    ∙ or_right (has others uid) _ (or_left _ _ here))
    (λ other.
    let before : 0 < last_number h uid = subst (λ n. 0 < n) (last_other h e uid other) some in
    list_any-append (same_uid uid) others (e.uid ∷ [])
    ∙ or_left (has others uid) _
    (any-filter_same (same_uid uid) (λ v. not (same_uid v e.uid)) true
    (λ v is. not_from_false _ (subst (λ (u : List ℕ). same_uid u e.uid ≡ false)
    (same-equal uid v is) other))
    (touched_uids h)
    ∙ has-touched h uid before))
    (cases_Bool (same_uid uid e.uid))

-- the list rises strictly, by this number of each UID
abbrev pub Rises : (List ℕ → ℕ) → List (List ℕ) → Type 0
Rises f [] = Unit {0}
Rises f (uid ∷ uids) = AllByRecursion (λ v. f uid < f v) uids × Rises f uids

-- a list that rises by f still rises by g with some left out and a greater one at its end
module _ (f g : List ℕ → ℕ) (p : List ℕ → Bool) (top : List ℕ) (agree : (v : List ℕ) → p v ≡ true
    → g v ≡ f v) where
  above : (n : ℕ) (uids : List (List ℕ)) → n < g top → AllByRecursion (λ v. n < f v) uids
      → AllByRecursion (λ v. n < g v) (filter p uids ++ top ∷ [])
  above n [] t a = (t, tt)
  above n (uid ∷ uids) t a =
      let rest = above n uids t a.1 in
      elim (p uid) as (λ b. p uid ≡ b → AllByRecursion (λ v. n < g v) (cond b (uid ∷ filter p uids)
      (filter p uids) ++ top ∷ [])) [
        | true ↦ λ e. (subst (λ m. n < m) (sym (agree uid e)) a.0, rest)
        | false ↦ λ e. rest
      ] refl

  rises-pushed : ((v : List ℕ) → p v ≡ true → g v < g top) → (uids : List (List ℕ)) → Rises f uids
      → Rises g (filter p uids ++ top ∷ [])
  rises-pushed below [] r = (tt, tt)
  rises-pushed below (uid ∷ uids) r =
      let rest = rises-pushed below uids r.1 in
      elim (p uid) as (λ b. p uid ≡ b → Rises g (cond b (uid ∷ filter p uids) (filter p uids)
      ++ top ∷ [])) [
        | true ↦
            λ e. (
              above (g uid) uids (below uid e) (subst (λ m. AllByRecursion (λ v. m < f v) uids)
                  (sym (agree uid e)) r.0),
              rest,
            )
        | false ↦ λ e. rest
      ] refl

-- they are in the order of their last events
pub touched-rises : (h : List BookEvent) → Rises (last_number h) (touched_uids h)
touched-rises [] = tt
touched-rises (e ∷ h) =
    let kept = λ (v : List ℕ). not (same_uid v e.uid) in
    let agree : (v : List ℕ) → kept v ≡ true → last_number (e ∷ h) v ≡ last_number h v =
    λ v k. last_other h e v (not-true _ k) in
    let newest : last_number (e ∷ h) e.uid ≡ length h + 1 = last_here h e e.uid (same_self e.uid) in
    rises-pushed (last_number h) (last_number (e ∷ h)) kept e.uid agree
    (λ v k. let is = agree v k in omega (arith, last-le h v, is, newest)) (touched_uids h)
    (touched-rises h)

-- ---- the live cards

-- an event changes what is live at its own UID alone
pub get-changed : (cards : LiveCards) (v uid : List ℕ) (change : Change) (n : ℕ)
    → same_uid uid v ≡ false → finite.get (cards_after_change cards v change n) uid
    ≡ finite.get cards uid
get-changed cards v uid (Stores card why) n other =
    get-insert text_total cards v (record { version = n; card = card }) uid ∙ cond-false _ _ _ other
get-changed cards v uid (TakesAway why) n other = get-remove text_total cards v uid
    ∙ cond-false _ _ _ other

-- a version is the number of the last event
pub version_is : (h : List BookEvent) (uid : List ℕ) (s : Stored) → finite.get (live h) uid ≡ Some s
    → s.version ≡ last_number h uid
version_is [] uid s e = absurd (none_some (sym (get-empty text_cmp uid) ∙ e))
  where
    none_some : None ≡ Some s → ⊥
    none_some n = cc
version_is (e ∷ h) uid s is = ⊎_elim
    (λ here. newest e.change here is ∙ sym (last_here h e uid here))
    (λ other. version_is h uid s (sym (get-changed (live h) e.uid uid e.change (length h + 1) other)
    ∙ is) ∙ sym (last_other h e uid other))
    (cases_Bool (same_uid uid e.uid))
  where
    newest : (change : Change) → same_uid uid e.uid ≡ true
        → finite.get (cards_after_change (live h) e.uid change (length h + 1)) uid ≡ Some s
        → s.version ≡ length h + 1
    newest (Stores card why) here g =
        ap (λ (t : Stored). t.version) (sym
        (same_Some _ _ (sym (get-insert text_total (live h) e.uid
        (record { version = length h + 1; card = card }) uid ∙ cond-true _ _ _ here) ∙ g)))
    newest (TakesAway why) here g = absurd (no (sym (get-remove text_total (live h) e.uid uid
        ∙ cond-true _ _ _ here) ∙ g))
      where
        no : None ≡ Some s → ⊥
        no n = cc
