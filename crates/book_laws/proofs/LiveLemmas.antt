-- The live cards of a book are what its last events stored.
use Rattle.std.proofs.Common.{◌≡◌, ◌≢◌, ℕ, ◌+◌, true, false, List, [], ◌∷◌, ◌++◌, length, All, Some}
use Rattle.std.proofs.Common.{None, refl, sym, ap, ◌∙◌, subst, ⊎_elim}
use Rattle.std.specs.FinMap as finite
use Rattle.std.specs.FinMap.{get-empty, get-insert, get-remove}
use Rattle.std.proofs.lemmas.Bool.{cases_Bool, cond-true}
use Rattle.std.proofs.lemmas.List.Elements.{All-nil, All-cons, All-head, All-tail}
use Rattle.std.proofs.lemmas.Option.{same_Some}
use Rattle.base_types.specs.TextMaps.{text_cmp}
use Rattle.vcard_lines.specs.declared.line.Line.{Line}
use Rattle.book_model.specs.declared.answers.Stored.{Stored}
use Rattle.book_model.specs.declared.change.Change.{Change}
use Rattle.book_model.specs.declared.change.Change.TheVariants.{Stores, TakesAway}
use Rattle.book_model.specs.declared.change.StoreReason.{StoreReason}
use Rattle.base_types.proofs.TextLemmas.{text_total, same_self, same-equal, same-other}
use Rattle.book_laws.specs.EventLogs.{BookEvent, same_uid, cards_after_change, live}
use Rattle.book_laws.specs.LiveLaws.{LiveCardsAreStoredLast}
use Rattle.book_laws.specs.LastChanges.{IsStoredLast}
use Rattle.book_laws.proofs.HistoryLemmas.{get-changed}

-- the event is of another member
abbrev IsOfAnother : List ℕ → BookEvent → Type 0
IsOfAnother uid event = event.uid ≢ uid

nothing : {A : Type 0} (x : A) → None ≡ Some x → ⊥
nothing x e = cc

-- ---- what is live was stored last

stored_first : (h : List BookEvent) (e : BookEvent) (uid : List ℕ) (change : Change) (stored :
    Stored) → e.change ≡ change → same_uid uid e.uid ≡ true
    → finite.get (cards_after_change (live h) e.uid change (length h + 1)) uid ≡ Some stored
    → IsStoredLast (e ∷ h) uid stored
stored_first h e uid (Stores card why) stored is here g =
    let it : Stored = record { version = length h + 1; card = card } in
    let same : it ≡ stored = same_Some _ _ (sym (get-insert text_total (live h) e.uid it uid
    ∙ cond-true _ _ _ here) ∙ g) in
    let own : e ≡ record { uid = uid; change = Stores card why } =
    let u : e.uid ≡ uid = sym (same-equal uid e.uid here) in
    λ i. record { uid = u i; change = is i } in
    record {
      why = why;
      change = record {
        later = [];
        earlier = h;
        parts = ap (λ (x : BookEvent). x ∷ h) own
            ∙ ap (λ (s : Stored). record { uid = uid; change = Stores s.card why } ∷ h) same;
        number_is = ap (λ (s : Stored). s.version) (sym same);
        others = All-nil (IsOfAnother uid);
      };
    }
stored_first h e uid (TakesAway why) stored is here g =
    absurd (nothing stored (sym (get-remove text_total (live h) e.uid uid ∙ cond-true _ _ _ here)
    ∙ g))

is_stored_last : (h : List BookEvent) (uid : List ℕ) (stored : Stored)
    → finite.get (live h) uid ≡ Some stored → IsStoredLast h uid stored
is_stored_last [] uid stored g = absurd (nothing stored (sym (get-empty text_cmp uid) ∙ g))
is_stored_last (e ∷ h) uid stored g = ⊎_elim
    (λ here. stored_first h e uid e.change stored refl here g)
    (λ other. later_on other (is_stored_last h uid stored
    (sym (get-changed (live h) e.uid uid e.change (length h + 1) other) ∙ g)))
    (cases_Bool (same_uid uid e.uid))
  where
    differs : same_uid uid e.uid ≡ false → e.uid ≢ uid
    differs other is = let t : same_uid uid e.uid ≡ true =
        subst (λ (u : List ℕ). same_uid u e.uid ≡ true) is (same_self e.uid) in cc

    later_on : same_uid uid e.uid ≡ false → IsStoredLast h uid stored
        → IsStoredLast (e ∷ h) uid stored
    later_on other l = record {
      why = l.why;
      change = record {
        later = e ∷ l.change.later;
        earlier = l.change.earlier;
        parts = ap (λ (xs : List BookEvent). e ∷ xs) l.change.parts;
        number_is = l.change.number_is;
        others = All-cons (IsOfAnother uid) e l.change.later (differs other) l.change.others;
      };
    }

-- ---- what was stored last is live

stored_after_last : (uid : List ℕ) (card : List Line) (why : StoreReason) (earlier later :
    List BookEvent) → All (IsOfAnother uid) later
    → finite.get (live (later ++ record { uid = uid; change = Stores card why } ∷ earlier)) uid
    ≡ Some (record { version = length earlier + 1; card = card })
stored_after_last uid card why earlier [] others =
    get-insert text_total (live earlier) uid (record { version = length earlier + 1; card = card })
    uid ∙ cond-true _ _ _ (same_self uid)
stored_after_last uid card why earlier (e ∷ later) others =
    let h : List BookEvent = later ++ record { uid = uid; change = Stores card why } ∷ earlier in
    let other : same_uid uid e.uid ≡ false =
    same-other uid e.uid (λ is. All-head (IsOfAnother uid) e later others (sym is)) in
    get-changed (live h) e.uid uid e.change (length h + 1) other
    ∙ stored_after_last uid card why earlier later (All-tail (IsOfAnother uid) e later others)

is_live : (h : List BookEvent) (uid : List ℕ) (stored : Stored) → IsStoredLast h uid stored
    → finite.get (live h) uid ≡ Some stored
is_live h uid stored s =
    ap (λ (xs : List BookEvent). finite.get (live xs) uid) s.change.parts
    ∙ stored_after_last uid stored.card s.why s.change.earlier s.change.later s.change.others
    ∙ ap (λ (n : ℕ). Some (record { version = n; card = stored.card })) (sym s.change.number_is)

pub live_are_stored_last : LiveCardsAreStoredLast
live_are_stored_last h uid stored = (is_stored_last h uid stored, is_live h uid stored)
