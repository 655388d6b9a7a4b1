-- Items of lists by their places: of a sorted list of entries, of a list with one more item, and of
-- the books that are tested one after another.
use Rattle.std.proofs.Common.{◌≡◌, ◌<◌, ◌+◌, ℕ, zero, suc, Bool, true, false, cond, T, List, []}
use Rattle.std.proofs.Common.{◌∷◌, ◌++◌, map, take, length, Option, Some, None, Result, Ok, Err}
use Rattle.std.proofs.Common.{add-one, refl, sym, ap, subst, ◌∙◌, ⊎_elim, true≢false, arith}
use Rattle.std.specs.List.{AllByRecursion, slice_get}
use Rattle.std.specs.FinMap.Entries.{find, below_all, is_sorted}
use Rattle.std.proofs.lemmas.Bool.{cases_Bool, cond-true, cond-false}
use Rattle.std.proofs.lemmas.Option.{same_Some}
use Rattle.base_types.specs.TextMaps.{text_cmp}
use Rattle.base_types.proofs.TextLemmas.{same, same_self, same-equal}
use Rattle.book_model.specs.declared.refusal.Refusal.{Refusal}
use Rattle.book_model.specs.Bounds.{Bounds}
use Rattle.book_model.specs.Books.{Book}
use Rattle.book_model.specs.CallOutcomes.{◌>>=◌}
use Rattle.book_model.proofs.BasicLemmas.{T_parts, less_differs}
use Rattle.book_resync.specs.Resyncing.{accept_books, last_number_of}

-- ---- items

nothing : {X : Type 0} (x : X) → ◌≡◌ {A = Option X} None (Some x) → ⊥
nothing x e = cc

pub all_at : {X : Type 0} (P : X → Type 0) (xs : List X) (i : ℕ) (x : X) → AllByRecursion P xs
    → slice_get xs i ≡ Some x → P x
all_at P [] i x all at = absurd (nothing x at)
all_at P (y ∷ ys) zero x all at = subst P (same_Some y x at) all.0
all_at P (y ∷ ys) (suc i) x all at = all_at P ys i x all.1 at

pub all_more : {X : Type 0} (P : X → Type 0) (xs : List X) (x : X) → AllByRecursion P xs → P x
    → AllByRecursion P (xs ++ x ∷ [])
all_more P [] x all one = (one, tt)
all_more P (y ∷ ys) x all one = (all.0, all_more P ys x all.1 one)

pub take_more : {X : Type 0} (xs : List X) (i : ℕ) (x : X) → slice_get xs i ≡ Some x
    → take (suc i) xs ≡ take i xs ++ x ∷ []
take_more [] i x at = absurd (nothing x at)
take_more (y ∷ ys) zero x at = ap (λ z. z ∷ []) (same_Some y x at)
take_more (y ∷ ys) (suc i) x at = ap (λ zs. y ∷ zs) (take_more ys i x at)

pub map_more : {X Y : Type 0} (f : X → Y) (xs : List X) (x : X) → map f (xs ++ x ∷ []) ≡ map f xs
    ++ f x ∷ []
map_more f [] x = refl
map_more f (y ∷ ys) x = ap (λ zs. f y ∷ zs) (map_more f ys x)

-- ---- entries of a map

module _ {V : Type 0} where
  below_differs : (q : List ℕ) (es : List (List ℕ × V)) (i : ℕ) (e : List ℕ × V)
      → T (below_all text_cmp q es) → slice_get es i ≡ Some e → same q e.0 ≡ false
  below_differs q [] i e below at = absurd (nothing e at)
  below_differs q (x ∷ es) zero e below at =
      let parts = T_parts _ _ below in
      subst (λ (y : List ℕ × V). same q y.0 ≡ false) (same_Some x e at)
      (less_differs (text_cmp q x.0) parts.0)
  below_differs q (x ∷ es) (suc i) e below at = let parts = T_parts _ _ below in
      below_differs q es i e parts.1 at

  -- earlier entries have other keys
  pub sorted_differs : (es : List (List ℕ × V)) (i j : ℕ) (e f : List ℕ × V)
      → T (is_sorted text_cmp es) → slice_get es i ≡ Some e → slice_get es j ≡ Some f → i < j
      → same e.0 f.0 ≡ false
  sorted_differs [] i j e f sorted at there lt = absurd (nothing e at)
  sorted_differs (x ∷ es) zero zero e f sorted at there lt = absurd (omega (arith, lt))
  sorted_differs (x ∷ es) zero (suc j) e f sorted at there lt =
      let parts = T_parts _ _ sorted in
      subst (λ (y : List ℕ × V). same y.0 f.0 ≡ false) (same_Some x e at)
      (below_differs x.0 es j f parts.0 there)
  sorted_differs (x ∷ es) (suc i) zero e f sorted at there lt = absurd (omega (arith, lt))
  sorted_differs (x ∷ es) (suc i) (suc j) e f sorted at there lt = let parts = T_parts _ _ sorted in
      sorted_differs es i j e f parts.1 at there (omega (arith, lt))

  -- an entry is found under its key
  pub found_at : (es : List (List ℕ × V)) (i : ℕ) (e : List ℕ × V) → T (is_sorted text_cmp es)
      → slice_get es i ≡ Some e → find text_cmp e.0 es ≡ Some e.1
  found_at [] i e sorted at = absurd (nothing e at)
  found_at (x ∷ es) zero e sorted at =
      subst (λ (y : List ℕ × V). find text_cmp y.0 (x ∷ es) ≡ Some y.1) (same_Some x e at)
      (cond-true (same x.0 x.0) (Some x.1) (find text_cmp x.0 es) (same_self x.0))
  found_at (x ∷ es) (suc i) e sorted at =
      let parts = T_parts _ _ sorted in
      ⊎_elim
      (λ here.
      let apart = below_differs x.0 es i e parts.0 at in
      let own : same x.0 e.0 ≡ true = ap (same x.0) (same-equal e.0 x.0 here) ∙ same_self x.0 in
      absurd (true≢false (sym own ∙ apart)))
      (λ other. cond-false (same e.0 x.0) (Some x.1) (find text_cmp e.0 es) other
      ∙ found_at es i e parts.1 at)
      (cases_Bool (same e.0 x.0))

-- ---- books that are tested one after another

module _ (limits : Bounds) (pairs : ℕ) where
  abbrev Named : Type 0
  Named = List ℕ × Book

  first_of : (r : Result ℕ Refusal) (rest : Result (Unit {0}) Refusal) → (r >>= λ _. rest) ≡ Ok tt
      → (n : ℕ) × (r ≡ Ok n) × (rest ≡ Ok tt)
  first_of (Ok n) rest e = (n, refl, e)
  first_of (Err refusal) rest e = absurd (let bad = e in cc)

  -- one more is accepted
  pub accepts_more : (es : List Named) (i : ℕ) (e : Named) (n : ℕ)
      → accept_books limits pairs (take i es) ≡ Ok tt → slice_get es i ≡ Some e
      → last_number_of limits pairs e.1 ≡ Ok n → accept_books limits pairs (take (suc i) es) ≡ Ok tt
  accepts_more [] i e n before at is = absurd (nothing e at)
  accepts_more (x ∷ es) zero e n before at is =
      ap (λ (r : Result ℕ Refusal). r >>= λ _. accept_books limits pairs [])
      (ap (λ (y : Named). last_number_of limits pairs y.1) (same_Some x e at) ∙ is)
  accepts_more (x ∷ es) (suc i) e n before at is =
      let first = first_of (last_number_of limits pairs x.1) (accept_books limits pairs (take i es))
      before in
      ap (λ (r : Result ℕ Refusal). r >>= λ _. accept_books limits pairs (take (suc i) es)) first.1
      ∙ accepts_more es i e n first.2 at is

  -- the first one that is refused
  pub refuses_at : (es : List Named) (i : ℕ) (e : Named) (refusal : Refusal)
      → accept_books limits pairs (take i es) ≡ Ok tt → slice_get es i ≡ Some e
      → last_number_of limits pairs e.1 ≡ Err refusal → accept_books limits pairs es ≡ Err refusal
  refuses_at [] i e refusal before at is = absurd (nothing e at)
  refuses_at (x ∷ es) zero e refusal before at is =
      ap (λ (r : Result ℕ Refusal). r >>= λ _. accept_books limits pairs es)
      (ap (λ (y : Named). last_number_of limits pairs y.1) (same_Some x e at) ∙ is)
  refuses_at (x ∷ es) (suc i) e refusal before at is =
      let first = first_of (last_number_of limits pairs x.1) (accept_books limits pairs (take i es))
      before in
      ap (λ (r : Result ℕ Refusal). r >>= λ _. accept_books limits pairs es) first.1
      ∙ refuses_at es i e refusal first.2 at is
