-- What holds of each book of a store holds of each entry.
use Rattle.std.proofs.Common.{◌≡◌, ℕ, T, List, [], ◌∷◌, Option, Some, None, sym, ap, ◌∙◌, ⊎_elim}
use Rattle.std.specs.List.{AllByRecursion}
use Rattle.std.specs.FinMap as finite
use Rattle.std.specs.FinMap.Entries.{find, below_all, is_sorted}
use Rattle.std.proofs.lemmas.Bool.{cases_Bool, cond-true, cond-false}
use Rattle.base_types.specs.TextMaps.{text_cmp}
use Rattle.base_types.proofs.TextLemmas.{same, same_self, same-equal}
use Rattle.book_model.specs.Books.{Book, Books}
use Rattle.book_model.proofs.BasicLemmas.{T_parts}
use Rattle.book_resync.proofs.AllBooksLemmas.{find-below}

module _ (Holds : List ℕ → Book → Type 0) where
  abbrev HoldsOfFound : List (List ℕ × Book) → Type 0
  HoldsOfFound es = (name : List ℕ) (book : Book) → find text_cmp name es ≡ Some book
      → Holds name book

  of_rest : (e : List ℕ × Book) (es : List (List ℕ × Book)) → T (below_all text_cmp e.0 es)
      → HoldsOfFound (e ∷ es) → HoldsOfFound es
  of_rest e es below all name book at = ⊎_elim
      (λ here. absurd (none_some (sym (find-below e.0 es below)
      ∙ ap (λ (u : List ℕ). find text_cmp u es) (sym (same-equal name e.0 here)) ∙ at)))
      (λ other. all name book (cond-false _ _ _ other ∙ at))
      (cases_Bool (same name e.0))
    where
      none_some : ◌≡◌ {A = Option Book} None (Some book) → ⊥
      none_some e = cc

  of_entries : (es : List (List ℕ × Book)) → T (is_sorted text_cmp es) → HoldsOfFound es
      → AllByRecursion (λ e. Holds e.0 e.1) es
  of_entries [] sorted all = tt
  of_entries (e ∷ es) sorted all =
      let parts = T_parts _ _ sorted in (
        all e.0 e.1 (cond-true _ _ _ (same_self e.0)),
        of_entries es parts.1 (of_rest e es parts.0 all),
      )

  pub each_entry : (books : Books)
      → ((name : List ℕ) (book : Book) → finite.get books name ≡ Some book → Holds name book)
      → AllByRecursion (λ e. Holds e.0 e.1) (finite.entries books)
  each_entry books all = of_entries (finite.entries books) (finite.entries_sorted books)
      (λ name book at. all name book (finite.get-entries books name ∙ at))
