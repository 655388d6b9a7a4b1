-- The live cards among the rows of a book, collected one by one.
use Rattle.std.proofs.Common.{◌≡◌, ℕ, true, false, cond, T, List, [], ◌∷◌, ◌++◌, flat_map, Option}
use Rattle.std.proofs.Common.{Some, None, refl, sym, ◌∙◌, subst}
use Rattle.std.specs.Option.{option_map_or, option_and_then}
use Rattle.std.specs.FinMap as finite
use Rattle.std.specs.FinMap.Entries.{find, below_all, is_sorted}
use Rattle.std.proofs.lemmas.Bool.{cond-true, cond-false}
use Rattle.base_types.specs.TextMaps.{text_cmp}
use Rattle.book_model.specs.declared.answers.Stored.{Stored}
use Rattle.book_model.specs.declared.row.Row.{Row}
use Rattle.book_model.specs.Books.{stored_in_row}
use Rattle.book_model.specs.BookQueries.{live_card_entry}
use Rattle.book_model.proofs.BasicLemmas.{T_parts, less_differs}
use Rattle.base_types.proofs.TextLemmas.{same-equal, same}

abbrev pub Members : Type 0
Members = List (List ℕ × Row)

pub no_live_below : (q : List ℕ) (es : Members) → T (below_all text_cmp q es)
    → find text_cmp q (flat_map live_card_entry es) ≡ None
no_live_below q [] h = refl
no_live_below q (e ∷ es) h =
    let parts = T_parts _ _ h in
    let rest = no_live_below q es parts.1 in
    elim (stored_in_row e.1) as (λ (o : Option Stored). find text_cmp q
    (option_map_or (λ (s : Stored). (e.0, s) ∷ []) o [] ++ flat_map live_card_entry es) ≡ None) [
      | Some s ↦ cond-false (same q e.0) (Some s) _ (less_differs (text_cmp q e.0) parts.0) ∙ rest
      | None ↦ rest
    ]

pub find_live : (q : List ℕ) (es : Members) → T (is_sorted text_cmp es)
    → find text_cmp q (flat_map live_card_entry es) ≡ option_and_then stored_in_row
    (find text_cmp q es)
find_live q [] h = refl
find_live q (e ∷ es) h =
    let parts = T_parts _ _ h in
    let rest = find_live q es parts.1 in
    elim (same q e.0) as (λ b. same q e.0 ≡ b
    → find text_cmp q (live_card_entry e ++ flat_map live_card_entry es)
    ≡ option_and_then stored_in_row (cond b (Some e.1) (find text_cmp q es))) [
      | true ↦ λ here. elim (stored_in_row e.1) as (λ (o : Option Stored). find text_cmp q
          (option_map_or (λ (s : Stored). (e.0, s) ∷ []) o [] ++ flat_map live_card_entry es) ≡ o) [
            | Some s ↦ cond-true (same q e.0) (Some s) _ here
            | None ↦ no_live_below q es (subst (λ (u : List ℕ). T (below_all text_cmp u es))
                (sym (same-equal q e.0 here)) parts.0)
          ]
      | false ↦ λ there. elim (stored_in_row e.1) as (λ (o : Option Stored). find text_cmp q
          (option_map_or (λ (s : Stored). (e.0, s) ∷ []) o [] ++ flat_map live_card_entry es)
          ≡ option_and_then stored_in_row (find text_cmp q es)) [
            | Some s ↦ cond-false (same q e.0) (Some s) _ there ∙ rest
            | None ↦ rest
          ]
    ] refl
