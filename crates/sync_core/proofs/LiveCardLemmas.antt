-- The live cards among the rows of a book, put together one by one.
use Rattle.std.proofs.Common.{◌≡◌, ℕ, true, false, cond, T, List, [], ◌∷◌, ◌++◌, flat_map, fold}
use Rattle.std.proofs.Common.{Option, Some, None, refl, sym, ap, ◌∙◌, subst}
use Rattle.std.specs.Option.{option_map_or, option_or}
use Rattle.std.specs.FinMap as finite
use Rattle.std.specs.FinMap.{get-empty, get-insert, get-from_entries, same_map}
use Rattle.std.specs.FinMap.Entries.{find, below_all, is_sorted}
use Rattle.std.proofs.lemmas.Map.Lookups.{exact_bytes}
use Rattle.base_types.specs.TextMaps.{text_cmp}
use Rattle.book_model.specs.declared.answers.Stored.{Stored}
use Rattle.book_model.specs.declared.row.Row.{Row}
use Rattle.book_model.specs.Books.{stored_in_row, LiveCards}
use Rattle.book_model.specs.BookQueries.{live_card_entry, with_live}
use Rattle.base_types.proofs.TextLemmas.{text_total, same-equal, same}
use Rattle.book_model.proofs.BasicLemmas.{T_parts}
use Rattle.book_model.proofs.LiveCardLemmas.{no_live_below}

abbrev Members : Type 0
Members = List (List ℕ × Row)

-- cards that are put in one after another
folded : (q : List ℕ) (es : Members) → T (is_sorted text_cmp es) → (cards : LiveCards)
    → finite.get (fold with_live cards es) q
    ≡ option_or (find text_cmp q (flat_map live_card_entry es)) (finite.get cards q)
folded q [] h cards = refl
folded q (e ∷ es) h cards =
    let parts = T_parts _ _ h in
    folded q es parts.1 (with_live cards e)
    ∙ elim (stored_in_row e.1) as (λ (o : Option Stored). option_or
    (find text_cmp q (flat_map live_card_entry es))
    (finite.get (option_map_or (λ s. finite.insert cards e.0 s) o cards) q)
    ≡ option_or (find text_cmp q (option_map_or (λ (s : Stored). (e.0, s) ∷ []) o []
    ++ flat_map live_card_entry es)) (finite.get cards q)) [
      | Some s ↦
          ap (option_or (find text_cmp q (flat_map live_card_entry es)))
          (get-insert text_total cards e.0 s q)
          ∙ elim (same q e.0) as (λ b. same q e.0 ≡ b
          → option_or (find text_cmp q (flat_map live_card_entry es))
          (cond b (Some s) (finite.get cards q))
          ≡ option_or (cond b (Some s) (find text_cmp q (flat_map live_card_entry es)))
          (finite.get cards q)) [
            | true ↦ λ here. ap (λ o. option_or o (Some s))
                (no_live_below q es (subst (λ (u : List ℕ). T (below_all text_cmp u es))
                (sym (same-equal q e.0 here)) parts.0))
            | false ↦ λ there. refl
          ] refl
      | None ↦ refl
    ]

-- are all live cards of the rows
pub folded_live : (members : finite.FinMap text_cmp Row)
    → fold with_live finite.empty (finite.entries members) ≡ finite.from_entries
    (flat_map live_card_entry (finite.entries members))
folded_live members = same_map text_total exact_bytes _ _ (λ q.
    folded q (finite.entries members) (finite.entries_sorted members) finite.empty
    ∙ ap (option_or (find text_cmp q (flat_map live_card_entry (finite.entries members))))
    (get-empty text_cmp q)
    ∙ or_none (find text_cmp q (flat_map live_card_entry (finite.entries members)))
    ∙ sym (get-from_entries text_total (flat_map live_card_entry (finite.entries members)) q))
  where
    or_none : (o : Option Stored) → option_or o None ≡ o
    or_none (Some s) = refl
    or_none None = refl
