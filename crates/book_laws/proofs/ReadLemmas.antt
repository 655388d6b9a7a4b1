-- Each call that only reads returns the same from rows as from histories.
use Rattle.std.proofs.Common.{◌≡◌, ℕ, List, [], ◌∷◌, map, flat_map, length, Option, Some, None}
use Rattle.std.proofs.Common.{Result, Ok, Err, refl, sym, ap, ◌∙◌}
use Rattle.std.specs.Option.{option_map, option_map_or, option_and_then}
use Rattle.std.specs.FinMap as finite
use Rattle.std.specs.FinMap.{get-from_entries, same_map}
use Rattle.std.proofs.lemmas.Map.Lookups.{exact_bytes}
use Rattle.base_types.specs.TextMaps.{text_cmp}
use Rattle.book_model.specs.declared.refusal.Refusal.{Refusal}
use Rattle.book_model.specs.declared.refusal.Refusal.TheVariants.{NoSuchBook}
use Rattle.book_model.specs.declared.row.Row.{Row}
use Rattle.book_model.specs.Books.{Book, book_named, stored_in_row}
use Rattle.book_laws.specs.LogCounts.{counts_of_log}
use Rattle.book_laws.specs.EventLogs.{live}
use Rattle.book_model.specs.CallOutcomes.{◌>>=◌}
use Rattle.book_laws.specs.QueryRefinement.{BooksRefine, BookLinesRefine, GetRefines, CardsRefine}
use Rattle.book_laws.specs.QueryRefinement.{KeptImportsRefine, TalliesRefine}
use Rattle.book_model.specs.BookQueries.{book_line_in_rows, live_card_entry, live_cards, tally_with}
use Rattle.book_model.specs.BookQueries.{tombstone_count, book_tally}
use Rattle.book_model.specs.Books.{live_or_no_such_card}
use Rattle.book_laws.specs.LogRows.{rows_of_log}
use Rattle.book_laws.specs.StoreHistories.{BookHistory, BookHistories, IsSoundHistory}
use Rattle.book_laws.specs.StoreHistories.{book_of_history, rows_of}
use Rattle.book_laws.specs.HistoryQueries.{history_line, history_tally}
use Rattle.book_laws.specs.HistorySteps.{history_named}
use Rattle.book_laws.proofs.CountLemmas.{live_count_is}
use Rattle.book_laws.proofs.DropLemmas.{remembered_is}
use Rattle.book_laws.proofs.RowLemmas.{live_by_row}
use Rattle.base_types.proofs.TextLemmas.{text_total}
use Rattle.book_model.proofs.LiveCardLemmas.{find_live}
use Rattle.book_laws.proofs.StoreHistoryLemmas.{get-rows, entries-rows}

-- the same result for the book of a name and for its history
same_result_named : {A : Type 0} (histories : BookHistories) (name : List ℕ) (f : Book
    → Result A Refusal) (g : BookHistory → Result A Refusal)
    → ((history : BookHistory) → finite.get histories name ≡ Some history
    → f (book_of_history history) ≡ g history)
    → (book_named (rows_of histories) name >>= f) ≡ (history_named histories name >>= g)
same_result_named {A} histories name f g each =
    ap (λ (o : Option Book). option_map_or Ok o (Err NoSuchBook) >>= f) (get-rows histories name)
    ∙ by_history (finite.get histories name) each
  where
    by_history : (o : Option BookHistory) → ((history : BookHistory) → o ≡ Some history
        → f (book_of_history history) ≡ g history)
        → (option_map_or Ok (option_map book_of_history o) (Err NoSuchBook) >>= f)
        ≡ (option_map_or Ok o (Err NoSuchBook) >>= g)
    by_history None each = refl
    by_history (Some history) each = each history refl

-- ---- lines of books

lines_are : (named : List (List ℕ × BookHistory))
    → map book_line_in_rows (map (λ (n : List ℕ × BookHistory). (n.0, book_of_history n.1)) named)
    ≡ map history_line named
lines_are [] = refl
lines_are (n ∷ ns) = ap (λ t. history_line n ∷ t) (lines_are ns)

pub books_follow : BooksRefine
books_follow histories = ap (map book_line_in_rows) (entries-rows histories)
    ∙ lines_are (finite.entries histories)

pub book_lines_follow : BookLinesRefine
book_lines_follow histories name = same_result_named histories name _ _ (λ history at. refl)

-- ---- cards

pub getting_follows : GetRefines
getting_follows histories name uid =
    same_result_named histories name _ _ (λ history at. ap live_or_no_such_card
    (live_by_row history.log history.horizon uid))

pub live_cards_are : (history : BookHistory) → live_cards (book_of_history history)
    ≡ live history.log
live_cards_are history = same_map text_total exact_bytes _ _ (λ q.
    get-from_entries text_total (flat_map live_card_entry (finite.entries members)) q
    ∙ find_live q (finite.entries members) (finite.entries_sorted members)
    ∙ ap (option_and_then stored_in_row) (sym (finite.get-entries members q))
    ∙ live_by_row history.log history.horizon q)
  where
    members : finite.FinMap text_cmp Row
    members = rows_of_log history.log history.horizon

pub cards_follow : CardsRefine
cards_follow histories name = same_result_named histories name _ _
    (λ history at. ap Ok (live_cards_are history))

pub kept_imports_follow : KeptImportsRefine
kept_imports_follow histories name key = same_result_named histories name _ _ (λ history at. refl)

-- ---- tallies

module _ (history : BookHistory) where
  tally_is : IsSoundHistory history → book_tally (book_of_history history) ≡ history_tally history
  tally_is sound =
      ap (λ n. tally_with (length history.log) history.horizon n (counts_of_log history.log)
      (tombstone_count (book_of_history history))) (live_count_is history.log sound.valid_log)
      ∙ ap (tally_with (length history.log) history.horizon (finite.len (live history.log))
      (counts_of_log history.log)) (remembered_is history)

pub tallies_follow : TalliesRefine
tallies_follow histories name sound =
    same_result_named histories name _ _
    (λ history at. ap Ok (tally_is history (sound name history at)))
