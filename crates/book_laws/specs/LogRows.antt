-- The rows that a store keeps of a log.
use Rattle.std.specs.Prelude.{ℕ, ◌+◌, Bool, ◌||◌, nat_lt, List, [], ◌∷◌, length, is_some}
use Rattle.std.specs.FinMap as finite
use Rattle.base_types.specs.TextMaps.{text_cmp}
use Rattle.book_model.specs.declared.row.Row.{Row}
use Rattle.book_model.specs.BookChanges.{card_after}
use Rattle.book_laws.specs.EventLogs.{BookEvent, live, last_number}

-- one row for each member with an event, written by its last one
abbrev pub all_rows_of_log : List BookEvent → finite.FinMap text_cmp Row
all_rows_of_log [] = finite.empty
all_rows_of_log (e ∷ h) =
    finite.insert (all_rows_of_log h) e.uid
    (record { changed = length h + 1; card = card_after e.change })

-- a row is kept where its member is live, or was removed after the horizon (a tombstone)
abbrev pub is_row_of_log : List BookEvent → ℕ → List ℕ → Bool
is_row_of_log h horizon uid =
    is_some (finite.get (live h) uid) || nat_lt horizon (last_number h uid)

abbrev pub rows_of_log : List BookEvent → ℕ → finite.FinMap text_cmp Row
rows_of_log h horizon = finite.retain_keys (all_rows_of_log h) (is_row_of_log h horizon)
