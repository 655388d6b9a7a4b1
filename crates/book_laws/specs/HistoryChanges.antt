-- Removals, moves, imports and forgetting, defined on histories.
use Rattle.std.specs.Prelude.{ℕ, Bool, not, ◌&&◌, nat_lt, nat_le, List, length, filter, is_some}
use Rattle.std.specs.Prelude.{Option, Some, None, Result, Ok}
use Rattle.std.specs.FinMap as finite
use Rattle.vcard_lines.specs.declared.line.Line.{Line}
use Rattle.vcard_text.specs.Cards.{uid_of}
use Rattle.book_model.specs.declared.answers.ImportTally.{ImportTally}
use Rattle.book_model.specs.declared.answers.Moved.{Moved}
use Rattle.book_model.specs.declared.answers.Stored.{Stored}
use Rattle.book_model.specs.declared.change.Change.{Change}
use Rattle.book_model.specs.declared.change.Change.TheVariants.{Stores, TakesAway}
use Rattle.book_model.specs.declared.change.StoreReason.{StoreReason}
use Rattle.book_model.specs.declared.change.StoreReason.TheVariants.{MoveIn}
use Rattle.book_model.specs.declared.change.RemovalReason.TheVariants.{Deletion, MoveOut}
use Rattle.book_model.specs.declared.refusal.Refusal.{Refusal}
use Rattle.book_model.specs.declared.refusal.Refusal.TheVariants.{SameBook, BadKey, BadForget}
use Rattle.book_model.specs.Bounds.{Bounds}
use Rattle.book_model.specs.Books.{same_name}
use Rattle.book_model.specs.Forgetting.{may_forget}
use Rattle.book_laws.specs.EventLogs.{BookEvent, live, last_number, touched_uids}
use Rattle.book_model.specs.Importing.{Importing, import_cards, import_tally, is_legal_key}
use Rattle.book_model.specs.Moving.{move_answer}
use Rattle.book_model.specs.CallOutcomes.{◌>>=◌, refuse_unless}
use Rattle.book_model.specs.Removing.{remove_number}
use Rattle.book_laws.specs.StoreHistories.{BookHistory, BookHistories}
use Rattle.book_laws.specs.HistorySteps.{with_event, history_named, found_in_history}

abbrev pub event : List ℕ → Change → BookEvent
event uid change = record { uid = uid; change = change }

-- ---- removing a card

abbrev pub remove_on_histories : Bounds → BookHistories → List ℕ → List ℕ → Option ℕ
    → Result (ℕ × BookHistories) Refusal
remove_on_histories limits histories name uid expect = do
  history ← history_named histories name
  number ← remove_number limits (found_in_history history.log uid) expect
  Ok (number, finite.insert histories name (with_event history (event uid (TakesAway Deletion))))

-- ---- moving a card

-- one event in each of the two histories, with the same card
abbrev pub histories_after_move
    : BookHistories → List ℕ → List ℕ → List ℕ → BookHistory → BookHistory → List Line
    → BookHistories
histories_after_move histories from to uid source target card =
    finite.insert (finite.insert histories to (with_event target (event uid (Stores card MoveIn))))
    from (with_event source (event uid (TakesAway MoveOut)))

abbrev pub move_on_histories : Bounds → BookHistories → List ℕ → List ℕ → List ℕ → Option ℕ
    → Result (Moved × BookHistories) Refusal
move_on_histories limits histories from to uid expect = do
  source ← history_named histories from
  target ← history_named histories to
  apart ← refuse_unless (not (same_name from to)) SameBook
  moving ← move_answer limits (found_in_history source.log uid)
      (found_in_history target.log uid) expect
  Ok (moving.numbers, histories_after_move histories from to uid source target moving.card)

-- ---- importing cards

abbrev pub live_in_history : BookHistory → List ℕ → Option Stored
live_in_history history uid = finite.get (live history.log) uid

abbrev pub history_with_stored_card : BookHistory → List Line → StoreReason → BookHistory
history_with_stored_card history card why =
    with_event history (event (uid_of card) (Stores card why))

-- the history after the cards that were imported so far
abbrev pub history_import : BookHistory → List (List Line) → Importing BookHistory
history_import history cards = import_cards live_in_history history_with_stored_card history cards

abbrev pub history_with_kept_import : BookHistory → List ℕ → ImportTally → BookHistory
history_with_kept_import history key tally =
    record history { imports = finite.insert history.imports key tally }

-- the tally of an import, where there is room for its cards
abbrev pub history_import_tally : Bounds → Importing BookHistory → Result ImportTally Refusal
history_import_tally limits done =
    import_tally limits done (finite.len (live done.book.log)) (length done.book.log)

-- where the key is kept, its tally is returned and nothing changes
abbrev pub import_on_histories_under : Bounds → BookHistories → List ℕ → BookHistory → List ℕ
    → List (List Line)
    → Option ImportTally → Result (ImportTally × BookHistories) Refusal
import_on_histories_under limits histories name history key cards (Some kept) = Ok (kept, histories)
import_on_histories_under limits histories name history key cards None = do
  tally ← history_import_tally limits (history_import history cards)
  Ok (
    tally,
    finite.insert histories name
        (history_with_kept_import (history_import history cards).book key tally),
  )

abbrev pub import_on_histories : Bounds → BookHistories → List ℕ → List ℕ → List (List Line)
    → Result (ImportTally × BookHistories) Refusal
import_on_histories limits histories name key cards = do
  history ← history_named histories name
  legal ← refuse_unless (is_legal_key key) BadKey
  import_on_histories_under limits histories name history key cards (finite.get history.imports key)

-- ---- forgetting

-- a tombstone that is dropped: its removal is above the old horizon, and not above the new one
abbrev pub is_dropped_tombstone : BookHistory → ℕ → List ℕ → Bool
is_dropped_tombstone history upto uid =
    not (is_some (live_in_history history uid))
    && nat_lt history.horizon (last_number history.log uid)
    && nat_le (last_number history.log uid) upto

-- how many there are
abbrev pub dropped_tombstone_count : BookHistory → ℕ → ℕ
dropped_tombstone_count history upto =
    length (filter (is_dropped_tombstone history upto) (touched_uids history.log))

abbrev pub with_horizon : BookHistory → ℕ → BookHistory
with_horizon history upto = record history { horizon = upto }

abbrev pub forget_on_histories : BookHistories → List ℕ → ℕ → Result (ℕ × BookHistories) Refusal
forget_on_histories histories name upto = do
  history ← history_named histories name
  allowed ← refuse_unless (may_forget history.horizon (length history.log) upto) BadForget
  Ok (
    dropped_tombstone_count history upto,
    finite.insert histories name
        (with_horizon history upto),
  )
