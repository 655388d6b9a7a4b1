-- Creating a book, a put and a report, defined on histories.
use Rattle.std.specs.Prelude.{ℕ, nat_le, List, [], ◌∷◌, length, Option, Some, None, Result, Ok, Err}
use Rattle.std.specs.Prelude.{if◌then◌else◌}
use Rattle.std.specs.Option.{option_map_or}
use Rattle.std.specs.FinMap as finite
use Rattle.vcard_lines.specs.declared.line.Line.{Line}
use Rattle.vcard_text.specs.Cards.{uid_of}
use Rattle.book_model.specs.declared.answers.PutAnswer.{PutAnswer}
use Rattle.book_model.specs.declared.change.Change.{Change}
use Rattle.book_model.specs.declared.change.Change.TheVariants.{Stores, TakesAway}
use Rattle.book_model.specs.declared.change.StoreReason.{StoreReason}
use Rattle.book_model.specs.declared.page.Page.{Page}
use Rattle.book_model.specs.declared.refusal.Refusal.{Refusal}
use Rattle.book_model.specs.declared.refusal.Refusal.TheVariants.{NoSuchBook}
use Rattle.book_model.specs.declared.token.Token.{Token}
use Rattle.book_model.specs.Bounds.{Bounds}
use Rattle.book_model.specs.Creating.{new_id}
use Rattle.book_laws.specs.EventLogs.{BookEvent, live, last_number}
use Rattle.book_model.specs.CallOutcomes.{◌>>=◌}
use Rattle.book_model.specs.Pages.{requested_mark, page_size, page_of}
use Rattle.book_model.specs.Putting.{FoundMember, put_answer, put_store_reason}
use Rattle.book_laws.specs.Reports.{report}
use Rattle.book_laws.specs.StoreHistories.{BookHistory, BookHistories, tombstone_uids}

abbrev pub empty_history : ℕ → ℕ → BookHistory
empty_history id keep =
    record { id = id; log = []; horizon = 0; keep = keep; imports = finite.empty }

-- ---- one more event

-- the horizon that drops the first of these tombstones
abbrev pub horizon_past_first : BookHistory → List (List ℕ) → ℕ
horizon_past_first history [] = history.horizon
horizon_past_first history (uid ∷ uids) = last_number history.log uid

-- The horizon after a change: a removal that leaves more tombstones than the book keeps drops the
-- oldest one.
abbrev pub horizon_after : Change → BookHistory → ℕ
horizon_after (Stores card why) history = history.horizon
horizon_after (TakesAway why) history =
    if nat_le (length (tombstone_uids history)) history.keep then history.horizon
    else horizon_past_first history (tombstone_uids history)

-- the history with one more event
abbrev pub with_event : BookHistory → BookEvent → BookHistory
with_event history e = record history {
  log = e ∷ history.log;
  horizon = horizon_after e.change (record history { log = e ∷ history.log });
}

abbrev pub history_named : BookHistories → List ℕ → Result BookHistory Refusal
history_named histories name = option_map_or Ok (finite.get histories name) (Err NoSuchBook)

-- ---- creating a book

abbrev pub create_on_histories : Bounds → BookHistories → List ℕ
    → Result (ℕ × BookHistories) Refusal
create_on_histories limits histories name = do
  id ← new_id limits name (finite.contains_key histories name) (finite.len histories)
  Ok (id, finite.insert histories name (empty_history id limits.keep))

-- ---- storing a card

abbrev pub found_in_history : List BookEvent → List ℕ → FoundMember
found_in_history h uid =
    record { live = finite.get (live h) uid; cards = finite.len (live h); number = length h }

abbrev pub histories_after_put : BookHistories → List ℕ → BookHistory → List Line
    → Option StoreReason → BookHistories
histories_after_put histories name history card None = histories
histories_after_put histories name history card (Some why) =
    finite.insert histories name
    (with_event history (record { uid = uid_of card; change = Stores card why }))

abbrev pub put_on_histories : Bounds → BookHistories → List ℕ → List Line → Option ℕ
    → Result (PutAnswer × BookHistories) Refusal
put_on_histories limits histories name card expect = do
  history ← history_named histories name
  answer ← put_answer limits (found_in_history history.log (uid_of card)) card expect
  Ok (answer, histories_after_put histories name history card (put_store_reason answer))

-- ---- a report

abbrev pub report_on_histories : Bounds → BookHistories → List ℕ → Option Token → Option ℕ
    → Result Page Refusal
report_on_histories limits histories name token limit = do
  history ← history_named histories name
  mark ← requested_mark history.id (length history.log) history.horizon token
  size ← page_size limits.page_max limit
  Ok (page_of history.id (report history.log mark size))
