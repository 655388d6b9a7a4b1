-- The calls that only read, defined on histories.
use Rattle.std.specs.Prelude.{ℕ, List, map, length, Option, Result, Ok}
use Rattle.std.specs.FinMap as finite
use Rattle.book_model.specs.declared.answers.BookLine.{BookLine}
use Rattle.book_model.specs.declared.answers.ImportTally.{ImportTally}
use Rattle.book_model.specs.declared.answers.Stored.{Stored}
use Rattle.book_model.specs.declared.answers.Tally.{Tally}
use Rattle.book_model.specs.declared.refusal.Refusal.{Refusal}
use Rattle.book_model.specs.declared.refusal.Refusal.TheVariants.{BadKey}
use Rattle.book_laws.specs.LogCounts.{counts_of_log}
use Rattle.book_model.specs.Books.{LiveCards}
use Rattle.book_laws.specs.EventLogs.{live}
use Rattle.book_model.specs.Importing.{is_legal_key}
use Rattle.book_model.specs.CallOutcomes.{◌>>=◌, refuse_unless}
use Rattle.book_model.specs.BookQueries.{book_line_with, tally_with}
use Rattle.book_model.specs.Books.{live_or_no_such_card}
use Rattle.book_laws.specs.StoreHistories.{BookHistory, BookHistories, tombstone_uids}
use Rattle.book_laws.specs.HistorySteps.{history_named}

abbrev pub history_line : List ℕ × BookHistory → BookLine
history_line named = book_line_with named.0 named.1.id (length named.1.log) named.1.horizon

-- one line for each book, ordered by the octets of the names
abbrev pub books_on_histories : BookHistories → List BookLine
books_on_histories histories = map history_line (finite.entries histories)

abbrev pub book_line_on_histories : BookHistories → List ℕ → Result BookLine Refusal
book_line_on_histories histories name = do
  history ← history_named histories name
  Ok (history_line (name, history))

abbrev pub get_on_histories : BookHistories → List ℕ → List ℕ → Result Stored Refusal
get_on_histories histories name uid = do
  history ← history_named histories name
  live_or_no_such_card (finite.get (live history.log) uid)

abbrev pub cards_on_histories : BookHistories → List ℕ → Result LiveCards Refusal
cards_on_histories histories name = do
  history ← history_named histories name
  Ok (live history.log)

abbrev pub kept_import_on_histories : BookHistories → List ℕ → List ℕ
    → Result (Option ImportTally) Refusal
kept_import_on_histories histories name key = do
  history ← history_named histories name
  legal ← refuse_unless (is_legal_key key) BadKey
  Ok (finite.get history.imports key)

abbrev pub history_tally : BookHistory → Tally
history_tally history =
    tally_with (length history.log) history.horizon (finite.len (live history.log))
    (counts_of_log history.log) (length (tombstone_uids history))

abbrev pub tally_on_histories : BookHistories → List ℕ → Result Tally Refusal
tally_on_histories histories name = do
  history ← history_named histories name
  Ok (history_tally history)
