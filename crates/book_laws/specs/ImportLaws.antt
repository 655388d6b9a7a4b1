-- The counts of an import, by the cards that were live before it.
use Rattle.std.specs.Prelude.{◌+◌, ◌≡◌, List, length}
use Rattle.std.specs.FinMap as finite
use Rattle.vcard_lines.specs.declared.line.Line.{Line}
use Rattle.book_model.specs.ImportLaws.{HaveDistinctUids, CountsImportedCards}
use Rattle.book_model.specs.Importing.{Importing}
use Rattle.book_laws.specs.EventLogs.{live}
use Rattle.book_laws.specs.StoreHistories.{BookHistory}
use Rattle.book_laws.specs.HistoryChanges.{live_in_history, history_import}

-- cards with distinct UIDs are counted by what was live before all of them
abbrev pub ImportsCountLiveCards : Type 0
ImportsCountLiveCards =
    (history : BookHistory) (cards : List (List Line)) → HaveDistinctUids cards →
    CountsImportedCards live_in_history history cards (history_import history cards)

-- each added or edited card is one event, and each added card is one more live card
pub record AddsEvents (history : BookHistory) (done : Importing BookHistory) : Type 0 where
  pub events : length done.book.log ≡ length history.log + done.added + done.edited
  pub cards : finite.len (live done.book.log) ≡ finite.len (live history.log) + done.added

abbrev pub ImportsAddEvents : Type 0
ImportsAddEvents = (history : BookHistory) (cards : List (List Line)) →
    AddsEvents history (history_import history cards)
