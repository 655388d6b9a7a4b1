-- How many pages of a book's report are truncated while events are added and pages are applied (RFC
-- 6578, section 3.6). The bound is this project's own.
use Rattle.std.specs.Prelude.{ℕ, zero, suc, ◌+◌, nat_lt, List, [], ◌∷◌, ◌++◌, length, fold}
use Rattle.std.specs.Prelude.{Option, Some, None, if◌then◌else◌}
use Rattle.book_model.specs.Counting.{one_if}
use Rattle.book_model.specs.declared.page.Page.{Page}
use Rattle.book_model.specs.declared.token.Mark.{Mark}
use Rattle.book_model.specs.declared.token.Token.{Token}
use Rattle.book_laws.specs.EventLogs.{BookEvent}
use Rattle.book_model.specs.Pages.{ReportAnswer, page_of}
use Rattle.book_laws.specs.Reports.{initial_mark, due, report}
use Rattle.book_laws.specs.StoreHistories.{BookHistory}
use Rattle.book_model.specs.Devices.{DeviceState, device_after_page}

-- ---- turns

-- the state of a sync: the log of the book, and the mark of the device
pub record SyncState : Type 0 where
  pub log : List BookEvent
  pub mark : Mark

-- after these events, the newest first
abbrev pub sync_after_events : SyncState → List BookEvent → SyncState
sync_after_events state events = record state { log = events ++ state.log }

-- the report that the device gets where it asks for k entries
abbrev pub next_report : ℕ → SyncState → ReportAnswer
next_report k state = report state.log state.mark k

-- after the whole page is applied: its mark is the device's mark
abbrev pub sync_after_page : ℕ → SyncState → SyncState
sync_after_page k state = record state { mark = (next_report k state).mark }

-- one turn: some events are added, then the device asks once and applies the page
abbrev pub sync_after_turn : ℕ → SyncState → List BookEvent → SyncState
sync_after_turn k state events = sync_after_page k (sync_after_events state events)

-- after all turns, the first turn first
abbrev pub sync_after_turns : ℕ → SyncState → List (List BookEvent) → SyncState
sync_after_turns k state turns = fold (sync_after_turn k) state turns

-- ---- what is counted

-- how many members are still due
abbrev pub due_count : SyncState → ℕ
due_count state = length (due state.log state.mark)

-- how many pages of these turns are truncated
abbrev pub truncated_page_count : ℕ → SyncState → List (List BookEvent) → ℕ
truncated_page_count k state [] = 0
truncated_page_count k state (events ∷ turns) =
    one_if (next_report k (sync_after_events state events)).truncated
    + truncated_page_count k (sync_after_turn k state events) turns

-- how many events are added up to the last truncated page
abbrev pub events_until_last_truncated : ℕ → SyncState → List (List BookEvent) → ℕ
events_until_last_truncated k state [] = 0
events_until_last_truncated k state (events ∷ turns) =
    if nat_lt 0 (truncated_page_count k state (events ∷ turns))
    then length events + events_until_last_truncated k (sync_after_turn k state events) turns
    else 0

-- ---- pages without events in between

-- the mark from which a device asks
abbrev pub mark_of_token : List BookEvent → Option Token → Mark
mark_of_token h None = initial_mark h
mark_of_token h (Some token) = token.mark

-- the page of at most k entries that the device gets
abbrev pub page_for_device : BookHistory → DeviceState → ℕ → Page
page_for_device history device k =
    page_of history.id (report history.log (mark_of_token history.log device.token) k)

-- the device asks and applies the page n times, with no event in between
abbrev pub device_after_pages : ℕ → BookHistory → ℕ → DeviceState → DeviceState
device_after_pages k history zero device = device
device_after_pages k history (suc n) device =
    device_after_pages k history n (device_after_page device (page_for_device history device k))
