-- Bounds on due members and truncated pages.
use Rattle.std.specs.Prelude.{ℕ, ◌+◌, ◌*◌, ◌≡◌, ◌<◌, ◌≤◌, true, false, List, [], ◌∷◌, length, drop}
use Rattle.std.specs.Prelude.{replicate, Some}
use Rattle.std.specs.FinMap as finite
use Rattle.book_model.specs.declared.token.Mark.{Mark}
use Rattle.book_laws.specs.EventLogs.{BookEvent, live}
use Rattle.book_laws.specs.Reports.{due, report}
use Rattle.book_laws.specs.StoreHistories.{BookHistory, BookHistories}
use Rattle.book_model.specs.Devices.{DeviceState}
use Rattle.book_laws.specs.DeviceConsistency.{IsConsistentDevice}
use Rattle.book_laws.specs.Paging.{SyncState, mark_of_token, device_after_pages, sync_after_turn}
use Rattle.book_laws.specs.Paging.{sync_after_turns, due_count, events_until_last_truncated}
use Rattle.book_laws.specs.Paging.{truncated_page_count, sync_after_events}

-- an event makes at most one more member due
abbrev pub EventsAddAtMostOneDue : Type 0
EventsAddAtMostOneDue = (h : List BookEvent) (e : BookEvent) (mark : Mark) →
    length (due (e ∷ h) mark) ≤ length (due h mark) + 1

-- after a truncated page the due members that it left out are due
abbrev pub TruncatedPagesLeaveRest : Type 0
TruncatedPagesLeaveRest = (h : List BookEvent) (mark : Mark) (k : ℕ) → 0 < k →
    (report h mark k).truncated ≡ true →
    due h (report h mark k).mark ≡ drop k (due h mark)

-- and so exactly k fewer
abbrev pub TruncatedPagesLeaveFewer : Type 0
TruncatedPagesLeaveFewer = (h : List BookEvent) (mark : Mark) (k : ℕ) → 0 < k →
    (report h mark k).truncated ≡ true →
    length (due h (report h mark k).mark) + k ≡ length (due h mark)

-- after a page that isn't truncated no member is due
abbrev pub LastPagesLeaveNoneDue : Type 0
LastPagesLeaveNoneDue = (h : List BookEvent) (mark : Mark) (k : ℕ) →
    (report h mark k).truncated ≡ false → due h (report h mark k).mark ≡ []

-- Where some pages of these turns are truncated, each of them has k entries. Together these entries
-- are fewer than the members due at the first request plus the events added after it, up to the
-- last truncated page.
abbrev pub TruncatedPagesAreBounded : Type 0
TruncatedPagesAreBounded = (k : ℕ) (state : SyncState) (events : List BookEvent)
    (turns : List (List BookEvent)) → 0 < k → 0 < truncated_page_count k state (events ∷ turns) →
    truncated_page_count k state (events ∷ turns) * k
    < due_count (sync_after_events state events)
    + events_until_last_truncated k (sync_after_turn k state events) turns

-- without events in between, n pages are enough for n times k due members
abbrev pub QuietBooksSyncFully : Type 0
QuietBooksSyncFully = (k : ℕ) (state : SyncState) (n : ℕ) → 0 < k → due_count state ≤ n * k →
    let end = sync_after_turns k state (replicate n []) in due end.log end.mark ≡ []

-- and the copy of a consistent device then equals the live cards
abbrev pub QuietDevicesCatchUp : Type 0
QuietDevicesCatchUp =
    (histories : BookHistories) (device : DeviceState) (history : BookHistory) (k n : ℕ) →
    0 < k → 0 < n → IsConsistentDevice histories device → finite.get histories device.book
    ≡ Some history →
    length (due history.log (mark_of_token history.log device.token)) ≤ n * k →
    (device_after_pages k history n device).copy ≡ live history.log
