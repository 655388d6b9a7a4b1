-- A bound on the number of truncated pages that a device receives (RFC 6578, section 3.6). The
-- bound is this project's own.
use Rattle.std.specs.Prelude.{ℕ, ◌+◌, ◌*◌, ◌≡◌, ◌==◌, ◌<◌, Bool, false, ◌&&◌, List, length, All}
use Rattle.std.specs.Prelude.{count_by, Option, Some, Ok, slice_get}
use Rattle.std.specs.FinMap as finite
use Rattle.std.specs.List.{zip}
use Rattle.book_model.specs.declared.page.Page.{Page as SyncPage}
use Rattle.book_model.specs.Books.{Book, Books}
use Rattle.book_model.specs.Devices.{DeviceState}
use Rattle.book_model.specs.Pages.{page_size}
use Rattle.book_laws.specs.Paging.{mark_of_token}
use Rattle.book_laws.specs.Reports.{due}
use Rattle.book_laws.specs.StoreHistories.{BookHistory}
use Rattle.book_service.specs.declared.event.Event.{Event}
use Rattle.book_service.specs.declared.event.Event.TheVariants.{Do, Ask}
use Rattle.book_commands.specs.declared.reply.Reply.{Reply}
use Rattle.book_commands.specs.declared.reply.Reply.TheVariants.{Page}
use Rattle.book_service.specs.Runs.{SystemState}

-- the device with this index, and the history of its book
pub record DeviceHasBook (moment : SystemState) (i : ℕ) (device : DeviceState)
    (history : BookHistory) : Type 0 where
  pub device_at : slice_get moment.devices i ≡ Some device
  pub found : finite.get moment.model.books device.book ≡ Some history

-- the number of members that are due to the device
abbrev pub due_count_for : BookHistory → DeviceState → ℕ
due_count_for history device = length (due history.log (mark_of_token history.log device.token))

-- if the device with this index asked, it got a page of at most k entries
abbrev pub IsAnsweredByPage : ℕ → ℕ → ℕ → Event × Reply → Type 0
IsAnsweredByPage page_max i k asked = (limit : Option ℕ) → asked.0 ≡ Ask i limit →
    (page : SyncPage) × (asked.1 ≡ Page page) × (page_size page_max limit ≡ Ok k)

-- whether the event is a request of the device with this index
abbrev pub is_ask_of : ℕ → Event → Bool
is_ask_of i (Do command) = false
is_ask_of i (Ask j limit) = i == j

abbrev pub is_truncated : Reply → Bool
is_truncated (Page page) = page.truncated
is_truncated r = false

-- the number of truncated pages that the device with this index received
abbrev pub truncated_pages : ℕ → List Event → List Reply → ℕ
truncated_pages i events replies =
    count_by (λ (asked : Event × Reply). is_ask_of i asked.0 && is_truncated asked.1)
    (zip events replies)

-- Suppose every request of a device got a page of at most k entries, and t > 0 of these pages were
-- truncated. If m members were due at first and the book then had w changes, then t * k < m + w.
abbrev pub HasFewTruncatedPages : SystemState → List Event → List Reply → Books → Type 0
HasFewTruncatedPages now events replies books =
    (i k : ℕ) (device : DeviceState) (history : BookHistory) (book : Book) →
    DeviceHasBook now i device history → finite.get books device.book ≡ Some book → 0 < k →
    All (IsAnsweredByPage now.model.limits.page_max i k) (zip events replies) →
    0 < truncated_pages i events replies →
    truncated_pages i events replies * k + length history.log
    < due_count_for history device + book.number
