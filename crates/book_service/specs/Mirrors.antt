-- Copying a whole book: a new device requests pages until one isn't truncated (RFC 6578, section
-- 3.6).
use Rattle.std.specs.Prelude.{ℕ, ◌≡◌, ◌<◌, ◌≤◌, ◌⊎◌, nat_le, min, max, Bool, true, false, List, []}
use Rattle.std.specs.Prelude.{◌∷◌, length, Option, Some, None, Result, Ok, Err}
use Rattle.std.specs.FinMap as finite
use Rattle.std.specs.Int.{div_ceil}
use Rattle.book_model.specs.declared.denied.Denied.{Denied}
use Rattle.book_model.specs.declared.denied.Denied.TheVariants.{Refused, Fault}
use Rattle.book_model.specs.declared.page.Page.{Page}
use Rattle.book_model.specs.declared.refusal.Refusal.{Refusal}
use Rattle.book_model.specs.declared.token.Token.{Token}
use Rattle.book_model.specs.Devices.{DeviceState}
use Rattle.book_model.specs.Pages.{page_size}
use Rattle.book_laws.specs.DeviceConsistency.{IsUpToDate}
use Rattle.book_laws.specs.StoreHistories.{BookHistory}
use Rattle.book_laws.specs.HistorySteps.{report_on_histories}
use Rattle.book_service.specs.declared.event.Event.TheVariants.{Ask}
use Rattle.book_service.specs.declared.mirrored.Mirrored.{Mirrored}
use Rattle.book_commands.specs.declared.reply.Reply.TheVariants as reply
use Rattle.book_service.specs.PageCounts.{due_count_for}
use Rattle.book_service.specs.Runs.{SystemState, TraceStep, Run, end_of}

-- the report of a book in this state, or its refusal
abbrev pub report_at : SystemState → List ℕ → Option Token → Option ℕ → Result Page Refusal
report_at now name token limit =
    report_on_histories now.model.limits now.model.books name token limit

-- a device without a token, with an empty copy
abbrev pub new_device : List ℕ → DeviceState
new_device book = record { book = book; copy = finite.empty; token = None }

-- the state with this device as the only one
abbrev pub with_device : SystemState → DeviceState → SystemState
with_device now device = record now { devices = device ∷ [] }

-- The steps of a mirror: each request with this limit got a page, and the first page that isn't
-- truncated was the last; `done` says whether there was one.
abbrev pub RequestsPages : ℕ → Bool → List TraceStep → Type 0
RequestsPages limit done [] = done ≡ false
RequestsPages limit done (h ∷ run) =
    (page : Page) × (h.event ≡ Ask 0 (Some limit)) × (h.reply ≡ reply.Page page)
    × (((page.truncated ≡ true) × RequestsPages limit done run)
    ⊎ ((page.truncated ≡ false) × (run ≡ []) × (done ≡ true)))

-- A new device made at most `max_pages` requests, fewer only if it is done; if it is done, its copy
-- is the live cards.
pub record IsMirrorRun (now : SystemState) (book : List ℕ) (limit max_pages : ℕ)
    (mirrored : Mirrored) : Type 0 where
  pub run : List TraceStep
  pub runs : Run (with_device now (new_device book)) run
  pub end : end_of (with_device now (new_device book)) run ≡ with_device now mirrored.device
  pub asks : RequestsPages limit mirrored.done run
  pub pages : length run ≡ mirrored.pages
  pub within : mirrored.pages ≤ max_pages
  pub uses_all_pages : mirrored.done ≡ false → mirrored.pages ≡ max_pages
  pub complete : mirrored.done ≡ true → IsUpToDate now.model.books mirrored.device

-- how many pages of at most k entries m members need: m / k rounded up, and one for no members
abbrev pub pages_needed : ℕ → ℕ → ℕ
pages_needed m k = max 1 (div_ceil m k)

-- it used the pages needed and is done, or used `max_pages` and isn't
abbrev pub HasExactPageCount : SystemState → List ℕ → ℕ → ℕ → Mirrored → Type 0
HasExactPageCount now book limit max_pages mirrored = (history : BookHistory) (k : ℕ) →
    finite.get now.model.books book ≡ Some history →
    page_size now.model.limits.page_max (Some limit) ≡ Ok k →
    let needed = pages_needed (due_count_for history (new_device book)) k in
    (mirrored.pages ≡ min max_pages needed) × (mirrored.done ≡ nat_le needed max_pages)

-- it is refused exactly as its initial report is
abbrev pub IsMirrorDenied : SystemState → List ℕ → ℕ → ℕ → Denied → Type 0
IsMirrorDenied now book limit max_pages (Refused refusal) =
    (0 < max_pages) × (report_at now book None (Some limit) ≡ Err refusal)
IsMirrorDenied now book limit max_pages (Fault fault) = Unit {0}
