-- Laws of devices that apply the pages of reports.
use Rattle.std.specs.Prelude.{ℕ, ◌≡◌, ◌<◌, ◌≤◌, min, ◌↔◌, false, List, [], ◌∷◌, length, take, map}
use Rattle.std.specs.Prelude.{Option, Some, None, IsSome, Ok, Err, Contains}
use Rattle.std.specs.List.Sorted.{IsStrictlyIncreasing}
use Rattle.std.specs.FinMap as finite
use Rattle.book_model.specs.declared.page.Page.{Page}
use Rattle.book_model.specs.declared.refusal.Refusal.TheVariants.{BadToken}
use Rattle.book_model.specs.declared.refusal.TokenCause.TheVariants.{TooOld}
use Rattle.book_model.specs.declared.token.Mark.{Mark}
use Rattle.book_model.specs.declared.token.Token.{Token}
use Rattle.book_model.specs.Bounds.{Bounds}
use Rattle.book_laws.specs.EventLogs.{BookEvent, live, last_number}
use Rattle.book_model.specs.Books.{LiveCards}
use Rattle.book_model.specs.Pages.{requested_mark}
use Rattle.book_laws.specs.Reports.{initial_mark, due, entry_of, report}
use Rattle.book_laws.specs.StoreHistories.{BookHistory, BookHistories}
use Rattle.book_laws.specs.HistorySteps.{empty_history, with_event, report_on_histories}
use Rattle.book_laws.specs.DeviceConsistency.{Agrees, IsUpToDate, IsConsistentDevice}
use Rattle.book_laws.specs.DeviceConsistency.{IsConsistentAt}
use Rattle.book_model.specs.Devices.{AppliesNothingOrPrefix, DeviceState, device_after_page}
use Rattle.book_model.specs.Devices.{copy_after_entries}

-- ---- copies

-- an empty copy agrees with the log at the mark of an initial report
abbrev pub EmptyCopyAgrees : Type 0
EmptyCopyAgrees = (h : List BookEvent) → Agrees finite.empty (initial_mark h) h

-- a copy that agrees still does after any further event, possible or not
abbrev pub CopiesStayConsistent : Type 0
CopiesStayConsistent = (copy : LiveCards) (mark : Mark) (h : List BookEvent) (e : BookEvent) →
    Agrees copy mark h → Agrees copy mark (e ∷ h)

-- after the first entries of a report, any number of them, the copy agrees at the old mark
abbrev pub PartialPagesKeepCopiesConsistent : Type 0
PartialPagesKeepCopiesConsistent =
    (copy : LiveCards) (mark : Mark) (h : List BookEvent) (k count : ℕ) →
    Agrees copy mark h
    → Agrees (copy_after_entries copy (take count (report h mark k).entries)) mark h

-- after the whole report the copy agrees at the new mark
abbrev pub WholePagesKeepCopiesConsistent : Type 0
WholePagesKeepCopiesConsistent =
    (copy : LiveCards) (mark : Mark) (h : List BookEvent) (k : ℕ) → 0 < k →
    Agrees copy mark h
    → Agrees (copy_after_entries copy (report h mark k).entries) (report h mark k).mark h

-- after a report that isn't truncated the copy equals the live cards, with their versions
abbrev pub LastPagesCompleteCopies : Type 0
LastPagesCompleteCopies = (copy : LiveCards) (mark : Mark) (h : List BookEvent) (k : ℕ) →
    Agrees copy mark h → (report h mark k).truncated ≡ false →
    copy_after_entries copy (report h mark k).entries ≡ live h

-- a copy that agrees equals the live cards where no member is due
abbrev pub CopiesWithNoneDueAreComplete : Type 0
CopiesWithNoneDueAreComplete = (copy : LiveCards) (mark : Mark) (h : List BookEvent) →
    Agrees copy mark h → due h mark ≡ [] → copy ≡ live h

-- ---- devices

-- a device without a token is consistent: a new one, or one that was restarted
abbrev pub DevicesStartConsistent : Type 0
DevicesStartConsistent = (histories : BookHistories) (device : DeviceState) →
    device.token ≡ None → IsConsistentDevice histories device

-- any event in any book, possible or not, keeps each consistent device consistent
abbrev pub EventsKeepDevicesConsistent : Type 0
EventsKeepDevicesConsistent =
    (histories : BookHistories) (name : List ℕ) (history : BookHistory) (e : BookEvent)
    (device : DeviceState) → finite.get histories name ≡ Some history
    → IsConsistentDevice histories device →
    IsConsistentDevice (finite.insert histories name (with_event history e)) device

-- and so does creating a book, since no consistent device has a token of it yet
abbrev pub NewBooksKeepDevicesConsistent : Type 0
NewBooksKeepDevicesConsistent =
    (histories : BookHistories) (name : List ℕ) (id keep : ℕ) (device : DeviceState) →
    finite.get histories name ≡ None → IsConsistentDevice histories device →
    IsConsistentDevice (finite.insert histories name (empty_history id keep)) device

-- a consistent device that applies only the first entries of a page is consistent
abbrev pub PartialPagesKeepDevicesConsistent : Type 0
PartialPagesKeepDevicesConsistent =
    (limits : Bounds) (histories : BookHistories) (device after : DeviceState)
    (limit : Option ℕ) (page : Page) → IsConsistentDevice histories device →
    report_on_histories limits histories device.book device.token limit ≡ Ok page →
    AppliesNothingOrPrefix device page after → IsConsistentDevice histories after

-- and so is one that applies the whole page and stores its token
abbrev pub WholePagesKeepDevicesConsistent : Type 0
WholePagesKeepDevicesConsistent =
    (limits : Bounds) (histories : BookHistories) (device : DeviceState)
    (limit : Option ℕ) (page : Page) → 0 < limits.page_max → IsConsistentDevice histories device →
    report_on_histories limits histories device.book device.token limit ≡ Ok page →
    IsConsistentDevice histories (device_after_page device page)

-- a consistent device is up to date after a whole page that isn't truncated
abbrev pub LastPagesCompleteDevices : Type 0
LastPagesCompleteDevices = (limits : Bounds) (histories : BookHistories) (device : DeviceState)
    (limit : Option ℕ) (page : Page) → IsConsistentDevice histories device →
    report_on_histories limits histories device.book device.token limit ≡ Ok page →
    page.truncated ≡ false → IsUpToDate histories (device_after_page device page)

-- the token of a consistent device is accepted where its base is not below the horizon
abbrev pub ConsistentTokensAreAccepted : Type 0
ConsistentTokensAreAccepted = (histories : BookHistories) (device : DeviceState) (token : Token)
    (consistent : IsConsistentAt histories device token) → consistent.history.horizon
    ≤ token.mark.base →
    requested_mark consistent.history.id (length consistent.history.log) consistent.history.horizon
    (Some token)
    ≡ Ok token.mark

-- and is refused as too old where its base is below the horizon
abbrev pub ConsistentTokensExpireBelowHorizon : Type 0
ConsistentTokensExpireBelowHorizon =
    (histories : BookHistories) (device : DeviceState) (token : Token)
    (consistent : IsConsistentAt histories device token) → token.mark.base
    < consistent.history.horizon →
    requested_mark consistent.history.id (length consistent.history.log) consistent.history.horizon
    (Some token)
    ≡ Err (BadToken TooOld)

-- ---- the entries of a report

-- the numbers of the due members' last events rise strictly
abbrev pub DueMembersAreInOrder : Type 0
DueMembersAreInOrder =
    (h : List BookEvent) (mark : Mark) → IsStrictlyIncreasing (map (last_number h) (due h mark))

-- at the initial mark exactly the live members are due (RFC 6578, section 3.4)
abbrev pub InitialReportsListLiveMembers : Type 0
InitialReportsListLiveMembers = (h : List BookEvent) (uid : List ℕ) →
    Contains (due h (initial_mark h)) uid ↔ IsSome (finite.get (live h) uid)

-- the entries are those of the first k due members, each as it is now
abbrev pub EntriesAreFirstDue : Type 0
EntriesAreFirstDue = (h : List BookEvent) (mark : Mark) (k : ℕ) →
    (report h mark k).entries ≡ map (entry_of h) (take k (due h mark))

-- their number is the smaller of k and the number of due members (RFC 6578, section 3.7)
abbrev pub PageSizesAreExact : Type 0
PageSizesAreExact = (h : List BookEvent) (mark : Mark) (k : ℕ) →
    length (report h mark k).entries ≡ min k (length (due h mark))
