-- Each clause of the promise, for one step.
use Rattle.std.proofs.Common.{refl, ◌≡◌, ◌≤◌, ℕ, List, [], ◌∷◌, Option, Result, Ok, Err, slice_get}
use Rattle.std.proofs.Common.{slice_set, sym, ap, ◌∙◌, subst, ⊎_elim, inl, inr, ◌⊎◌, arith}
use Rattle.std.specs.FinMap as finite
use Rattle.std.proofs.lemmas.Option.{same_Some}
use Rattle.book_model.specs.declared.answers.Moved.{Moved as Numbers}
use Rattle.book_model.specs.declared.denied.Fault.{Fault}
use Rattle.book_model.specs.declared.refusal.Refusal.{Refusal}
use Rattle.book_model.specs.Bounds.{Bounds}
use Rattle.book_model.specs.Devices.{DeviceState}
use Rattle.book_laws.specs.Calls.{ReturnedMove, map_answer}
use Rattle.book_laws.specs.ChangeRefinement.{EmptyStoresHaveNoHistories}
use Rattle.book_laws.specs.CountLaws.{EventsAreCounted, LiveCardsAreCounted}
use Rattle.book_laws.specs.DeviceLaws.{PartialPagesKeepDevicesConsistent}
use Rattle.book_laws.specs.DeviceLaws.{WholePagesKeepDevicesConsistent, LastPagesCompleteDevices}
use Rattle.book_laws.specs.Refinement.{AreHistoriesOf}
use Rattle.book_laws.specs.CardMoves.{TransfersOneCard}
use Rattle.book_laws.specs.MoveLaws.{MoveCallsTransferOneCard}
use Rattle.book_laws.specs.DeviceConsistency.{IsUpToDate, IsConsistentDevice}
use Rattle.book_laws.specs.RunLaws.{CallsExtendHistories, CallsKeepDevicesConsistent}
use Rattle.book_laws.specs.RunLaws.{RowsMatchHistoriesAfterCalls, CallsKeepHistoriesSound}
use Rattle.book_laws.specs.RowsAfterCalls.{rows_after_calls}
use Rattle.book_laws.specs.WellFormedLaws.{CallsKeepWellFormed}
use Rattle.book_model.specs.WellFormed.{IsWellFormed}
use Rattle.book_laws.specs.HistoryChanges.{move_on_histories}
use Rattle.book_laws.specs.HistorySteps.{report_on_histories}
use Rattle.book_laws.specs.StoreHistories.{BookHistories, IsSoundStoreHistory, rows_of}
use Rattle.book_commands.specs.declared.command.Command.TheVariants.{MoveCard}
use Rattle.book_service.specs.declared.event.Event.{Event}
use Rattle.book_service.specs.declared.event.Event.TheVariants.{Do, Ask}
use Rattle.book_commands.specs.declared.reply.Reply.{Reply}
use Rattle.book_commands.specs.declared.reply.Reply.TheVariants as reply
use Rattle.book_service.specs.DeviceReplies.{HandlesReply}
use Rattle.book_service.specs.Commands.{Outcome, DeliversOutcome}
use Rattle.book_service.specs.Promise.{InEachBook, CountsBalance, HistoriesExtend}
use Rattle.book_service.specs.Promise.{MovesTransferOneCard, DevicesStayConsistent}
use Rattle.book_service.specs.Promise.{LastPagesComplete, HasWellFormedRows, RowsStayWellFormed}
use Rattle.book_service.specs.Promise.{NewStoresStart}
use Rattle.book_service.specs.Runs.{SystemState, Step}
use Rattle.book_service.proofs.DevicePageLemmas.{refusals_keep_devices_consistent}
use Rattle.book_service.proofs.StepLemmas.{place_set, step_leads, step_limits, steps_keep_sound}

-- ---- the books

pub counts_balance : EventsAreCounted → LiveCardsAreCounted → InEachBook CountsBalance
counts_balance events cards model name history w found =
    let valid_log = (w.books name history found).valid_log in
    record {
      valid_log = valid_log;
      changes = events history.log;
      cards = cards history.log valid_log;
    }

pub calls_extend_histories : CallsExtendHistories
    → (now next : SystemState) (event : Event) (r : Reply) → IsSoundStoreHistory now.model
    → Step now event r next → HistoriesExtend now event r next
calls_extend_histories go now next event r w s name old found =
    let leads = step_leads now next event r s in
    let on = go now.model.limits now.model.books leads.calls name old found in
    (on.0, ap (λ (b : BookHistories). finite.get b name) leads.new_is ∙ on.1, on.2)

-- a successful move had this outcome
moved_by : (book uid to : List ℕ) (expect : Option ℕ) (outcome : Result (Numbers × BookHistories)
    Refusal) (numbers : Numbers) (old new : BookHistories)
    → DeliversOutcome (MoveCard book uid to expect) old (map_answer ReturnedMove outcome)
    (reply.Moved numbers) new ⊎ ((fault : Fault) × (reply.Moved numbers ≡ reply.Fault fault)
    × (new ≡ old))
    → outcome ≡ Ok (numbers, new)
moved_by book uid to expect (Ok done) numbers old new p =
    ⊎_elim
    (λ yes. let same : reply.Moved numbers ≡ reply.Moved done.0 = yes.0 in
    let is : numbers ≡ done.0 = cc in
    ap (λ (n : Numbers). Ok (n, done.1)) (sym is)
    ∙ ap (λ (b : BookHistories). Ok (numbers, b)) (sym yes.1))
    (λ fault. absurd (let no : reply.Moved numbers ≡ reply.Fault fault.0 = fault.1 in cc)) p
moved_by book uid to expect (Err refusal) numbers old new p =
    ⊎_elim
    (λ yes. absurd (let no : reply.Moved numbers ≡ reply.Refused refusal = yes.0 in cc))
    (λ fault. absurd (let no : reply.Moved numbers ≡ reply.Fault fault.0 = fault.1 in cc)) p

pub moves_transfer_one_card : MoveCallsTransferOneCard
    → (now next : SystemState) (event : Event) (r : Reply) → IsSoundStoreHistory now.model
    → Step now event r next → MovesTransferOneCard now event r next
moves_transfer_one_card law now next event r w s book uid to expect numbers is_move is_moved =
    let command = MoveCard book uid to expect in
    let step = subst (λ (a : Reply). Step now (Do command) a next) is_moved
    (subst (λ (e : Event). Step now e r next) is_move s) in
    let p = step.1 in
    let outcome = move_on_histories now.model.limits now.model.books book to uid expect in
    let replied : DeliversOutcome command now.model.books (map_answer ReturnedMove outcome)
    (reply.Moved numbers) step.0 ⊎ ((fault : Fault) × (reply.Moved numbers ≡ reply.Fault fault)
    × (step.0 ≡ now.model.books)) =
    ⊎_elim (λ done. inl (subst (λ (m : Outcome). DeliversOutcome command now.model.books m
    (reply.Moved numbers) step.0) done.has_outcome done.delivers)) (λ fault. inr fault) p in
    subst (TransfersOneCard now.model.books book to uid numbers)
    (sym (ap (λ (m : SystemState). m.model.books) step.2))
    (law now.model book to uid expect numbers step.0 (moved_by book uid to expect outcome numbers
    now.model.books step.0 replied))

-- ---- the devices

-- a reply leaves a consistent device consistent
pub replies_keep_devices_consistent : PartialPagesKeepDevicesConsistent
    → WholePagesKeepDevicesConsistent → (limits : Bounds) (books : BookHistories)
    → 1 ≤ limits.page_max → (limit : Option ℕ) (r : Reply) (old new : DeviceState)
    → HandlesReply r (report_on_histories limits books old.book old.token limit) old new
    → IsConsistentDevice books old → IsConsistentDevice books new
replies_keep_devices_consistent parts whole limits books room limit (reply.Page page) old new a
    right = subst (IsConsistentDevice books) (sym a.1) (whole limits books old limit page
    (omega (arith, room)) right a.0)
replies_keep_devices_consistent parts whole limits books room limit (reply.Refused refusal) old new
    a right = subst (IsConsistentDevice books) (sym a.1) (refusals_keep_devices_consistent books old
    refusal right)
replies_keep_devices_consistent parts whole limits books room limit (reply.Fault fault) old new a
    right =
    ⊎_elim (λ same. subst (IsConsistentDevice books) (sym same) right) (λ applied_part. parts limits
    books old new limit applied_part.page right applied_part.received
    (inr applied_part.applied_part)) a
replies_keep_devices_consistent parts whole limits books room limit (reply.Created id) old new a
    right = absurd a
replies_keep_devices_consistent parts whole limits books room limit (reply.Books lines) old new a
    right = absurd a
replies_keep_devices_consistent parts whole limits books room limit (reply.Card uid version card)
    old new a right = absurd a
replies_keep_devices_consistent parts whole limits books room limit (reply.Put answer) old new a
    right = absurd a
replies_keep_devices_consistent parts whole limits books room limit (reply.Gone number) old new a
    right = absurd a
replies_keep_devices_consistent parts whole limits books room limit (reply.Moved numbers) old new a
    right = absurd a
replies_keep_devices_consistent parts whole limits books room limit (reply.Imported tally) old new a
    right = absurd a
replies_keep_devices_consistent parts whole limits books room limit (reply.Forgot dropped horizon)
    old new a right = absurd a
replies_keep_devices_consistent parts whole limits books room limit (reply.Tally tally) old new a
    right = absurd a
replies_keep_devices_consistent parts whole limits books room limit (reply.Csv text) old new a
    right = absurd a
replies_keep_devices_consistent parts whole limits books room limit (reply.People expansion) old new
    a right = absurd a

module _ (calls : CallsKeepDevicesConsistent) (parts : PartialPagesKeepDevicesConsistent) (whole :
    WholePagesKeepDevicesConsistent) where
  pub devices_stay_consistent : (now next : SystemState) (event : Event) (r : Reply)
      → IsSoundStoreHistory now.model → Step now event r next
      → DevicesStayConsistent now event r next
  devices_stay_consistent now next (Do command) r w s i old was right =
      let leads = step_leads now next (Do command) r s in (
        old,
        ap (λ (m : SystemState). slice_get m.devices i) s.2
            ∙ was,
        subst (λ (b : BookHistories). IsConsistentDevice b old) (sym leads.new_is)
            (calls now.model.limits now.model.books leads.calls old right),
      )
  devices_stay_consistent now next (Ask j limit) r w s i old was right =
      let books : next.model.books ≡ now.model.books =
      ap (λ (m : SystemState). m.model.books) s.next_is in
      let device_at : slice_get next.devices i ≡ slice_get (slice_set now.devices j s.new) i =
      ap (λ (m : SystemState). slice_get m.devices i) s.next_is in
      ⊎_elim
      (λ own. (
        s.new,
        device_at ∙ own.1,
        subst (λ (b : BookHistories). IsConsistentDevice b s.new) (sym books)
            (replies_keep_devices_consistent parts whole now.model.limits now.model.books
            w.limits.page_least limit r s.old s.new s.answers
            (subst (IsConsistentDevice now.model.books) (sym own.2) right)),
      ))
      (λ other. (
        old,
        device_at ∙ other.1,
        subst (λ (b : BookHistories). IsConsistentDevice b old)
            (sym books) right,
      ))
      (place_set now.devices i j s.new old s.old was s.found)

pub last_pages_complete : LastPagesCompleteDevices
    → (now next : SystemState) (event : Event) (r : Reply) → IsSoundStoreHistory now.model
    → Step now event r next → LastPagesComplete now event r next
last_pages_complete law now next event r w s i limit page old is_ask is_page last was right =
    let step = subst (λ (a : Reply). Step now (Ask i limit) a next) is_page
    (subst (λ (e : Event). Step now e r next) is_ask s) in
    let books : next.model.books ≡ now.model.books =
    ap (λ (m : SystemState). m.model.books) step.next_is in
    let device_at : slice_get next.devices i ≡ slice_get (slice_set now.devices i step.new) i =
    ap (λ (m : SystemState). slice_get m.devices i) step.next_is in
    let old_is : old ≡ step.old = same_Some old step.old (sym was ∙ step.found) in
    let complete : IsUpToDate now.model.books step.new =
    subst (IsUpToDate now.model.books) (sym step.answers.1) (law now.model.limits now.model.books
    step.old limit page (subst (IsConsistentDevice now.model.books) old_is right) step.answers.0
    last) in
    ⊎_elim
    (λ own. (
      step.new,
      device_at ∙ own.1,
      subst (λ (b : BookHistories). IsUpToDate b step.new)
          (sym books) complete,
    ))
    (λ other. absurd (other.0 refl))
    (place_set now.devices i i step.new old step.old was step.found)

-- ---- the rows

pub steps_keep_rows_well_formed : CallsKeepHistoriesSound → RowsMatchHistoriesAfterCalls
    → CallsKeepWellFormed → (now next : SystemState) (event : Event) (r : Reply)
    → IsSoundStoreHistory now.model → Step now event r next → HasWellFormedRows now
    → HasWellFormedRows next
steps_keep_rows_well_formed stays follow keep now next event r w s formed =
    let leads = step_leads now next event r s in
    let same : next.model.limits ≡ now.model.limits = step_limits now next event r s in
    let rows_are : rows_after_calls now.model.limits (rows_of now.model.books) leads.calls
    ≡ rows_of next.model.books = follow now.model leads.calls w.limits w.books
    ∙ ap rows_of (sym leads.new_is) in
    subst (λ (limits : Bounds). IsWellFormed limits (rows_of next.model.books)) (sym same)
    (subst (IsWellFormed now.model.limits) rows_are (keep now.model.limits (rows_of now.model.books)
    leads.calls w.limits formed))

pub rows_stay_well_formed : CallsKeepHistoriesSound → RowsMatchHistoriesAfterCalls
    → CallsKeepWellFormed → RowsStayWellFormed
rows_stay_well_formed stays follow keep now [] w formed run = tt
rows_stay_well_formed stays follow keep now (h ∷ rest) w formed run =
    let next = steps_keep_rows_well_formed stays follow keep now h.after h.event h.reply w run.0
    formed in (
      next,
      rows_stay_well_formed stays follow keep h.after rest (steps_keep_sound stays now h.after
          h.event h.reply w run.0) next run.1,
    )

-- ---- a new store

pub new_stores_start : EmptyStoresHaveNoHistories → NewStoresStart
new_stores_start nothing now none = record {
  limits_are = refl;
  histories = subst (AreHistoriesOf finite.empty) (sym none) nothing;
}
