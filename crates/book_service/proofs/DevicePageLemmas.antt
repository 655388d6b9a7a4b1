-- How a device handles a store's report.
use Rattle.std.proofs.Common.{◌≡◌, ℕ, Option, None, Result, Ok, Err, refl, sym, ap, ◌∙◌, inr}
use Rattle.std.proofs.lemmas.Option.{none-some}
use Rattle.book_model.specs.declared.denied.Denied.TheVariants.{Refused}
use Rattle.book_model.specs.declared.denied.Fault.TheVariants.{Memory}
use Rattle.book_model.specs.declared.page.Page.{Page}
use Rattle.book_model.specs.declared.refusal.Refusal.{Refusal}
use Rattle.book_model.specs.declared.refusal.Refusal.TheVariants.{NoSuchBook, BookExists}
use Rattle.book_model.specs.declared.refusal.Refusal.TheVariants.{BadBookName, NoSuchCard, BadCard}
use Rattle.book_model.specs.declared.refusal.Refusal.TheVariants.{UidMismatch, VersionMismatch}
use Rattle.book_model.specs.declared.refusal.Refusal.TheVariants.{UidTaken, SameBook, BadToken}
use Rattle.book_model.specs.declared.refusal.Refusal.TheVariants.{BadLimit, BookFull, ChangesSpent}
use Rattle.book_model.specs.declared.refusal.Refusal.TheVariants.{BadImport, BadKey, BadForget}
use Rattle.book_model.specs.declared.refusal.Refusal.TheVariants.{NotGroup, TooManyBooks}
use Rattle.book_model.specs.Bounds.{Bounds}
use Rattle.book_model.specs.Books.{Books}
use Rattle.book_model.specs.Devices.{DeviceState, AppliesEntryPrefix, device_after_page}
use Rattle.book_laws.specs.DeviceConsistency.{IsConsistentDevice}
use Rattle.book_model.specs.CallOutcomes.{MatchesQuery}
use Rattle.book_model.specs.Pages.{ReportRequest, IsReport, report_step}
use Rattle.book_laws.specs.StoreHistories.{BookHistories}
use Rattle.book_laws.specs.Refinement.{PagesRefineHistories}
use Rattle.book_laws.specs.QueryRefinement.{ReportsRefine}
use Rattle.book_commands.specs.declared.reply.Reply.TheVariants as reply
use Rattle.book_service.specs.DeviceReplies.{HandlesReply, device_after_refusal}
use Rattle.book_service.specs.Mirrors.{report_at}
use Rattle.book_service.specs.Runs.{SystemState, MatchesRows}
use Rattle.book_service.proofs.PerformLemmas.{from_history}

-- ---- the report is the expected one

page_expected : (asked : Result ReportRequest Refusal) (outcome : Result Page Refusal) (page : Page)
    (old new : Books) → PagesRefineHistories asked outcome
    → MatchesQuery IsReport (Ok page) asked old new → outcome ≡ Ok page
page_expected (Ok asked) (Ok outcome) page old new follows reads =
    ap (λ p. Ok p) (sym (follows page reads.0))
page_expected (Ok asked) (Err refusal) page old new follows reads = absurd follows
page_expected (Err refusal) outcome page old new follows reads = absurd reads

refusal_expected : (asked : Result ReportRequest Refusal) (outcome : Result Page Refusal) (refusal :
    Refusal) (old new : Books) → PagesRefineHistories asked outcome
    → MatchesQuery {A = Page} IsReport (Err (Refused refusal)) asked old new → outcome ≡ Err refusal
refusal_expected (Ok asked) outcome refusal old new follows reads = absurd reads
refusal_expected (Err wanted) (Ok outcome) refusal old new follows reads = absurd follows
refusal_expected (Err wanted) (Err other) refusal old new follows reads =
    ap (λ r. Err r) (sym (reads.0 ∙ follows))

-- ---- a device without a token is consistent

restarted_devices_are_consistent : (histories : BookHistories) (holding : DeviceState)
    → IsConsistentDevice histories (record holding { token = None })
restarted_devices_are_consistent histories holding token is = absurd (none-some token is)

pub refusals_keep_devices_consistent : (histories : BookHistories) (holding : DeviceState)
    (refusal : Refusal) → IsConsistentDevice histories holding
    → IsConsistentDevice histories (device_after_refusal holding refusal)
refusals_keep_devices_consistent histories holding (BadToken cause) right =
    restarted_devices_are_consistent histories holding
refusals_keep_devices_consistent histories holding NoSuchBook right = right
refusals_keep_devices_consistent histories holding BookExists right = right
refusals_keep_devices_consistent histories holding BadBookName right = right
refusals_keep_devices_consistent histories holding NoSuchCard right = right
refusals_keep_devices_consistent histories holding (BadCard fault) right = right
refusals_keep_devices_consistent histories holding UidMismatch right = right
refusals_keep_devices_consistent histories holding (VersionMismatch has) right = right
refusals_keep_devices_consistent histories holding UidTaken right = right
refusals_keep_devices_consistent histories holding SameBook right = right
refusals_keep_devices_consistent histories holding BadLimit right = right
refusals_keep_devices_consistent histories holding BookFull right = right
refusals_keep_devices_consistent histories holding ChangesSpent right = right
refusals_keep_devices_consistent histories holding (BadImport row cause) right = right
refusals_keep_devices_consistent histories holding BadKey right = right
refusals_keep_devices_consistent histories holding BadForget right = right
refusals_keep_devices_consistent histories holding NotGroup right = right
refusals_keep_devices_consistent histories holding TooManyBooks right = right

-- ---- a request

module _ (limits : Bounds) (books after : Books) (law : ReportsRefine) (old new : DeviceState)
    (limit : Option ℕ) where
  abbrev step : Result ReportRequest Refusal
  step = report_step limits books old.book old.token limit

  abbrev outcome : SystemState → Result Page Refusal
  outcome now = report_at now old.book old.token limit

  follows : (now : SystemState) → MatchesRows now limits books
      → PagesRefineHistories step (outcome now)
  follows now at =
      from_history (λ l b. PagesRefineHistories (report_step l b old.book old.token limit)
      (outcome now)) now.model at.limits_are at.histories
      (law now.model old.book old.token limit at.histories.sound)

  -- the page was applied whole
  pub received_whole : (page : Page) → MatchesQuery IsReport (Ok page) step books after
      → new ≡ device_after_page old page
      → (now : SystemState) → MatchesRows now limits books
      → HandlesReply (reply.Page page) (outcome now) old new
  received_whole page reads is now at =
      (page_expected step (outcome now) page books after (follows now at) reads, is)

  -- memory ran out while it was applied
  pub received_part : (page : Page) → MatchesQuery IsReport (Ok page) step books after
      → AppliesEntryPrefix old page new
      → (now : SystemState) → MatchesRows now limits books
      → HandlesReply (reply.Fault Memory) (outcome now) old new
  received_part page reads first now at =
      inr (record {
        page = page;
        received = page_expected step (outcome now) page books after
            (follows now at) reads;
        applied_part = first;
        fault_is = refl;
      })

  pub returned_refusal : (refusal : Refusal)
      → MatchesQuery {A = Page} IsReport (Err (Refused refusal)) step books after
      → new ≡ device_after_refusal old refusal
      → (now : SystemState) → MatchesRows now limits books
      → HandlesReply (reply.Refused refusal) (outcome now) old new
  returned_refusal refusal reads is now at =
      (refusal_expected step (outcome now) refusal books after (follows now at) reads, is)
