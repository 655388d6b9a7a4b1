-- Imports are idempotent in every run.
use Rattle.std.proofs.Common.{◌≡◌, ℕ, List, [], ◌∷◌, Option, Some, None, Result, Ok, Err, refl, sym}
use Rattle.std.proofs.Common.{ap, ◌∙◌, subst, ⊎_elim}
use Rattle.vcard_lines.specs.declared.line.Line.{Line}
use Rattle.book_model.specs.declared.answers.ImportTally.{ImportTally}
use Rattle.book_model.specs.declared.refusal.Refusal.{Refusal}
use Rattle.book_model.specs.Bounds.{Bounds}
use Rattle.book_laws.specs.Calls.{ImportCall, CallAnswer, ReturnedImport, call_on_histories}
use Rattle.book_laws.specs.Calls.{answer_only, state_after_call, map_answer, histories_after_calls}
use Rattle.book_laws.specs.RunLaws.{ImportCallsAreIdempotent}
use Rattle.book_laws.specs.HistoryChanges.{import_on_histories}
use Rattle.book_laws.specs.HistoryQueries.{kept_import_on_histories}
use Rattle.book_laws.specs.StoreHistories.{BookHistories}
use Rattle.book_commands.specs.declared.command.Command.TheVariants.{Import}
use Rattle.book_service.specs.declared.event.Event.{Event}
use Rattle.book_service.specs.declared.event.Event.TheVariants.{Do}
use Rattle.book_commands.specs.declared.reply.Reply.{Reply}
use Rattle.book_commands.specs.declared.reply.Reply.TheVariants as reply
use Rattle.book_service.specs.Commands.{Outcome, import_outcome, ImportsTo, DeliversOutcome}
use Rattle.book_service.specs.Promise.{ImportsAreIdempotent}
use Rattle.book_service.specs.Runs.{SystemState, Step, end_of}
use Rattle.book_service.proofs.RunLemmas.{kept_answers}
use Rattle.book_service.proofs.StepLemmas.{step_limits, run_limits, runs_split}
use Rattle.book_service.proofs.TokenLemmas.{calls_of, run_calls}

module _ (now next : SystemState) (name key body : List ℕ) (tally : ImportTally) where
  -- this outcome gives the tally and these histories
  abbrev Comes : BookHistories → Outcome → Type 0
  Comes new outcome = DeliversOutcome (Import name key body) now.model.books outcome
      (reply.Imported tally) new

  received_step : (new : BookHistories) (step : Result (ImportTally × BookHistories) Refusal)
      → Comes new (map_answer ReturnedImport step) → step ≡ Ok (tally, new)
  received_step new (Ok done) delivers =
      let same : reply.Imported tally ≡ reply.Imported done.0 = delivers.0 in
      let is : tally ≡ done.0 = cc in
      ap (λ (t : ImportTally). Ok (t, done.1)) (sym is)
      ∙ ap (λ (b : BookHistories). Ok (tally, b)) (sym delivers.1)
  received_step new (Err refusal) delivers =
      absurd (let no : reply.Imported tally ≡ reply.Refused refusal = delivers.0 in cc)

  -- an import of some cards had this reply
  abbrev Called : BookHistories → Type 0
  Called new = (cards : List (List Line))
      × (import_on_histories now.model.limits now.model.books name key cards ≡ Ok (tally, new))

  by_read : (new : BookHistories) (read : Result (List (List Line)) Refusal)
      → Comes new (import_outcome now.model name key read) → Called new
  by_read new (Ok cards) delivers = (
    cards,
    received_step new (import_on_histories now.model.limits now.model.books name key cards)
        delivers,
  )
  by_read new (Err refusal) delivers =
      absurd (let no : reply.Imported tally ≡ reply.Refused refusal = delivers.0 in cc)

  by_kept : (new : BookHistories) (outcome : Outcome) (kept : Result (Option ImportTally) Refusal)
      → kept_import_on_histories now.model.books name key ≡ kept
      → ImportsTo now.model name key body kept outcome → Comes new outcome → Called new
  by_kept new outcome (Err refusal) there is delivers =
      by_read new (Err refusal) (subst (Comes new) is delivers)
  by_kept new outcome (Ok (Some kept)) there is delivers = (
    [],
    kept_answers now.model.limits now.model.books name key [] kept there
        ∙ received_step new (Ok (kept, now.model.books)) (subst (Comes new) is delivers),
  )
  by_kept new outcome (Ok None) there is delivers =
      by_read new is.read (subst (Comes new) is.outcome_is delivers)

  pub called : Step now (Do (Import name key body)) (reply.Imported tally) next
      → Called next.model.books
  called s =
      subst Called (sym (ap (λ (m : SystemState). m.model.books) s.2))
      (⊎_elim
      (λ done. by_kept s.0 done.outcome (kept_import_on_histories now.model.books name key) refl
      done.has_outcome done.delivers)
      (λ fault. absurd (let no : reply.Imported tally ≡ reply.Fault fault.0 = fault.1 in cc))
      s.1)

same_tally : (a b : ImportTally) → ReturnedImport a ≡ ReturnedImport b → a ≡ b
same_tally a b same = cc

same_answer : (a b : ImportTally) (left right : BookHistories)
    → ◌≡◌ {A = Outcome} (Ok (ReturnedImport a, left)) (Ok (ReturnedImport b, right)) → (a ≡ b)
    × (left ≡ right)
same_answer a b left right same =
    let pair : ◌≡◌ {A = CallAnswer × BookHistories} (ReturnedImport a, left) (
      ReturnedImport b,
      right,
    ) = cc in (
      same_tally a b (ap (λ (p : CallAnswer × BookHistories). p.0) pair),
      ap (λ (p : CallAnswer × BookHistories). p.1) pair,
    )

pub imports_are_idempotent : ImportCallsAreIdempotent → ImportsAreIdempotent
imports_are_idempotent law now received again between name key body other_body tally other steps
    is_import is_received is_again is_answer =
    let parts = runs_split received.after between (again ∷ []) steps.1 in
    let later = end_of received.after between in
    let limits = now.model.limits in
    let first = called now received.after name key body tally
    (subst (λ (r : Reply). Step now (Do (Import name key body)) r received.after) is_received
    (subst (λ (e : Event). Step now e received.reply received.after) is_import steps.0)) in
    let second = called later again.after name key other_body other
    (subst (λ (r : Reply). Step later (Do (Import name key other_body)) r again.after) is_answer
    (subst (λ (e : Event). Step later e again.reply again.after) is_again parts.1.0)) in
    let calls = calls_of received.after between parts.0 in
    let old_limits : received.after.model.limits ≡ limits =
    step_limits now received.after received.event received.reply steps.0 in
    let outcome : call_on_histories limits now.model.books (ImportCall name key first.0)
    ≡ Ok (ReturnedImport tally, received.after.model.books) =
    ap (map_answer ReturnedImport) first.1 in
    let later_is : histories_after_calls limits now.model.books (ImportCall name key first.0 ∷
    calls) ≡ later.model.books =
    ap (λ (b : BookHistories). histories_after_calls limits b calls)
    (ap (state_after_call now.model.books) outcome)
    ∙ ap (λ (l : Bounds). histories_after_calls l received.after.model.books calls) (sym old_limits)
    ∙ sym (run_calls received.after between parts.0) in
    let again_expected : call_on_histories limits later.model.books (ImportCall name key second.0)
    ≡ Ok (ReturnedImport tally, later.model.books) =
    subst (λ (b : BookHistories). call_on_histories limits b (ImportCall name key second.0)
    ≡ Ok (ReturnedImport tally, b)) later_is
    (law limits now.model.books name key first.0 second.0 tally calls (ap answer_only outcome)) in
    let answered : import_on_histories limits later.model.books name key second.0 ≡ Ok (
      other,
      again.after.model.books,
    ) =
    subst (λ (l : Bounds). import_on_histories l later.model.books name key second.0 ≡ Ok (
      other,
      again.after.model.books,
    )) (run_limits received.after between parts.0
    ∙ old_limits) second.1 in
    same_answer other tally again.after.model.books later.model.books
    (sym (ap (map_answer ReturnedImport) answered) ∙ again_expected)
