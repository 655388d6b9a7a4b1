-- What a resync after a restore makes of the tokens and versions of the time that was lost.
use Rattle.std.proofs.Common.{◌≡◌, ℕ, ◌≤◌, List, [], ◌∷◌, ◌++◌, length, Option, Some, Result, Ok}
use Rattle.std.proofs.Common.{Err, sym, ap, ◌∙◌, subst, ⊎_elim, arith}
use Rattle.std.specs.Option.{option_map}
use Rattle.std.specs.FinMap as finite
use Rattle.std.proofs.lemmas.List.{append_assoc, length-append}
use Rattle.std.proofs.lemmas.Option.{same_Some}
use Rattle.book_model.specs.declared.answers.Stored.{Stored}
use Rattle.book_model.specs.declared.change.Change.TheVariants.{Stores}
use Rattle.book_model.specs.declared.page.Page.{Page}
use Rattle.book_model.specs.declared.refusal.Refusal.{Refusal}
use Rattle.book_model.specs.declared.refusal.Refusal.TheVariants.{BadToken}
use Rattle.book_model.specs.declared.refusal.TokenCause.TheVariants.{TooOld}
use Rattle.book_model.specs.Bounds.{Bounds, IsInRange}
use Rattle.book_model.specs.Books.{Book, Books}
use Rattle.book_model.specs.Pages.{ReportRequest, report_step, token_of}
use Rattle.book_laws.specs.EventLogs.{BookEvent}
use Rattle.book_laws.specs.HistoryExtension.{Extends}
use Rattle.book_laws.specs.LastChanges.{IsStoredLast}
use Rattle.book_laws.specs.LiveLaws.{LiveCardsAreStoredLast}
use Rattle.book_laws.specs.QueryRefinement.{ReportsRefine}
use Rattle.book_laws.specs.Refinement.{PagesRefineHistories}
use Rattle.book_laws.specs.RowLaws.{RowsArePerBook}
use Rattle.book_laws.specs.RowsAfterCalls.{rows_after_calls}
use Rattle.book_laws.specs.RunLaws.{CallsExtendHistories, CallsKeepHistoriesSound}
use Rattle.book_laws.specs.RunLaws.{RowsMatchHistoriesAfterCalls}
use Rattle.book_laws.specs.StoreHistories.{BookHistories, BookHistory, IsSoundStoreHistory}
use Rattle.book_laws.specs.StoreHistories.{book_of_history, rows_of}
use Rattle.book_laws.specs.VersionLaws.{VersionsAreLastNumbers}
use Rattle.book_laws.proofs.HistoryLemmas.{last-le}
use Rattle.book_laws.proofs.RowLemmas.{live_by_row}
use Rattle.book_laws.proofs.TokenLemmas.{answered}
use Rattle.book_resync.specs.ResyncLaws.{ExpiredTokensStayRefused, LostVersionsNeverReturn}
use Rattle.sync_core.specs.TokenTextLaws.{TokenTextsAreUnique}
use Rattle.book_service.specs.Mirrors.{report_at}
use Rattle.book_service.specs.Restores.{IsRestored, LostTokensAreRefused, LostVersionsNameOneCard}
use Rattle.book_service.specs.Runs.{SystemState, TraceStep, Run, end_of}
use Rattle.book_service.proofs.StepLemmas.{end-append, run_limits, runs_split, steps_keep_sound}
use Rattle.book_service.proofs.TokenLemmas.{calls_of, received_page, refused_reply, run_calls}

-- ---- runs

run_sound : CallsKeepHistoriesSound → (now : SystemState) (run : List TraceStep)
    → IsSoundStoreHistory now.model → Run now run → IsSoundStoreHistory (end_of now run).model
run_sound stays now [] sound steps = sound
run_sound stays now (h ∷ run) sound steps =
    run_sound stays h.after run (steps_keep_sound stays now h.after h.event h.reply sound steps.0)
    steps.1

run_extends : CallsExtendHistories → (now : SystemState) (run : List TraceStep) (name : List ℕ)
    (old : BookHistory) → Run now run → finite.get now.model.books name ≡ Some old
    → (new : BookHistory) × (finite.get (end_of now run).model.books name ≡ Some new)
    × Extends old new
run_extends extend now run name old steps found =
    let on = extend now.model.limits now.model.books (calls_of now run steps) name old found in
    (on.0, ap (λ (b : BookHistories). finite.get b name) (run_calls now run steps) ∙ on.1, on.2)

is_longer : (old new : BookHistory) → Extends old new → length old.log ≤ length new.log
is_longer old new grown = let long = ap length grown.log ∙ length-append grown.later old.log in
    omega (arith, long)

rows_found : RowsArePerBook → (histories : BookHistories) (name : List ℕ) (history : BookHistory)
    → finite.get histories name ≡ Some history → finite.get (rows_of histories) name
    ≡ Some (book_of_history history)
rows_found rows histories name history found = rows histories name
    ∙ ap (option_map book_of_history) found

-- ---- after a resync

module _ (follow : RowsMatchHistoriesAfterCalls) (early after : SystemState) (lost later :
    List TraceStep) (pairs : ℕ) (restored : IsRestored early lost pairs after) (steps :
    Run after later) where
  sound_after : IsSoundStoreHistory after.model
  sound_after = record {
    limits = subst IsInRange (sym restored.limits_are) restored.sound.limits;
    books = restored.histories;
  }

  rows_at_end : rows_after_calls early.model.limits (rows_of after.model.books)
      (calls_of after later steps) ≡ rows_of (end_of after later).model.books
  rows_at_end =
      ap (λ (l : Bounds). rows_after_calls l (rows_of after.model.books)
      (calls_of after later steps)) (sym restored.limits_are)
      ∙ follow after.model (calls_of after later steps) sound_after.limits sound_after.books
      ∙ ap rows_of (sym (run_calls after later steps))

  limits_at_end : (end_of after later).model.limits ≡ early.model.limits
  limits_at_end = run_limits after later steps ∙ restored.limits_are

-- ---- tokens

-- what the rows refuse, the histories refuse
refused_alike : (asked : Result ReportRequest Refusal) (wanted : Result Page Refusal) (refusal :
    Refusal) → PagesRefineHistories asked wanted → asked ≡ Err refusal → wanted ≡ Err refusal
refused_alike (Ok asked) wanted refusal alike e = cc
refused_alike (Err other) (Ok page) refusal alike e = absurd alike
refused_alike (Err other) (Err wanted) refusal alike e = let is : other ≡ refusal = cc in
    ap (λ (r : Refusal). Err r) (sym alike ∙ is)

pub lost_tokens_are_refused : CallsKeepHistoriesSound → CallsExtendHistories
    → RowsMatchHistoriesAfterCalls → RowsArePerBook → ReportsRefine → TokenTextsAreUnique
    → ExpiredTokensStayRefused → LostTokensAreRefused
lost_tokens_are_refused stays extend follow rows refine law expired early after before rest later
    asked again pairs name token page restored skips asks is_page steps asks_again =
    let parts = runs_split early before (asked ∷ rest) restored.ran in
    let middle = end_of early before in
    let sound_then = run_sound stays early before restored.sound parts.0 in
    let received = received_page law middle asked.after asked.event asked.reply name token page
    parts.1.0 asks is_page in
    let own = answered middle.model name token received.0 page sound_then.books received.1 in
    let grown = run_extends extend early before name skips.copied parts.0 skips.found in
    let same : grown.0 ≡ own.history = same_Some grown.0 own.history (sym grown.1 ∙ own.found) in
    let late = run_extends extend middle (asked ∷ rest) name own.history parts.1 own.found in
    let late_found : finite.get (end_of early (before ++ asked ∷ rest)).model.books name
    ≡ Some late.0 = ap (λ (s : SystemState). finite.get s.model.books name)
    (end-append early before (asked ∷ rest)) ∙ late.1 in
    let fewer = skips.more late.0 late_found in
    let long = is_longer own.history late.0 late.2 in
    let at = own.within.at in
    let base = own.within.base in
    let book : page.book ≡ skips.copied.id = own.book ∙ ap (λ (h : BookHistory). h.id) (sym same)
    ∙ grown.2.id in
    let then = runs_split after later (again ∷ []) steps in
    let end = end_of after later in
    let lost = before ++ asked ∷ rest in
    let sound_end = run_sound stays after later (sound_after follow early after lost later pairs
    restored then.0) then.0 in
    let token_then = Some (token_of page) in
    let refused : (limit : Option ℕ) → report_step early.model.limits
    (rows_after_calls early.model.limits (rows_of after.model.books)
    (calls_of after later then.0)) name token_then limit ≡ Err (BadToken TooOld) =
    λ limit. expired early.model (rows_of after.model.books) pairs (calls_of after later then.0)
    name (book_of_history skips.copied) (token_of page) limit restored.sound.limits
    restored.sound.books restored.well_formed restored.resynced
    (rows_found rows early.model.books name skips.copied skips.found) book (omega (
      arith,
      at,
      long,
      fewer,
    )) (omega (arith, base, long, fewer)) in
    let by_rows : (limit : Option ℕ) → report_step end.model.limits (rows_of end.model.books) name
    token_then limit ≡ Err (BadToken TooOld) =
    λ limit. subst (λ (l : Bounds). report_step l (rows_of end.model.books) name token_then limit
    ≡ Err (BadToken TooOld)) (sym (limits_at_end follow early after lost later pairs restored
    then.0))
    (subst (λ (b : Books). report_step early.model.limits b name token_then limit
    ≡ Err (BadToken TooOld)) (rows_at_end follow early after lost later pairs restored then.0)
    (refused limit)) in
    refused_reply law end again.after again.event again.reply name token_then (BadToken TooOld)
    then.1.0 asks_again
    (λ limit. refused_alike (report_step end.model.limits (rows_of end.model.books) name token_then
    limit) (report_at end name token_then limit) (BadToken TooOld)
    (refine end.model name token_then limit sound_end.books) (by_rows limit))

-- ---- versions

-- two places in a list with equally many elements after them are one place
same_place : {A : Type 0} (earlier others later more : List A) (x y : A)
    → later ++ x ∷ earlier ≡ more ++ y ∷ others → length earlier ≡ length others → x ≡ y
same_place earlier others [] [] x y e n = cc
same_place earlier others [] (z ∷ more) x y e n =
    let rest : earlier ≡ more ++ y ∷ others = cc in
    let long = ap length rest ∙ length-append more (y ∷ others) in
    absurd (omega (arith, n, long))
same_place earlier others (w ∷ later) [] x y e n =
    let rest : later ++ x ∷ earlier ≡ others = cc in
    let long = ap length (sym rest) ∙ length-append later (x ∷ earlier) in
    absurd (omega (arith, n, long))
same_place earlier others (w ∷ later) (z ∷ more) x y e n =
    let rest : later ++ x ∷ earlier ≡ more ++ y ∷ others = cc in
    same_place earlier others later more x y rest n

-- a version names one card of a log and of each log that goes on from it
same_card : (old : List BookEvent) (later : List BookEvent) (uid : List ℕ) (lost stored : Stored)
    → IsStoredLast (later ++ old) uid lost → IsStoredLast old uid stored
    → lost.version ≡ stored.version → lost.card ≡ stored.card
same_card old later uid lost stored a b same =
    let change_a = a.change in
    let change_b = b.change in
    let number_a = change_a.number_is in
    let number_b = change_b.number_is in
    let event_a : BookEvent = record { uid = uid; change = Stores lost.card a.why } in
    let event_b : BookEvent = record { uid = uid; change = Stores stored.card b.why } in
    let joined : change_a.later ++ event_a ∷ change_a.earlier ≡ (later ++ change_b.later)
    ++ event_b ∷ change_b.earlier =
    sym change_a.parts ∙ ap (λ (h : List BookEvent). later ++ h) change_b.parts
    ∙ sym (append_assoc later change_b.later (event_b ∷ change_b.earlier)) in
    let one : event_a ≡ event_b = same_place change_a.earlier change_b.earlier change_a.later
    (later ++ change_b.later) event_a event_b joined (omega (
      arith,
      same,
      number_a,
      number_b,
    )) in
    let change : Stores lost.card a.why ≡ Stores stored.card b.why =
    ap (λ (e : BookEvent). e.change) one in
    cc

pub lost_versions_name_one_card : CallsExtendHistories → RowsMatchHistoriesAfterCalls
    → RowsArePerBook → LiveCardsAreStoredLast → VersionsAreLastNumbers → LostVersionsNeverReturn
    → LostVersionsNameOneCard
lost_versions_name_one_card extend follow rows stored_last versions never early after before rest
    later pairs name uid old new lost stored restored skips old_found was_live steps new_found
    is_live same =
    let parts = runs_split early before rest restored.ran in
    let grown = run_extends extend early before name skips.copied parts.0 skips.found in
    let extends : Extends skips.copied old =
    subst (Extends skips.copied) (same_Some grown.0 old (sym grown.1 ∙ old_found)) grown.2 in
    let late = run_extends extend (end_of early before) rest name old parts.1 old_found in
    let late_found : finite.get (end_of early (before ++ rest)).model.books name ≡ Some late.0 =
    ap (λ (s : SystemState). finite.get s.model.books name) (end-append early before rest)
    ∙ late.1 in
    let fewer = skips.more late.0 late_found in
    let long = is_longer old late.0 late.2 in
    let version = versions old.log uid lost was_live in
    let known = last-le old.log uid in
    let last : IsStoredLast (extends.later ++ skips.copied.log) uid lost =
    subst (λ (h : List BookEvent). IsStoredLast h uid lost) extends.log
    ((stored_last old.log uid lost).0 was_live) in
    let copied : Book = book_of_history skips.copied in
    let rows_new = ap (λ (b : Books). finite.get b name) (rows_at_end follow early after
    (before ++ rest) later pairs restored steps)
    ∙ rows_found rows (end_of after later).model.books name new new_found in
    ⊎_elim
    (λ kept. same_card skips.copied.log extends.later uid lost stored last
    ((stored_last skips.copied.log uid stored).0
    (sym (live_by_row skips.copied.log skips.copied.horizon uid) ∙ kept)) same)
    (λ above. absurd (omega (arith, same, version, known, long, fewer, above)))
    (never early.model (rows_of after.model.books) pairs (calls_of after later steps) name uid
    copied (book_of_history new) stored restored.sound.limits restored.sound.books
    restored.well_formed restored.resynced
    (rows_found rows early.model.books name skips.copied skips.found) rows_new
    (live_by_row new.log new.horizon uid ∙ is_live))
