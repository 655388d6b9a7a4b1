-- Live cards are ones that a text can spell, whatever commands are made. Given here: inductions
-- over the cards of an import and over the steps of a run; a case for each call, of which a put and
-- an import store a card that is legal, and a move one that was live; and whether a UID is the one
-- of the event.
use Rattle.std.proofs.Common.{◌≡◌, ◌+◌, ℕ, true, false, cond, not, List, [], ◌∷◌, fold, length}
use Rattle.std.proofs.Common.{Option, Some, None, is_some, Result, Ok, Err, refl, sym, ap, ◌∙◌}
use Rattle.std.proofs.Common.{subst, ⊎_elim}
use Rattle.std.specs.List.{AllByRecursion}
use Rattle.std.specs.Option.{option_and_then, option_map, option_map_or}
use Rattle.std.specs.Result.{IfOk}
use Rattle.std.specs.FinMap as finite
use Rattle.std.specs.FinMap.{get-empty, get-insert, get-remove}
use Rattle.std.proofs.lemmas.Bool.{cases_Bool, cond-true, cond-false}
use Rattle.std.proofs.lemmas.Option.{same_Some}
use Rattle.base_types.specs.TextMaps.{text_cmp}
use Rattle.base_types.proofs.TextLemmas.{same, text_total}
use Rattle.vcard_lines.specs.declared.line.Line.{Line}
use Rattle.vcard_text.specs.Cards.{IsCard, kind_of, uid_of}
use Rattle.vcard_text.specs.FirstFaults.{is_group}
use Rattle.vcard_text.specs.Spelling.{Spells}
use Rattle.csv_cards.specs.declared.form.Form.{Form}
use Rattle.csv_cards.specs.declared.form.Form.TheVariants as form
use Rattle.csv_cards.specs.Reading.{RowHoldsCard, RowsRepresentEach}
use Rattle.csv_cards.specs.Rows.{Row}
use Rattle.book_model.specs.declared.answers.ImportTally.{ImportTally}
use Rattle.book_model.specs.declared.answers.Moved.{Moved}
use Rattle.book_model.specs.declared.answers.PutAnswer.{PutAnswer}
use Rattle.book_model.specs.declared.answers.Stored.{Stored}
use Rattle.book_model.specs.declared.change.Change.TheVariants.{Stores, TakesAway}
use Rattle.book_model.specs.declared.change.StoreReason.{StoreReason}
use Rattle.book_model.specs.declared.change.StoreReason.TheVariants.{Import as AnImport, ImportEdit}
use Rattle.book_model.specs.declared.change.StoreReason.TheVariants.{MoveIn}
use Rattle.book_model.specs.declared.change.RemovalReason.{RemovalReason}
use Rattle.book_model.specs.declared.change.RemovalReason.TheVariants.{Deletion, MoveOut}
use Rattle.book_model.specs.declared.refusal.Refusal.{Refusal}
use Rattle.book_model.specs.declared.refusal.Refusal.TheVariants.{NoSuchBook, NotGroup, SameBook}
use Rattle.book_model.specs.declared.refusal.Refusal.TheVariants.{BadForget, BadKey, UidTaken}
use Rattle.book_model.specs.declared.refusal.Refusal.TheVariants.{VersionMismatch}
use Rattle.book_model.specs.declared.token.Token.{Token}
use Rattle.book_model.specs.Bounds.{Bounds}
use Rattle.book_model.specs.Books.{Book, same_name, stored_in_row}
use Rattle.book_model.specs.CallOutcomes.{◌>>=◌}
use Rattle.book_model.specs.Creating.{new_id}
use Rattle.book_model.specs.Forgetting.{may_forget}
use Rattle.book_model.specs.Importing.{Importing, import_card, import_reason, import_state}
use Rattle.book_model.specs.Importing.{import_with_reason, is_legal_key}
use Rattle.book_model.specs.Moving.{Moving, move_answer, move_numbers, moving_of}
use Rattle.book_model.specs.Putting.{FoundMember, is_expected, put_answer, put_store_reason}
use Rattle.book_model.specs.Removing.{remove_number}
use Rattle.book_model.specs.SameCards.{same_card}
use Rattle.book_laws.specs.Calls.{Call, CallAnswer, CreateBookCall, PutCall, RemoveCall, MoveCall}
use Rattle.book_laws.specs.Calls.{ImportCall, ForgetCall, ReportCall, KeptImportCall, BooksCall}
use Rattle.book_laws.specs.Calls.{BookLineCall, GetCall, CardsCall, TallyCall, answer_in_state}
use Rattle.book_laws.specs.Calls.{call_on_histories, map_answer, ReturnedId, ReturnedPut}
use Rattle.book_laws.specs.Calls.{ReturnedRemoval, ReturnedMove, ReturnedImport, ReturnedDropped}
use Rattle.book_laws.specs.Calls.{ReturnedPage, ReturnedKeptImport, ReturnedBookLine}
use Rattle.book_laws.specs.Calls.{ReturnedCard, ReturnedCards, ReturnedTally}
use Rattle.book_laws.specs.EventLogs.{BookEvent, live}
use Rattle.book_laws.specs.HistoryChanges.{event, histories_after_move, history_import}
use Rattle.book_laws.specs.HistoryChanges.{history_import_tally}
use Rattle.book_laws.specs.HistoryChanges.{history_with_kept_import, history_with_stored_card}
use Rattle.book_laws.specs.HistoryChanges.{import_on_histories_under, live_in_history, with_horizon}
use Rattle.book_laws.specs.HistoryQueries.{book_line_on_histories, cards_on_histories}
use Rattle.book_laws.specs.HistoryQueries.{get_on_histories, kept_import_on_histories}
use Rattle.book_laws.specs.HistoryQueries.{tally_on_histories}
use Rattle.book_laws.specs.HistorySteps.{empty_history, found_in_history, histories_after_put}
use Rattle.book_laws.specs.HistorySteps.{history_named, report_on_histories, with_event}
use Rattle.book_laws.specs.RowLaws.{RowsArePerBook}
use Rattle.book_laws.specs.StoreHistories.{BookHistories, BookHistory, StoreHistory}
use Rattle.book_laws.specs.StoreHistories.{book_of_history, rows_of}
use Rattle.book_laws.proofs.AcceptedLemmas.{after_any, after_known, after_test}
use Rattle.book_laws.proofs.RowLemmas.{live_by_row}
use Rattle.book_resync.specs.ResyncLaws.{HasLegalCards}
use Rattle.book_commands.specs.declared.command.Command.{Command}
use Rattle.book_commands.specs.declared.command.Command.TheVariants.{CreateBook, Books as ListBooks}
use Rattle.book_commands.specs.declared.command.Command.TheVariants.{Get, Put, Remove, MoveCard}
use Rattle.book_commands.specs.declared.command.Command.TheVariants.{Report, Import, Forget}
use Rattle.book_commands.specs.declared.command.Command.TheVariants.{TallyOf, Export, People}
use Rattle.book_commands.specs.declared.reply.Reply.{Reply}
use Rattle.book_service.specs.declared.event.Event.{Event}
use Rattle.book_service.specs.declared.event.Event.TheVariants.{Do, Ask}
use Rattle.book_service.specs.Commands.{DeliversOutcome, HasOutcome, ImportsTo, Outcome}
use Rattle.book_service.specs.Commands.{PerformsCommand, import_outcome, outcome_with}
use Rattle.book_service.specs.Resyncs.{CardsStayLegal, NewStoresHaveLegalCards}
use Rattle.book_service.specs.Runs.{SystemState, Step, TraceStep, Run, end_of}
use Rattle.book_service.specs.Texts.{ReadsCard, ReadsCards}

-- ---- logs and histories

abbrev IsLegalLog : List BookEvent → Type 0
IsLegalLog log = (uid : List ℕ) (stored : Stored) → finite.get (live log) uid ≡ Some stored
    → IsCard stored.card

abbrev pub AreLegal : BookHistories → Type 0
AreLegal histories = (name : List ℕ) (history : BookHistory)
    → finite.get histories name ≡ Some history → IsLegalLog history.log

abbrev LeavesLegal : {A : Type 0} → Result (A × BookHistories) Refusal → Type 0
LeavesLegal step = IfOk step (λ done. AreLegal done.1)

no_card : {A : Type 0} (x : A) → ◌≡◌ {A = Option A} None (Some x) → ⊥
no_card x e = cc

stored_legal : (log : List BookEvent) (uid : List ℕ) (card : List Line) (why : StoreReason)
    → IsCard card → IsLegalLog log → IsLegalLog (event uid (Stores card why) ∷ log)
stored_legal log uid card why legal all q stored at =
    let own : Stored = record { version = length log + 1; card = card } in
    let got = sym (get-insert text_total (live log) uid own q) ∙ at in
    ⊎_elim
    (λ here. subst (λ (s : Stored). IsCard s.card)
    (same_Some own stored (sym (cond-true _ _ _ here) ∙ got)) legal)
    (λ other. all q stored (sym (cond-false _ _ _ other) ∙ got))
    (cases_Bool (same q uid))

removed_legal : (log : List BookEvent) (uid : List ℕ) (why : RemovalReason) → IsLegalLog log
    → IsLegalLog (event uid (TakesAway why) ∷ log)
removed_legal log uid why all q stored at =
    let got = sym (get-remove text_total (live log) uid q) ∙ at in
    ⊎_elim
    (λ here. absurd (no_card stored (sym (cond-true _ _ _ here) ∙ got)))
    (λ other. all q stored (sym (cond-false _ _ _ other) ∙ got))
    (cases_Bool (same q uid))

empty_legal : IsLegalLog []
empty_legal uid stored at = absurd (no_card stored (sym (get-empty text_cmp uid) ∙ at))

insert_legal : (histories : BookHistories) (name : List ℕ) (history : BookHistory)
    → AreLegal histories → IsLegalLog history.log
    → AreLegal (finite.insert histories name history)
insert_legal histories name history all own q found at =
    let got = sym (get-insert text_total histories name history q) ∙ at in
    ⊎_elim
    (λ here. subst (λ (h : BookHistory). IsLegalLog h.log)
    (same_Some history found (sym (cond-true _ _ _ here) ∙ got)) own)
    (λ other. all q found (sym (cond-false _ _ _ other) ∙ got))
    (cases_Bool (same q name))

-- ---- an import, card by card

abbrev import_one : Importing BookHistory → List Line → Importing BookHistory
import_one = import_card live_in_history history_with_stored_card

one_legal : (state : Importing BookHistory) (card : List Line) (found : Option Stored)
    → IsCard card → IsLegalLog state.book.log
    → IsLegalLog (import_with_reason history_with_stored_card state card
    (import_reason card found)).book.log
one_legal state card None legal all =
    stored_legal state.book.log (uid_of card) card AnImport legal all
one_legal state card (Some stored) legal all =
    elim (same_card stored.card card) as
    (λ b. IsLegalLog (import_with_reason history_with_stored_card state card
    (cond b None (Some ImportEdit))).book.log) [
      | true ↦ all
      | false ↦ stored_legal state.book.log (uid_of card) card ImportEdit legal all
    ]

cards_legal : (cards : List (List Line)) (state : Importing BookHistory)
    → AllByRecursion IsCard cards → IsLegalLog state.book.log
    → IsLegalLog (fold import_one state cards).book.log
cards_legal [] state legal all = all
cards_legal (card ∷ cards) state legal all =
    cards_legal cards (import_one state card) legal.1
    (one_legal state card (live_in_history state.book (uid_of card)) legal.0 all)

-- ---- a moved card is one that was live

abbrev IsLive : FoundMember → Moving → Type 0
IsLive found moving = (stored : Stored) × (found.live ≡ Some stored)
    × (moving.card ≡ stored.card)

moved_is_live : (limits : Bounds) (source target : FoundMember) (expect : Option ℕ)
    → IfOk (move_answer limits source target expect) (IsLive source)
moved_is_live limits source target expect = by source.live refl
  where
    by : (o : Option Stored) → source.live ≡ o
        → IfOk (move_answer limits (record source { live = o }) target expect) (IsLive source)
    by None is = tt
    by (Some stored) is =
        let numbers = move_numbers limits target.cards source.number target.number in
        let moves : Moved → Result Moving Refusal = λ n. Ok (moving_of stored.card n) in
        after_test (IsLive source) (not (is_some target.live)) UidTaken _ (λ free.
        after_test (IsLive source) (is_expected expect stored.version)
        (VersionMismatch stored.version) (numbers >>= moves) (λ expected.
        after_any (IsLive source) numbers moves (λ n.
        let live : IsLive source (moving_of stored.card n) = (stored, is, refl) in live)))

-- ---- each call

-- a text can spell each card of the call
abbrev IsLegalCall : Call → Type 0
IsLegalCall (PutCall name card expect) = IsCard card
IsLegalCall (ImportCall name key cards) = AllByRecursion IsCard cards
IsLegalCall call = Unit {0}

module _ (histories : BookHistories) (legal : AreLegal histories) where
  legal_answer : {A : Type 0} (f : A → CallAnswer) (step : Result (A × BookHistories) Refusal)
      → LeavesLegal step → LeavesLegal (map_answer f step)
  legal_answer f (Ok done) all = all
  legal_answer f (Err refusal) all = tt

  by_reading : {A : Type 0} (f : A → CallAnswer) (reading : Result A Refusal)
      → LeavesLegal (answer_in_state f histories reading)
  by_reading f (Ok returned) = legal
  by_reading f (Err refusal) = tt

  by_named : {A : Type 0} (name : List ℕ)
      (f : BookHistory → Result (A × BookHistories) Refusal)
      → ((history : BookHistory) → IsLegalLog history.log → LeavesLegal (f history))
      → LeavesLegal (history_named histories name >>= f)
  by_named {A = A} name f each = by (finite.get histories name) refl
    where
      by : (o : Option BookHistory) → finite.get histories name ≡ o
          → LeavesLegal {A = A} (option_map_or Ok o (Err NoSuchBook) >>= f)
      by (Some history) is = each history (legal name history is)
      by None is = tt

  abbrev After : {A : Type 0} → A × BookHistories → Type 0
  After done = AreLegal done.1

  legal_put : (name : List ℕ) (history : BookHistory) (card : List Line)
      (why : Option StoreReason) → IsCard card → IsLegalLog history.log
      → AreLegal (histories_after_put histories name history card why)
  legal_put name history card None own all = legal
  legal_put name history card (Some why) own all =
      insert_legal histories name _ legal (stored_legal history.log (uid_of card) card why own all)

  legal_import : (limits : Bounds) (name key : List ℕ) (cards : List (List Line))
      (history : BookHistory) (kept : Option ImportTally) → AllByRecursion IsCard cards
      → IsLegalLog history.log
      → LeavesLegal (import_on_histories_under limits histories name history key cards kept)
  legal_import limits name key cards history (Some kept) own all = legal
  legal_import limits name key cards history None own all =
      after_any (After {A = ImportTally})
      (history_import_tally limits (history_import history cards)) _ (λ tally.
      insert_legal histories name
      (history_with_kept_import (history_import history cards).book key tally) legal
      (cards_legal cards (import_state history 0 0 0) own all))

  legal_move : (from to uid : List ℕ) (source target : BookHistory) (moving : Moving)
      → IsLegalLog source.log → IsLegalLog target.log
      → IsLive (found_in_history source.log uid) moving
      → AreLegal (histories_after_move histories from to uid source target moving.card)
  legal_move from to uid source target moving of_source of_target was =
      let card : IsCard moving.card =
      subst (λ (c : List Line). IsCard c) (sym was.2) (of_source uid was.0 was.1) in
      let came = with_event target (event uid (Stores moving.card MoveIn)) in
      let left = with_event source (event uid (TakesAway MoveOut)) in
      insert_legal (finite.insert histories to came) from left
      (insert_legal histories to came legal
      (stored_legal target.log uid moving.card MoveIn card of_target))
      (removed_legal source.log uid MoveOut of_source)

  legal_call : (limits : Bounds) (call : Call) → IsLegalCall call
      → LeavesLegal (call_on_histories limits histories call)
  legal_call limits (CreateBookCall name) own = legal_answer ReturnedId _
      (after_any (After {A = ℕ}) (new_id limits name (finite.contains_key histories name)
      (finite.len histories)) _ (λ id.
      insert_legal histories name (empty_history id limits.keep) legal empty_legal))
  legal_call limits (PutCall name card expect) own = legal_answer ReturnedPut _
      (by_named name _ (λ history all.
      after_any (After {A = PutAnswer})
      (put_answer limits (found_in_history history.log (uid_of card)) card expect) _
      (λ answer. legal_put name history card (put_store_reason answer) own all)))
  legal_call limits (RemoveCall name uid expect) own = legal_answer ReturnedRemoval _
      (by_named name _ (λ history all.
      after_any (After {A = ℕ}) (remove_number limits (found_in_history history.log uid) expect)
      _ (λ number. insert_legal histories name (with_event history (event uid (TakesAway Deletion)))
      legal (removed_legal history.log uid Deletion all))))
  legal_call limits (MoveCall from to uid expect) own = legal_answer ReturnedMove _
      (by_named from _ (λ source of_source.
      by_named to _ (λ target of_target.
      after_test (After {A = Moved}) (not (same_name from to)) SameBook _ (λ apart.
      after_known (After {A = Moved}) (IsLive (found_in_history source.log uid))
      (move_answer limits (found_in_history source.log uid) (found_in_history target.log uid)
      expect) _
      (moved_is_live limits (found_in_history source.log uid) (found_in_history target.log uid)
      expect) (λ moving was. legal_move from to uid source target moving of_source of_target
      was)))))
  legal_call limits (ImportCall name key cards) own = legal_answer ReturnedImport _
      (by_named name _ (λ history all.
      after_test (After {A = ImportTally}) (is_legal_key key) BadKey _ (λ legal_key.
      legal_import limits name key cards history (finite.get history.imports key) own all)))
  legal_call limits (ForgetCall name upto) own = legal_answer ReturnedDropped _
      (by_named name _ (λ history all.
      after_test (After {A = ℕ}) (may_forget history.horizon (length history.log) upto) BadForget _
      (λ allowed. insert_legal histories name (with_horizon history upto) legal all)))
  legal_call limits (ReportCall name token limit) own =
      by_reading ReturnedPage (report_on_histories limits histories name token limit)
  legal_call limits (KeptImportCall name key) own =
      by_reading ReturnedKeptImport (kept_import_on_histories histories name key)
  legal_call limits BooksCall own = legal
  legal_call limits (BookLineCall name) own =
      by_reading ReturnedBookLine (book_line_on_histories histories name)
  legal_call limits (GetCall name uid) own =
      by_reading ReturnedCard (get_on_histories histories name uid)
  legal_call limits (CardsCall name) own =
      by_reading ReturnedCards (cards_on_histories histories name)
  legal_call limits (TallyCall name) own =
      by_reading ReturnedTally (tally_on_histories histories name)

-- ---- each command

abbrev SpelledAreCards : Type 0
SpelledAreCards = (text : List ℕ) (lines : List Line) → Spells text lines → IsCard lines

rows_legal : SpelledAreCards → (f : Form) (rows : List Row) (cards : List (List Line))
    → RowsRepresentEach f rows cards → AllByRecursion IsCard cards
rows_legal spelled f [] [] all = tt
rows_legal spelled f [] (card ∷ cards) all = absurd all
rows_legal spelled f (row ∷ rows) [] all = absurd all
rows_legal spelled f (row ∷ rows) (card ∷ cards) all =
    (by f all.0.holds, rows_legal spelled f rows cards all.1)
  where
    by : (f : Form) → RowHoldsCard f row card → IsCard card
    by form.Cards held = spelled _ card held.text
    by form.Columns held = held.rules

module _ (spelled : SpelledAreCards) (model : StoreHistory) (legal : AreLegal model.books) where
  abbrev of_call : (call : Call) → IsLegalCall call
      → LeavesLegal (call_on_histories model.limits model.books call)
  of_call call own = legal_call model.books legal model.limits call own

  by_call : (call : Call) (outcome : Outcome) → IsLegalCall call
      → outcome ≡ call_on_histories model.limits model.books call → LeavesLegal outcome
  by_call call outcome own is =
      subst (λ (o : Outcome). LeavesLegal o) (sym is) (of_call call own)

  abbrev Then : CallAnswer × BookHistories → Type 0
  Then done = AreLegal done.1

  -- a text that is refused
  by_refusal : (book : List ℕ) (refusal : Refusal) (outcome : Outcome)
      → outcome ≡ (history_named model.books book >>= λ history. Err refusal)
      → LeavesLegal outcome
  by_refusal book refusal outcome is = subst (λ (o : Outcome). LeavesLegal o) (sym is)
      (by_named model.books legal book _ (λ history all. tt))

  of_put : (book uid text : List ℕ) (expect : Option ℕ) (outcome : Outcome)
      (read : Result (List Line) Refusal) → ReadsCard uid text read
      → outcome ≡ outcome_with model book (λ card. PutCall book card expect) read
      → LeavesLegal outcome
  of_put book uid text expect outcome (Ok card) reads is =
      by_call (PutCall book card expect) outcome (spelled text card reads.0) is
  of_put book uid text expect outcome (Err refusal) reads is =
      by_refusal book refusal outcome is

  of_report : (book : List ℕ) (limit : Option ℕ) (outcome : Outcome)
      (read : Result (Option Token) Refusal)
      → outcome ≡ outcome_with model book (λ from. ReportCall book from limit) read
      → LeavesLegal outcome
  of_report book limit outcome (Ok from) is = by_call (ReportCall book from limit) outcome tt is
  of_report book limit outcome (Err refusal) is = by_refusal book refusal outcome is

  of_body : (book key body : List ℕ) (outcome : Outcome)
      (read : Result (List (List Line)) Refusal) → ReadsCards body read
      → outcome ≡ import_outcome model book key read → LeavesLegal outcome
  of_body book key body outcome (Ok cards) reads is =
      by_call (ImportCall book key cards) outcome
      (rows_legal spelled reads.kind reads.rows cards reads.represent.each) is
  of_body book key body outcome (Err refusal) reads is =
      subst (λ (o : Outcome). LeavesLegal o) (sym is) tt

  of_import : (book key body : List ℕ) (outcome : Outcome)
      (kept : Result (Option ImportTally) Refusal) → ImportsTo model book key body kept outcome
      → LeavesLegal outcome
  of_import book key body outcome (Err refusal) is =
      subst (λ (o : Outcome). LeavesLegal o) (sym is) tt
  of_import book key body outcome (Ok (Some kept)) is =
      subst (λ (o : Outcome). LeavesLegal o) (sym is) legal
  of_import book key body outcome (Ok None) is =
      of_body book key body outcome is.read is.read_is is.outcome_is

  of_outcome : (command : Command) (outcome : Outcome) → HasOutcome model command outcome
      → LeavesLegal outcome
  of_outcome (CreateBook book) outcome is = by_call (CreateBookCall book) outcome tt is
  of_outcome ListBooks outcome is = by_call BooksCall outcome tt is
  of_outcome (Get book uid) outcome is = by_call (GetCall book uid) outcome tt is
  of_outcome (Put book uid expect text) outcome is =
      of_put book uid text expect outcome is.read is.read_is is.outcome_is
  of_outcome (Remove book uid expect) outcome is =
      by_call (RemoveCall book uid expect) outcome tt is
  of_outcome (MoveCard book uid to expect) outcome is =
      by_call (MoveCall book to uid expect) outcome tt is
  of_outcome (Report book token limit) outcome is =
      of_report book limit outcome is.read is.outcome_is
  of_outcome (Import book key body) outcome is =
      of_import book key body outcome (kept_import_on_histories model.books book key) is
  of_outcome (Forget book upto) outcome is = by_call (ForgetCall book upto) outcome tt is
  of_outcome (TallyOf book) outcome is = by_call (TallyCall book) outcome tt is
  of_outcome (Export book form) outcome is = by_call (CardsCall book) outcome tt is
  of_outcome (People book uid) outcome is = subst (λ (o : Outcome). LeavesLegal o) (sym is)
      (after_any Then (get_on_histories model.books book uid) _ (λ stored.
      after_test Then (is_group (kind_of stored.card)) NotGroup _ (λ group.
      of_call (CardsCall book) tt)))

  of_delivered : (command : Command) (outcome : Outcome) (r : Reply) (next : BookHistories)
      → LeavesLegal outcome → DeliversOutcome command model.books outcome r next → AreLegal next
  of_delivered command (Ok done) r next all is = subst AreLegal (sym is.1) all
  of_delivered command (Err refusal) r next all is = subst AreLegal (sym is.1) legal

  of_command : (command : Command) (r : Reply) (next : BookHistories)
      → PerformsCommand model command r next → AreLegal next
  of_command command r next performs = ⊎_elim
      (λ done. of_delivered command done.outcome r next
      (of_outcome command done.outcome done.has_outcome) done.delivers)
      (λ fault. subst AreLegal (sym fault.2) legal) performs

-- ---- steps and runs

of_step : SpelledAreCards → (now next : SystemState) (event : Event) (r : Reply)
    → AreLegal now.model.books → Step now event r next → AreLegal next.model.books
of_step spelled now next (Do command) r legal s =
    subst AreLegal (sym (ap (λ (m : SystemState). m.model.books) s.2))
    (of_command spelled now.model legal command r s.0 s.1)
of_step spelled now next (Ask i limit) r legal s =
    subst AreLegal (sym (ap (λ (m : SystemState). m.model.books) s.next_is)) legal

of_run : SpelledAreCards → (now : SystemState) (run : List TraceStep) → AreLegal now.model.books
    → Run now run → AreLegal (end_of now run).model.books
of_run spelled now [] legal steps = legal
of_run spelled now (h ∷ run) legal steps = of_run spelled h.after run
    (of_step spelled now h.after h.event h.reply legal steps.0) steps.1

-- ---- rows

legal_histories : RowsArePerBook → (histories : BookHistories)
    → HasLegalCards (rows_of histories) → AreLegal histories
legal_histories rows histories legal name history found uid stored at =
    legal name uid (book_of_history history) stored
    (rows histories name ∙ ap (option_map book_of_history) found)
    (live_by_row history.log history.horizon uid ∙ at)

legal_rows : RowsArePerBook → (histories : BookHistories) → AreLegal histories
    → HasLegalCards (rows_of histories)
legal_rows rows histories legal name uid book stored found at =
    by (finite.get histories name) refl (sym (rows histories name) ∙ found)
  where
    by : (o : Option BookHistory) → finite.get histories name ≡ o
        → option_map book_of_history o ≡ Some book → IsCard stored.card
    by (Some history) is e =
        let own : book_of_history history ≡ book = same_Some (book_of_history history) book e in
        legal name history is uid stored
        (sym (live_by_row history.log history.horizon uid)
        ∙ ap (λ (b : Book). option_and_then stored_in_row (finite.get b.members uid)) own ∙ at)
    by None is e = absurd (no_card book e)

pub new_stores_have_legal_cards : NewStoresHaveLegalCards
new_stores_have_legal_cards name uid book stored found at =
    absurd (no_card book (sym (get-empty text_cmp name) ∙ found))

pub cards_stay_legal : RowsArePerBook → SpelledAreCards → CardsStayLegal
cards_stay_legal rows spelled now run legal steps =
    legal_rows rows (end_of now run).model.books
    (of_run spelled now run (legal_histories rows now.model.books legal) steps)
