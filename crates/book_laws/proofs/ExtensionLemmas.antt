-- Each call extends the histories: it adds events, raises a horizon, keeps an import, and does
-- nothing else. Given here: inductions over the calls and over the cards of an import; a case for
-- each call, by the tests of its step in their order (`by_named`, `by_given`); and where one
-- history was written, whether a name is its name.
use Rattle.std.proofs.Common.{◌≡◌, ℕ, ◌≤◌, ◌⊎◌, inl, inr, Bool, true, false, cond, not, List, []}
use Rattle.std.proofs.Common.{◌∷◌, ◌++◌, length, fold, Option, Some, None, Result, Ok, Err, is_some}
use Rattle.std.proofs.Common.{filter, refl, sym, ap, ◌∙◌, subst, ⊎_elim, append_assoc, arith}
use Rattle.std.specs.Option.{option_map_or}
use Rattle.std.specs.FinMap as finite
use Rattle.std.specs.FinMap.{get-insert}
use Rattle.std.proofs.lemmas.Bool.{cases_Bool, cond-true, cond-false, and_parts, leb-true}
use Rattle.std.proofs.lemmas.Option.{same_Some}
use Rattle.vcard_lines.specs.declared.line.Line.{Line}
use Rattle.vcard_text.specs.Cards.{uid_of}
use Rattle.book_model.specs.declared.answers.ImportTally.{ImportTally}
use Rattle.book_model.specs.declared.answers.Stored.{Stored}
use Rattle.book_model.specs.declared.change.Change.TheVariants.{Stores, TakesAway}
use Rattle.book_model.specs.declared.change.StoreReason.{StoreReason}
use Rattle.book_model.specs.declared.change.StoreReason.TheVariants.{Import, ImportEdit, MoveIn}
use Rattle.book_model.specs.declared.change.RemovalReason.TheVariants.{Deletion, MoveOut}
use Rattle.book_model.specs.declared.refusal.Refusal.{Refusal}
use Rattle.book_model.specs.declared.refusal.Refusal.TheVariants.{NoSuchBook, BadBookName}
use Rattle.book_model.specs.declared.refusal.Refusal.TheVariants.{BookExists, SameBook, BadKey}
use Rattle.book_model.specs.declared.refusal.Refusal.TheVariants.{BadForget}
use Rattle.book_model.specs.Bounds.{Bounds}
use Rattle.book_model.specs.BookNames.{is_legal_name}
use Rattle.book_model.specs.Books.{same_name}
use Rattle.book_laws.specs.Calls.{Call, CreateBookCall, PutCall, RemoveCall, MoveCall, ImportCall}
use Rattle.book_laws.specs.Calls.{ForgetCall, ReportCall, KeptImportCall, BooksCall, BookLineCall}
use Rattle.book_laws.specs.Calls.{GetCall, CardsCall, TallyCall, CallAnswer, ReturnedId}
use Rattle.book_laws.specs.Calls.{ReturnedPut, ReturnedRemoval, ReturnedMove, ReturnedImport}
use Rattle.book_laws.specs.Calls.{ReturnedDropped, ReturnedPage, ReturnedKeptImport}
use Rattle.book_laws.specs.Calls.{ReturnedBookLine, ReturnedCard, ReturnedCards, ReturnedTally}
use Rattle.book_laws.specs.Calls.{map_answer, answer_in_state, state_after_call}
use Rattle.book_laws.specs.Calls.{histories_after_call}
use Rattle.book_model.specs.Creating.{new_id}
use Rattle.book_model.specs.Forgetting.{may_forget}
use Rattle.book_laws.specs.EventLogs.{BookEvent, live, touched_uids}
use Rattle.book_model.specs.Importing.{Importing, import_state, import_card, import_tally}
use Rattle.book_model.specs.Importing.{is_legal_key, import_with_reason, import_reason}
use Rattle.book_model.specs.Moving.{move_answer}
use Rattle.book_model.specs.CallOutcomes.{◌>>=◌, refuse_unless}
use Rattle.book_model.specs.Putting.{put_answer, put_store_reason}
use Rattle.book_model.specs.Removing.{remove_number}
use Rattle.book_laws.specs.RunLaws.{CallsExtendHistories}
use Rattle.book_laws.specs.HistoryExtension.{Extends}
use Rattle.book_model.specs.SameCards.{same_card}
use Rattle.book_laws.specs.StoreHistories.{BookHistory, BookHistories}
use Rattle.book_laws.specs.HistoryChanges.{event, is_dropped_tombstone, live_in_history}
use Rattle.book_laws.specs.HistoryChanges.{history_with_stored_card, history_import}
use Rattle.book_laws.specs.HistoryChanges.{history_with_kept_import, import_on_histories_under}
use Rattle.book_laws.specs.HistoryChanges.{with_horizon, forget_on_histories, histories_after_move}
use Rattle.book_laws.specs.HistorySteps.{with_event, empty_history, history_named, found_in_history}
use Rattle.book_laws.specs.HistorySteps.{histories_after_put}
use Rattle.base_types.proofs.TextLemmas.{text_total, same-equal}
use Rattle.book_laws.proofs.RemovalCountLemmas.{LostAbove, event_loses}
use Rattle.book_laws.proofs.RememberLemmas.{by_event}

-- an accepted forget raised the book's horizon to this number
pub record Raised (limits : Bounds) (histories : BookHistories) (call : Call) (name : List ℕ)
    (upto : ℕ) : Type 0 where
  pub call_is : call ≡ ForgetCall name upto
  pub dropped : ℕ
  pub left : BookHistories
  pub accepted : forget_on_histories histories name upto ≡ Ok (dropped, left)

-- the horizon was raised by a forget, or by more removals than the book keeps tombstones
abbrev pub IsRaised : Bounds → BookHistories → Call → List ℕ → BookHistory → BookHistory → Type 0
IsRaised limits histories call name old new =
    Raised limits histories call name new.horizon ⊎ ((base : ℕ) → old.horizon ≤ base
    → LostAbove new base)

-- a history is extended, and its horizon is the same, or was raised
pub record Continues (limits : Bounds) (histories : BookHistories) (call : Call) (name : List ℕ)
    (old new : BookHistory) : Type 0 where
  pub extended_by : Extends old new
  pub horizon : (new.horizon ≡ old.horizon) ⊎ IsRaised limits histories call name old new

pub same_history : (history : BookHistory) → Extends history history
same_history history = record {
  id = refl;
  later = [];
  log = refl;
  horizon = omega arith;
  keep = refl;
  imports = λ key tally e. e;
}

pub extends_twice : (a b c : BookHistory) → Extends a b → Extends b c → Extends a c
extends_twice a b c p q = record {
  id = q.id ∙ p.id;
  later = q.later ++ p.later;
  log = q.log ∙ ap (λ h. q.later ++ h) p.log ∙ sym (append_assoc q.later p.later a.log);
  horizon = let x = p.horizon in let y = q.horizon in omega (arith, x, y);
  keep = q.keep ∙ p.keep;
  imports = λ key tally e. q.imports key tally (p.imports key tally e);
}

-- ---- from any histories to those after a call

module _ (limits : Bounds) (histories : BookHistories) (call : Call) where
  abbrev pub AllContinue : BookHistories → Type 0
  AllContinue new = (name : List ℕ) (history : BookHistory)
      → finite.get histories name ≡ Some history → (next : BookHistory)
      × (finite.get new name ≡ Some next) × Continues limits histories call name history next

  all_same : AllContinue histories
  all_same name history e = (
    history,
    e,
    record {
      extended_by = same_history history;
      horizon = inl refl;
    },
  )

  -- one history was written
  wrote_one : (new : BookHistories) (at : List ℕ) (old written : BookHistory)
      → ((name : List ℕ) → finite.get new name ≡ cond (same_name name at) (Some written)
      (finite.get histories name)) → finite.get histories at ≡ Some old
      → Continues limits histories call at old written → AllContinue new
  wrote_one new at old written get_new found c name history e = ⊎_elim
      (λ here.
      let name_is : name ≡ at = same-equal name at here in
      let history_is : old ≡ history =
      same_Some _ _ (sym found ∙ ap (finite.get histories) (sym name_is) ∙ e) in (
        written,
        get_new name ∙ cond-true _ _ _ here,
        subst (λ (s : BookHistory). Continues limits histories call name s written) history_is
            (subst (λ (n : List ℕ). Continues limits histories call n old written) (sym name_is) c),
      ))
      (λ other. (
        history,
        get_new name ∙ cond-false _ _ _ other
            ∙ e,
        record { extended_by = same_history history; horizon = inl refl },
      ))
      (cases_Bool (same_name name at))

  insert_one : (at : List ℕ) (old written : BookHistory) → finite.get histories at ≡ Some old
      → Continues limits histories call at old written
      → AllContinue (finite.insert histories at written)
  insert_one at old written found c = wrote_one (finite.insert histories at written) at old written
      (λ name. get-insert text_total histories at written name) found c

  plainly : (name : List ℕ) (old new : BookHistory) → Extends old new → new.horizon ≡ old.horizon
      → Continues limits histories call name old new
  plainly name old new g h = record { extended_by = g; horizon = inl h }

  by_any_event : (name : List ℕ) (old : BookHistory) (e : BookEvent)
      → Continues limits histories call name old (with_event old e)
  by_any_event name old e = record {
    extended_by = by_event old e;
    horizon = ⊎_elim (λ same. inl same) (λ lost. inr (inr lost)) (event_loses old e);
  }

  module _ {A : Type 0} (f : A → CallAnswer) where
    -- a step that has to find a book
    by_named : (name : List ℕ) (g : BookHistory → Result (A × BookHistories) Refusal)
        → ((history : BookHistory) → finite.get histories name ≡ Some history
        → AllContinue (state_after_call histories (map_answer f (g history))))
        → AllContinue (state_after_call histories
        (map_answer f (history_named histories name >>= g)))
    by_named name g each = by_history (finite.get histories name) each
      where
        by_history : (o : Option BookHistory) → ((history : BookHistory) → o ≡ Some history
            → AllContinue (state_after_call histories (map_answer f (g history))))
            → AllContinue (state_after_call histories
            (map_answer f (option_map_or Ok o (Err NoSuchBook) >>= g)))
        by_history (Some history) each = each history refl
        by_history None each = all_same

    -- one that has to be given something
    by_given : {B : Type 0} (given : Result B Refusal) (g : B → Result (A × BookHistories) Refusal)
        → ((x : B) → given ≡ Ok x → AllContinue (state_after_call histories (map_answer f (g x))))
        → AllContinue (state_after_call histories (map_answer f (given >>= g)))
    by_given (Ok x) g each = each x refl
    by_given (Err refusal) g each = all_same

    by_test : (test : Bool) (refusal : Refusal) (g : Result (A × BookHistories) Refusal)
        → (test ≡ true → AllContinue (state_after_call histories (map_answer f g)))
        → AllContinue (state_after_call histories
        (map_answer f (refuse_unless test refusal >>= λ _. g)))
    by_test true refusal g each = each refl
    by_test false refusal g each = all_same

  by_reading : {A : Type 0} (f : A → CallAnswer) (reading : Result A Refusal)
      → AllContinue (state_after_call histories (answer_in_state f histories reading))
  by_reading f (Ok returned) = all_same
  by_reading f (Err refusal) = all_same

-- ---- an import, card by card

over_extends : (state : Importing BookHistory) (card : List Line) (found : Option Stored)
    → (Extends state.book (import_with_reason history_with_stored_card state card
    (import_reason card found)).book)
    × ((import_with_reason history_with_stored_card state card
    (import_reason card found)).book.horizon ≡ state.book.horizon)
over_extends state card None = (
  by_event state.book (event (uid_of card) (Stores card Import)),
  refl,
)
over_extends state card (Some stored) =
    elim (same_card stored.card card) as
    (λ b. Extends state.book (import_with_reason history_with_stored_card state card
    (cond b None (Some ImportEdit))).book
    × ((import_with_reason history_with_stored_card state card
    (cond b None (Some ImportEdit))).book.horizon ≡ state.book.horizon)) [
      | true ↦ (same_history state.book, refl)
      | false ↦ (by_event state.book (event (uid_of card) (Stores card ImportEdit)), refl)
    ]

cards_extend : (cards : List (List Line)) (state : Importing BookHistory)
    → Extends state.book (fold (import_card live_in_history history_with_stored_card) state
    cards).book × ((fold (import_card live_in_history history_with_stored_card) state
    cards).book.horizon ≡ state.book.horizon)
cards_extend [] state = (same_history state.book, refl)
cards_extend (card ∷ cards) state =
    let next = import_card live_in_history history_with_stored_card state card in
    let one = over_extends state card (live_in_history state.book (uid_of card)) in
    let rest = cards_extend cards next in (
      extends_twice state.book next.book
          (fold (import_card live_in_history history_with_stored_card)
          next cards).book one.0 rest.0,
      rest.1 ∙ one.1,
    )

-- a tally that is kept under a new key doesn't change the others
keeping_extends : (history : BookHistory) (key : List ℕ) (tally : ImportTally)
    → finite.get history.imports key ≡ None
    → Extends history (history_with_kept_import history key tally)
keeping_extends history key tally none = record {
  id = refl;
  later = [];
  log = refl;
  horizon = omega arith;
  keep = refl;
  imports = λ other kept e. get-insert text_total history.imports key tally other
      ∙ cond-false (same_name other key) (Some tally) (finite.get history.imports other)
      (differs other kept e) ∙ e;
}
  where
    differs : (other : List ℕ) (kept : ImportTally) → finite.get history.imports other ≡ Some kept
        → same_name other key ≡ false
    differs other kept e = ⊎_elim
        (λ here. absurd (no (sym none ∙ ap (finite.get history.imports)
        (sym (same-equal other key here)) ∙ e)))
        (λ there. there)
        (cases_Bool (same_name other key))
      where
        no : ◌≡◌ {A = Option ImportTally} None (Some kept) → ⊥
        no n = cc

pub import_extends : (history : BookHistory) (cards : List (List Line))
    → Extends history (history_import history cards).book
    × ((history_import history cards).book.horizon ≡ history.horizon)
import_extends history cards = cards_extend cards (import_state history 0 0 0)

-- an import doesn't change the kept keys
imports_same : (cards : List (List Line)) (state : Importing BookHistory)
    → (fold (import_card live_in_history history_with_stored_card) state cards).book.imports
    ≡ state.book.imports
imports_same [] state = refl
imports_same (card ∷ cards) state =
    imports_same cards (import_card live_in_history history_with_stored_card state card)
    ∙ one (live_in_history state.book (uid_of card))
  where
    one : (found : Option Stored) → (import_with_reason history_with_stored_card state card
        (import_reason card found)).book.imports ≡ state.book.imports
    one None = refl
    one (Some stored) = elim (same_card stored.card card) as
        (λ b. (import_with_reason history_with_stored_card state card
        (cond b None (Some ImportEdit))).book.imports ≡ state.book.imports) [
          | true ↦ refl
          | false ↦
              refl
        ]

-- ---- each call

-- where one name has no history, the name of a history is a different one
apart : (histories : BookHistories) (name other : List ℕ) (history : BookHistory)
    → finite.get histories name ≡ None → finite.get histories other ≡ Some history
    → same_name other name ≡ false
apart histories name other history none e = ⊎_elim
    (λ here. absurd (no (sym none ∙ ap (finite.get histories) (sym (same-equal other name here))
    ∙ e)))
    (λ there. there)
    (cases_Bool (same_name other name))
  where
    no : ◌≡◌ {A = Option BookHistory} None (Some history) → ⊥
    no n = cc

not_there : (o : Option BookHistory) (refusal : Refusal) (r : Result ℕ Refusal) (id : ℕ)
    → (refuse_unless (not (is_some o)) refusal >>= λ _. r) ≡ Ok id → o ≡ None
not_there None refusal r id e = refl
not_there (Some history) refusal r id e = absurd (no e)
  where
    no : ◌≡◌ {A = Result ℕ Refusal} (Err refusal) (Ok id) → ⊥
    no n = cc

past_first : (test : Bool) (refusal : Refusal) (r : Result ℕ Refusal) (id : ℕ)
    → (refuse_unless test refusal >>= λ _. r) ≡ Ok id → r ≡ Ok id
past_first true refusal r id e = e
past_first false refusal r id e = absurd (no e)
  where
    no : ◌≡◌ {A = Result ℕ Refusal} (Err refusal) (Ok id) → ⊥
    no n = cc

pub call_continues : (limits : Bounds) (histories : BookHistories) (call : Call)
    → AllContinue limits histories call (histories_after_call limits histories call)
call_continues limits histories (CreateBookCall name) =
    let call = CreateBookCall name in
    by_given limits histories call ReturnedId
    (new_id limits name (finite.contains_key histories name) (finite.len histories)) _
    (λ id given other history e.
    let none : finite.get histories name ≡ None =
    not_there (finite.get histories name) BookExists _ id (past_first (is_legal_name name)
    BadBookName _ id given) in
    let differs : same_name other name ≡ false = apart histories name other history none e in (
      history,
      get-insert text_total histories name (empty_history id limits.keep) other
          ∙ cond-false _ _ _ differs ∙ e,
      plainly limits histories call other history history (same_history history) refl,
    ))
call_continues limits histories (PutCall name card expect) =
    let call = PutCall name card expect in
    by_named limits histories call ReturnedPut name _ (λ history found.
    by_given limits histories call ReturnedPut
    (put_answer limits (found_in_history history.log (uid_of card)) card expect) _
    (λ answer given.
    by_reason history found (put_store_reason answer)))
  where
    by_reason : (history : BookHistory) → finite.get histories name ≡ Some history
        → (why : Option StoreReason) → AllContinue limits histories (PutCall name card expect)
        (histories_after_put histories name history card why)
    by_reason history found None = all_same limits histories (PutCall name card expect)
    by_reason history found (Some why) =
        let e = event (uid_of card) (Stores card why) in
        insert_one limits histories (PutCall name card expect) name history (with_event history e)
        found (plainly limits histories (PutCall name card expect) name history
        (with_event history e) (by_event history e) refl)
call_continues limits histories (RemoveCall name uid expect) =
    let call = RemoveCall name uid expect in
    let e = event uid (TakesAway Deletion) in
    by_named limits histories call ReturnedRemoval name _ (λ history found.
    by_given limits histories call ReturnedRemoval
    (remove_number limits (found_in_history history.log uid) expect) _ (λ number given.
    insert_one limits histories call name history (with_event history e) found
    (by_any_event limits histories call name history e)))
call_continues limits histories (MoveCall from to uid expect) =
    let call = MoveCall from to uid expect in
    by_named limits histories call ReturnedMove from _ (λ source at.
    by_named limits histories call ReturnedMove to _ (λ target at'.
    by_test limits histories call ReturnedMove (not (same_name from to)) SameBook _ (λ apart.
    by_given limits histories call ReturnedMove
    (move_answer limits (found_in_history source.log uid) (found_in_history target.log uid)
    expect) _ (λ moving given.
    both source target at at' moving.card))))
  where
    left : BookEvent
    left = event uid (TakesAway MoveOut)

    both : (source target : BookHistory) → finite.get histories from ≡ Some source
        → finite.get histories to ≡ Some target → (card : List Line)
        → AllContinue limits histories (MoveCall from to uid expect) (histories_after_move histories
        from to uid source target card)
    both source target at at' card name history e = ⊎_elim
        (λ here.
        let history_is : source ≡ history =
        same_Some _ _ (sym at ∙ ap (finite.get histories) (sym (same-equal name from here))
        ∙ e) in (
          with_event source left,
          get-insert text_total first from (with_event source left) name ∙ cond-true _ _ _ here,
          subst (λ (s : BookHistory). Continues limits histories (MoveCall from to uid expect) name
              s (with_event source left)) history_is (by_any_event limits histories
              (MoveCall from to uid expect) name source left),
        ))
        (λ other.
        let rest = insert_one limits histories (MoveCall from to uid expect) to target
        (with_event target came) at' (plainly limits histories (MoveCall from to uid expect) to
        target (with_event target came) (by_event target came) refl) name history e in (
          rest.0,
          get-insert text_total first from (with_event source left) name
              ∙ cond-false _ _ _ other ∙ rest.1,
          rest.2,
        ))
        (cases_Bool (same_name name from))
      where
        came : BookEvent
        came = event uid (Stores card MoveIn)

        first : BookHistories
        first = finite.insert histories to (with_event target came)
call_continues limits histories (ImportCall name key cards) =
    let call = ImportCall name key cards in
    by_named limits histories call ReturnedImport name _ (λ history found.
    by_test limits histories call ReturnedImport (is_legal_key key) BadKey _ (λ legal.
    by_kept history found (finite.get history.imports key) refl))
  where
    by_kept : (history : BookHistory) → finite.get histories name ≡ Some history
        → (kept : Option ImportTally) → finite.get history.imports key ≡ kept
        → AllContinue limits histories (ImportCall name key cards) (state_after_call histories
        (map_answer ReturnedImport (import_on_histories_under limits histories name history key
        cards kept)))
    by_kept history found (Some kept) e = all_same limits histories (ImportCall name key cards)
    by_kept history found None e =
        let done = (history_import history cards).book in
        let goes = import_extends history cards in
        by_given limits histories (ImportCall name key cards) ReturnedImport
        (import_tally limits (history_import history cards) (finite.len (live done.log))
        (length done.log)) _ (λ tally given.
        insert_one limits histories (ImportCall name key cards) name history
        (history_with_kept_import done key tally) found
        (plainly limits histories (ImportCall name key cards) name history
        (history_with_kept_import done key tally)
        (extends_twice history done (history_with_kept_import done key tally) goes.0
        (keeping_extends done key tally (ap (λ m. finite.get m key)
        (imports_same cards (import_state history 0 0 0)) ∙ e))) goes.1))
call_continues limits histories (ForgetCall name upto) =
    let call = ForgetCall name upto in
    by_named limits histories call ReturnedDropped name _ (λ history found.
    by_test limits histories call ReturnedDropped (may_forget history.horizon (length history.log)
    upto) BadForget _ (λ allowed.
    let rises : history.horizon ≤ upto = leb-true _ _ (and_parts _ _ allowed).0 in
    insert_one limits histories call name history (with_horizon history upto) found (record {
      extended_by = record {
        id = refl;
        later = [];
        log = refl;
        horizon = rises;
        keep = refl;
        imports = λ k t e. e;
      };
      horizon =
          inr (inl (record {
            call_is = refl;
            dropped = length (filter (is_dropped_tombstone history upto)
                (touched_uids history.log));
            left = finite.insert histories name (with_horizon history upto);
            accepted = forgets history found allowed;
          }));
    })))
  where
    forgets : (history : BookHistory) → finite.get histories name ≡ Some history
        → may_forget history.horizon (length history.log) upto ≡ true
        → forget_on_histories histories name upto
        ≡ Ok (
          length (filter (is_dropped_tombstone history upto) (touched_uids history.log)),
          finite.insert histories name (with_horizon history upto),
        )
    forgets history found allowed =
        ap (λ (o : Option BookHistory). option_map_or Ok o (Err NoSuchBook) >>= rest) found
        ∙ ap (λ b. refuse_unless b BadForget >>= λ _. Ok (
          length (filter (is_dropped_tombstone history upto) (touched_uids history.log)),
          finite.insert histories name (with_horizon history upto),
        )) allowed
      where
        rest : BookHistory → Result (ℕ × BookHistories) Refusal
        rest s = refuse_unless (may_forget s.horizon (length s.log) upto) BadForget >>= λ _. Ok (
          length (filter (is_dropped_tombstone s upto) (touched_uids s.log)),
          finite.insert histories name (with_horizon s upto),
        )
call_continues limits histories (ReportCall name token limit) =
    by_reading limits histories (ReportCall name token limit) ReturnedPage _
call_continues limits histories (KeptImportCall name key) =
    by_reading limits histories (KeptImportCall name key) ReturnedKeptImport _
call_continues limits histories BooksCall = all_same limits histories BooksCall
call_continues limits histories (BookLineCall name) =
    by_reading limits histories (BookLineCall name) ReturnedBookLine _
call_continues limits histories (GetCall name uid) =
    by_reading limits histories (GetCall name uid) ReturnedCard _
call_continues limits histories (CardsCall name) =
    by_reading limits histories (CardsCall name) ReturnedCards _
call_continues limits histories (TallyCall name) =
    by_reading limits histories (TallyCall name) ReturnedTally _

-- ---- lists of calls

pub calls_extend_histories : CallsExtendHistories
calls_extend_histories limits histories [] name history e = (history, e, same_history history)
calls_extend_histories limits histories (call ∷ calls) name history e =
    let one = call_continues limits histories call name history e in
    let rest = calls_extend_histories limits (histories_after_call limits histories call) calls name
    one.0 one.1 in
    (rest.0, rest.1, extends_twice history one.0 rest.0 one.2.extended_by rest.2)
