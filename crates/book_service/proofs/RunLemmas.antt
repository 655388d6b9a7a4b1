-- A command is at most one store call, and only `Forget` forgets.
use Rattle.std.proofs.Common.{◌≡◌, ℕ, Bool, true, false, List, [], ◌∷◌, ◌++◌, Option, Some, None}
use Rattle.std.proofs.Common.{Result, Ok, Err, refl, sym, ap, ◌∙◌, subst, ⊎_elim, inl, inr, ◌⊎◌}
use Rattle.std.specs.FinMap as finite
use Rattle.vcard_text.specs.Cards.{kind_of}
use Rattle.vcard_text.specs.FirstFaults.{is_group}
use Rattle.vcard_lines.specs.declared.line.Line.{Line}
use Rattle.book_model.specs.declared.answers.ImportTally.{ImportTally}
use Rattle.book_model.specs.declared.answers.Stored.{Stored}
use Rattle.book_model.specs.declared.refusal.Refusal.{Refusal}
use Rattle.book_model.specs.declared.refusal.Refusal.TheVariants.{BadKey, NotGroup}
use Rattle.book_model.specs.Bounds.{Bounds}
use Rattle.book_model.specs.Importing.{is_legal_key}
use Rattle.book_model.specs.CallOutcomes.{◌>>=◌, refuse_unless}
use Rattle.book_laws.specs.Calls.{Call, CreateBookCall, PutCall, RemoveCall, MoveCall, ImportCall}
use Rattle.book_laws.specs.Calls.{ForgetCall, ReportCall, KeptImportCall, BooksCall, BookLineCall}
use Rattle.book_laws.specs.Calls.{GetCall, CardsCall, TallyCall, ReturnedImport, ReturnedDropped}
use Rattle.book_laws.specs.Calls.{call_on_histories, map_answer, state_after_call}
use Rattle.book_laws.specs.Calls.{histories_after_call, histories_after_calls}
use Rattle.book_laws.specs.HistoryChanges.{forget_on_histories, import_on_histories}
use Rattle.book_laws.specs.HistoryChanges.{import_on_histories_under}
use Rattle.book_laws.specs.HistoryQueries.{get_on_histories, kept_import_on_histories}
use Rattle.book_laws.specs.StoreHistories.{BookHistory, BookHistories, StoreHistory}
use Rattle.book_laws.specs.HistorySteps.{history_named}
use Rattle.book_commands.specs.declared.command.Command.{Command}
use Rattle.book_commands.specs.declared.command.Command.TheVariants.{CreateBook, Books as ListBooks}
use Rattle.book_commands.specs.declared.command.Command.TheVariants.{Get, Put, Remove, MoveCard}
use Rattle.book_commands.specs.declared.command.Command.TheVariants.{Report, Import, Forget}
use Rattle.book_commands.specs.declared.command.Command.TheVariants.{TallyOf, Export, People}
use Rattle.book_service.specs.declared.event.Event.{Event}
use Rattle.book_service.specs.declared.event.Event.TheVariants.{Do}
use Rattle.book_commands.specs.declared.reply.Reply.{Reply}
use Rattle.book_commands.specs.declared.reply.Reply.TheVariants as reply
use Rattle.book_service.specs.Commands.{Outcome, IsCallWithText, outcome_with, import_outcome}
use Rattle.book_service.specs.Commands.{ImportsTo, HasOutcome, DeliversOutcome, PerformsCommand}

-- the call makes a book forget
abbrev pub forgets : Call → Bool
forgets (CreateBookCall name) = false
forgets (PutCall name card expect) = false
forgets (RemoveCall name uid expect) = false
forgets (MoveCall from to uid expect) = false
forgets (ImportCall name key cards) = false
forgets (ForgetCall name upto) = true
forgets (ReportCall name token limit) = false
forgets (KeptImportCall name key) = false
forgets BooksCall = false
forgets (BookLineCall name) = false
forgets (GetCall name uid) = false
forgets (CardsCall name) = false
forgets (TallyCall name) = false

-- calls lead from the one to the other
pub record Leads (limits : Bounds) (old new : BookHistories) : Type 0 where
  pub calls : List Call
  pub new_is : new ≡ histories_after_calls limits old calls

-- the same, and if one of them was a successful forget, the event was that command
pub record EventLeads (limits : Bounds) (old new : BookHistories) (event : Event) (r : Reply) :
    Type 0 where
  pub leads : Leads limits old new
  pub forgot : (earlier later : List Call) (name : List ℕ) (upto dropped : ℕ) (left : BookHistories)
      → leads.calls ≡ earlier ++ ForgetCall name upto ∷ later
      → forget_on_histories (histories_after_calls limits old earlier) name upto ≡ Ok (
        dropped,
        left,
      ) → (event ≡ Do (Forget name upto)) × (r ≡ reply.Forgot dropped upto)

-- ---- one command

pub none_there : {P : Type 0} (call : Call) (earlier later : List Call)
    → [] ≡ earlier ++ call ∷ later → P
none_there call [] later is = absurd (let no : [] ≡ call ∷ later = is in cc)
none_there call (first ∷ earlier) later is =
    absurd (let no : [] ≡ first ∷ (earlier ++ call ∷ later) = is in cc)

-- one call is the first of one
one_there : (own call : Call) (earlier later : List Call) → own ∷ [] ≡ earlier ++ call ∷ later
    → (earlier ≡ []) × (own ≡ call)
one_there own call [] later is = (refl, let same : own ≡ call = cc in same)
one_there own call (first ∷ earlier) later is =
    none_there call earlier later (let rest : [] ≡ earlier ++ call ∷ later = cc in rest)

pub leads_nowhere_by : (limits : Bounds) (old new : BookHistories) (event : Event) (r : Reply)
    → new ≡ old → EventLeads limits old new event r
leads_nowhere_by limits old new event r same = record {
  leads = record { calls = []; new_is = same };
  forgot = λ earlier later name upto dropped left is accepted. none_there (ForgetCall name upto)
      earlier later is;
}

-- a command's outcome is that of a call, which forgets only if the command does
record OneCall (model : StoreHistory) (command : Command) (outcome : Outcome) : Type 0 where
  call : Call
  has_outcome : outcome ≡ call_on_histories model.limits model.books call
  own : (name : List ℕ) (upto : ℕ) → call ≡ ForgetCall name upto → command ≡ Forget name upto

-- or a refusal
abbrev OneCallOrNone : StoreHistory → Command → Outcome → Type 0
OneCallOrNone model command outcome = OneCall model command outcome
    ⊎ ((refusal : Refusal) × (outcome ≡ Err refusal))

module _ (model : StoreHistory) (outcome : Outcome) (command : Command) where
  never : (call : Call) → forgets call ≡ false → (name : List ℕ) (upto : ℕ)
      → call ≡ ForgetCall name upto → command ≡ Forget name upto
  never call not name upto is = absurd (let no : true ≡ false = ap forgets (sym is) ∙ not in cc)

  by_call : (call : Call) → forgets call ≡ false
      → outcome ≡ call_on_histories model.limits model.books call
      → OneCallOrNone model command outcome
  by_call call not is = inl (record { call = call; has_outcome = is; own = never call not })

  with_text : {A : Type 0} (book : List ℕ) (reads : Result A Refusal → Type 0) (call : A → Call)
      → ((x : A) → forgets (call x) ≡ false) → IsCallWithText model book reads call outcome
      → OneCallOrNone model command outcome
  with_text {A = A} book reads call keeps is = by_read is.read is.outcome_is
    where
      by_history : (named : Result BookHistory Refusal) (refusal : Refusal)
          → outcome ≡ (named >>= λ history. Err refusal) → OneCallOrNone model command outcome
      by_history (Ok history) refusal same = inr (refusal, same)
      by_history (Err other) refusal same = inr (other, same)

      by_read : (read : Result A Refusal) → outcome ≡ outcome_with model book call read
          → OneCallOrNone model command outcome
      by_read (Ok x) same = by_call (call x) (keeps x) same
      by_read (Err refusal) same = by_history (history_named model.books book) refusal same

-- with a stored result under the key, an import of any cards returns it
pub kept_answers : (limits : Bounds) (histories : BookHistories) (name key : List ℕ) (cards :
    List (List Line)) (kept : ImportTally) → kept_import_on_histories histories name key
    ≡ Ok (Some kept)
    → import_on_histories limits histories name key cards ≡ Ok (kept, histories)
kept_answers limits histories name key cards kept is = by_history (history_named histories name) is
  where
    by_key : (history : BookHistory) (test : Result (Unit {0}) Refusal)
        → (test >>= λ legal. Ok (finite.get history.imports key)) ≡ Ok (Some kept)
        → (test >>= λ legal. import_on_histories_under limits histories name history key cards
        (finite.get history.imports key)) ≡ Ok (kept, histories)
    by_key history (Ok legal) same =
        let found : finite.get history.imports key ≡ Some kept = cc in
        ap (import_on_histories_under limits histories name history key cards) found
    by_key history (Err refusal) same = absurd (let no : Err refusal ≡ Ok (Some kept) = same in cc)

    by_history : (named : Result BookHistory Refusal)
        → (named >>= λ history. refuse_unless (is_legal_key key) BadKey >>= λ legal. Ok
        (finite.get history.imports key)) ≡ Ok (Some kept)
        → (named >>= λ history. refuse_unless (is_legal_key key) BadKey >>= λ legal.
        import_on_histories_under limits histories name history key cards
        (finite.get history.imports key)) ≡ Ok (kept, histories)
    by_history (Ok history) same = by_key history (refuse_unless (is_legal_key key) BadKey) same
    by_history (Err refusal) same = absurd (let no : Err refusal ≡ Ok (Some kept) = same in cc)

means_call : (model : StoreHistory) (outcome : Outcome) (command : Command)
    → HasOutcome model command outcome → OneCallOrNone model command outcome
means_call model outcome (CreateBook book) is =
    by_call model outcome (CreateBook book) (CreateBookCall book) refl is
means_call model outcome ListBooks is = by_call model outcome ListBooks BooksCall refl is
means_call model outcome (Get book uid) is =
    by_call model outcome (Get book uid) (GetCall book uid) refl is
means_call model outcome (Put book uid expect text) is =
    with_text model outcome (Put book uid expect text) book _ _ (λ card. refl) is
means_call model outcome (Remove book uid expect) is =
    by_call model outcome (Remove book uid expect) (RemoveCall book uid expect) refl is
means_call model outcome (MoveCard book uid to expect) is =
    by_call model outcome (MoveCard book uid to expect) (MoveCall book to uid expect) refl is
means_call model outcome (Report book token limit) is =
    with_text model outcome (Report book token limit) book _ _ (λ from. refl) is
means_call model outcome (Forget book upto) is = inl (record {
  call = ForgetCall book upto;
  has_outcome = is;
  own = λ name number same. let own : Forget book upto ≡ Forget name number = cc in own;
})
means_call model outcome (Import book key body) is =
    by_kept (kept_import_on_histories model.books book key) refl is
  where
    by_read : (read : Result (List (List Line)) Refusal)
        → outcome ≡ import_outcome model book key read
        → OneCallOrNone model (Import book key body) outcome
    by_read (Ok cards) same = by_call model outcome (Import book key body)
        (ImportCall book key cards) refl same
    by_read (Err refusal) same = inr (refusal, same)

    by_kept : (kept : Result (Option ImportTally) Refusal)
        → kept_import_on_histories model.books book key ≡ kept
        → ImportsTo model book key body kept outcome
        → OneCallOrNone model (Import book key body) outcome
    by_kept (Err refusal) there same = inr (refusal, same)
    by_kept (Ok (Some kept)) there same =
        by_call model outcome (Import book key body) (ImportCall book key []) refl
        (same ∙ sym (ap (map_answer ReturnedImport) (kept_answers model.limits model.books book key
        [] kept there)))
    by_kept (Ok None) there imported = by_read imported.read imported.outcome_is
means_call model outcome (TallyOf book) is =
    by_call model outcome (TallyOf book) (TallyCall book) refl is
means_call model outcome (Export book form) is =
    by_call model outcome (Export book form) (CardsCall book) refl is
means_call model outcome (People book uid) is = by_card (get_on_histories model.books book uid) is
  where
    by_group : (test : Result (Unit {0}) Refusal)
        → outcome ≡ (test >>= λ group. call_on_histories model.limits model.books (CardsCall book))
        → OneCallOrNone model (People book uid) outcome
    by_group (Ok group) same = by_call model outcome (People book uid) (CardsCall book) refl same
    by_group (Err refusal) same = inr (refusal, same)

    by_card : (found : Result Stored Refusal)
        → outcome ≡ (found >>= λ stored. refuse_unless (is_group (kind_of stored.card)) NotGroup >>=
        λ group. call_on_histories model.limits model.books (CardsCall book))
        → OneCallOrNone model (People book uid) outcome
    by_card (Ok stored) same = by_group (refuse_unless (is_group (kind_of stored.card)) NotGroup)
        same
    by_card (Err refusal) same = inr (refusal, same)

books_after : (command : Command) (old new : BookHistories) (outcome : Outcome) (r : Reply)
    → DeliversOutcome command old outcome r new → new ≡ state_after_call old outcome
books_after command old new (Ok done) r delivers = delivers.1
books_after command old new (Err refusal) r delivers = delivers.1

module _ (model : StoreHistory) (command : Command) (r : Reply) (next : BookHistories) (outcome :
    Outcome) (delivers : DeliversOutcome command model.books outcome r next) where
  -- a successful forget has its own reply
  forgot_by : (one : OneCall model command outcome) (earlier later : List Call) (name : List ℕ)
      (upto dropped : ℕ) (left : BookHistories) → one.call ∷ [] ≡ earlier ++ ForgetCall name upto ∷
      later
      → forget_on_histories (histories_after_calls model.limits model.books earlier) name upto
      ≡ Ok (dropped, left) → (Do command ≡ Do (Forget name upto))
      × (r ≡ reply.Forgot dropped upto)
  forgot_by one earlier later name upto dropped left is accepted =
      let there = one_there one.call (ForgetCall name upto) earlier later is in
      let own : command ≡ Forget name upto = one.own name upto there.1 in
      let here : forget_on_histories model.books name upto ≡ Ok (dropped, left) =
      subst (λ (calls : List Call). forget_on_histories (histories_after_calls model.limits
      model.books calls) name upto ≡ Ok (dropped, left)) there.0 accepted in
      let outcome_is : outcome ≡ Ok (ReturnedDropped dropped, left) = one.has_outcome
      ∙ ap (call_on_histories model.limits model.books) there.1
      ∙ ap (λ (step : Result (ℕ × BookHistories) Refusal). map_answer ReturnedDropped step)
      here in
      let received : DeliversOutcome command model.books (Ok (ReturnedDropped dropped, left)) r
      next = subst (λ (m : Outcome). DeliversOutcome command model.books m r next) outcome_is
      delivers in (
        ap (λ (c : Command). Do c) own,
        (subst (λ (c : Command). DeliversOutcome c model.books (Ok (
          ReturnedDropped dropped,
          left,
        )) r next) own received).0,
      )

  one_leads : OneCall model command outcome → EventLeads model.limits model.books next (Do command)
      r
  one_leads one = record {
    leads = record {
      calls = one.call ∷ [];
      new_is = books_after command model.books next outcome r delivers
          ∙ ap (state_after_call model.books) one.has_outcome;
    };
    forgot = forgot_by one;
  }

  none_leads : (refusal : Refusal) × (outcome ≡ Err refusal)
      → EventLeads model.limits model.books next (Do command) r
  none_leads refused = leads_nowhere_by model.limits model.books next (Do command) r
      (books_after command model.books next outcome r delivers
      ∙ ap (state_after_call model.books) refused.1)

pub performs_leads : (model : StoreHistory) (command : Command) (r : Reply) (next : BookHistories)
    → PerformsCommand model command r next → EventLeads model.limits model.books next (Do command) r
performs_leads model command r next p =
    ⊎_elim
    (λ done. ⊎_elim (one_leads model command r next done.outcome done.delivers)
    (none_leads model command r next done.outcome done.delivers) (means_call model done.outcome
    command done.has_outcome))
    (λ fault. leads_nowhere_by model.limits model.books next (Do command) r fault.2)
    p

-- ---- sequences of steps

pub after_more : (limits : Bounds) (old : BookHistories) (calls more : List Call)
    → histories_after_calls limits old (calls ++ more) ≡ histories_after_calls limits
    (histories_after_calls limits old calls) more
after_more limits old [] more = refl
after_more limits old (call ∷ calls) more =
    after_more limits (histories_after_call limits old call) calls more

pub leads_on : (limits : Bounds) (old mid new : BookHistories) → Leads limits old mid
    → Leads limits mid new → Leads limits old new
leads_on limits old mid new a b = record {
  calls = a.calls ++ b.calls;
  new_is = b.new_is ∙ ap (λ (s : BookHistories). histories_after_calls limits s b.calls) a.new_is
      ∙ sym (after_more limits old a.calls b.calls);
}

pub leads_nowhere : (limits : Bounds) (old new : BookHistories) → new ≡ old → Leads limits old new
leads_nowhere limits old new same = record { calls = []; new_is = same }
