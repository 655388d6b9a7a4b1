-- How long the book of a page accepts the page's token. Given here: inductions over the steps of a
-- run: for its calls (`run_calls`), and for the step at which a forget among them was made
-- (`forgot_at`), by where two joined lists are cut (`split`).
use Rattle.std.proofs.Common.{refl, ◌≡◌, ℕ, ◌<◌, List, [], ◌∷◌, ◌++◌, Option, Some, None, Result}
use Rattle.std.proofs.Common.{Ok, Err, sym, ap, ◌∙◌, subst, ⊎_elim, inl, inr, ◌⊎◌}
use Rattle.std.proofs.lemmas.Option.{same_Some}
use Rattle.book_model.specs.declared.page.Page.{Page as SyncPage}
use Rattle.book_model.specs.declared.denied.Fault.{Fault}
use Rattle.book_model.specs.declared.refusal.Refusal.{Refusal}
use Rattle.book_model.specs.declared.refusal.Refusal.TheVariants.{BadToken}
use Rattle.book_model.specs.declared.refusal.TokenCause.{TokenCause}
use Rattle.book_model.specs.declared.refusal.TokenCause.TheVariants.{TooOld}
use Rattle.book_model.specs.declared.token.Token.{Token}
use Rattle.book_model.specs.Bounds.{Bounds}
use Rattle.book_model.specs.Devices.{DeviceState}
use Rattle.book_laws.specs.Calls.{Call, ForgetCall, ReturnedPage, ReportCall, answer_in_state}
use Rattle.book_laws.specs.Calls.{histories_after_calls}
use Rattle.book_laws.specs.RemovalCounts.{RemovalsExceedKeep}
use Rattle.book_laws.specs.TokenLaws.{TokensStayValid}
use Rattle.book_model.specs.Pages.{token_of}
use Rattle.book_laws.specs.HistoryChanges.{forget_on_histories}
use Rattle.book_laws.specs.HistorySteps.{report_on_histories}
use Rattle.book_laws.specs.StoreHistories.{BookHistories, IsSoundStoreHistory}
use Rattle.sync_core.specs.TokenTextLaws.{TokenTextsAreUnique}
use Rattle.sync_core.specs.TokenTexts.{IsTokenText, token_octets}
use Rattle.book_commands.specs.declared.command.Command.{Command}
use Rattle.book_commands.specs.declared.command.Command.TheVariants.{CreateBook, Books as ListBooks}
use Rattle.book_commands.specs.declared.command.Command.TheVariants.{Get, Put, Remove, MoveCard}
use Rattle.book_commands.specs.declared.command.Command.TheVariants.{Report, Import, Forget}
use Rattle.book_commands.specs.declared.command.Command.TheVariants.{TallyOf, Export, People}
use Rattle.book_service.specs.declared.event.Event.{Event}
use Rattle.book_service.specs.declared.event.Event.TheVariants.{Do, Ask}
use Rattle.book_commands.specs.declared.reply.Reply.{Reply}
use Rattle.book_commands.specs.declared.reply.Reply.TheVariants as reply
use Rattle.book_service.specs.DeviceReplies.{HandlesReply}
use Rattle.book_service.specs.Faults.{IsFault}
use Rattle.book_service.specs.Commands.{Outcome, outcome_with, DeliversOutcome, PerformsCommand}
use Rattle.book_service.specs.Promise.{RequestsPageAfter, AtSomeStep, ForgetsAbove, TokensExpire}
use Rattle.book_service.specs.Runs.{SystemState, Step, TraceStep, Run, end_of}
use Rattle.book_service.specs.Mirrors.{report_at}
use Rattle.book_service.specs.Texts.{ReadsToken}
use Rattle.book_service.proofs.RunLemmas.{after_more}
use Rattle.book_service.proofs.StepLemmas.{event_leads, step_leads, step_limits, steps_keep_sound}
use Rattle.book_service.proofs.StepLemmas.{run_limits, runs_split}
use Rattle.book_laws.specs.RunLaws.{CallsKeepHistoriesSound}

-- ---- a token's text is parsed in one way

no_token : (token : Token) → IsTokenText [] token → ⊥
no_token token found_history = let no : [] ≡ token_octets token = found_history.spelled in cc

pub read_once : TokenTextsAreUnique
    → (text : List ℕ) (token : Option Token) (read : Result (Option Token) Refusal)
    → ReadsToken text (Ok token) → ReadsToken text read → read ≡ Ok token
read_once law text None (Ok None) a b = refl
read_once law text None (Ok (Some token)) a b =
    absurd (no_token token (subst (λ (t : List ℕ). IsTokenText t token) a b))
read_once law text None (Err refusal) a b = absurd (b.0 a)
read_once law text (Some token) (Ok None) a b =
    absurd (no_token token (subst (λ (t : List ℕ). IsTokenText t token) b a))
read_once law text (Some token) (Ok (Some other)) a b =
    ap (λ (t : Token). Ok (Some t)) (law text other token b a)
read_once law text (Some token) (Err refusal) a b = absurd (b.1 token a)

-- ---- the reply of a book to a token

-- the returned report is the expected one
abbrev Said : Command → Result SyncPage Refusal → Reply → BookHistories → BookHistories → Type 0
Said command outcome r old new =
    DeliversOutcome command old (answer_in_state ReturnedPage old outcome) r new
    ⊎ ((fault : Fault) × (r ≡ reply.Fault fault) × (new ≡ old))

said_page : (command : Command) (outcome : Result SyncPage Refusal) (page : SyncPage) (old new :
    BookHistories) → Said command outcome (reply.Page page) old new → outcome ≡ Ok page
said_page command (Ok received) page old new p =
    ⊎_elim
    (λ yes. let same : reply.Page page ≡ reply.Page received = yes.0 in
    let found_history : received ≡ page = cc in ap (λ t. Ok t) found_history)
    (λ fault. absurd (let no : reply.Page page ≡ reply.Fault fault.0 = fault.1 in cc)) p
said_page command (Err refusal) page old new p =
    ⊎_elim
    (λ yes. absurd (let no : reply.Page page ≡ reply.Refused refusal = yes.0 in cc))
    (λ fault. absurd (let no : reply.Page page ≡ reply.Fault fault.0 = fault.1 in cc)) p

said_refusal : (command : Command) (outcome : Result SyncPage Refusal) (refusal : Refusal)
    (old new : BookHistories) → Said command outcome (reply.Refused refusal) old new
    → outcome ≡ Err refusal
said_refusal command (Ok received) refusal old new p =
    ⊎_elim
    (λ yes. absurd (let no : reply.Refused refusal ≡ reply.Page received = yes.0 in cc))
    (λ fault. absurd (let no : reply.Refused refusal ≡ reply.Fault fault.0 = fault.1 in cc)) p
said_refusal command (Err other) refusal old new p =
    ⊎_elim
    (λ yes. let same : reply.Refused refusal ≡ reply.Refused other = yes.0 in
    let found_history : other ≡ refusal = cc in ap (λ t. Err t) found_history)
    (λ fault. absurd (let no : reply.Refused refusal ≡ reply.Fault fault.0 = fault.1 in cc)) p

said_refused : (command : Command) (refusal : Refusal) (r : Reply) (old new : BookHistories)
    → Said command (Err refusal) r old new → (r ≡ reply.Refused refusal) ⊎ IsFault r
said_refused command refusal r old new p =
    ⊎_elim (λ yes. inl yes.0) (λ fault. inr (subst IsFault (sym fault.1) tt)) p

said_nothing : (command : Command) (outcome : Result SyncPage Refusal) (r : Reply) (old new :
    BookHistories) → Said command outcome r old new → new ≡ old
said_nothing command (Ok received) r old new p = ⊎_elim (λ yes. yes.1) (λ fault. fault.2) p
said_nothing command (Err refusal) r old new p = ⊎_elim (λ yes. yes.1) (λ fault. fault.2) p

-- the reply to a device whose report is refused is this refusal, or a fault
handled_refusal : (r : Reply) (refusal : Refusal) (old new : DeviceState)
    → HandlesReply r (Err refusal) old new → (r ≡ reply.Refused refusal) ⊎ IsFault r
handled_refusal (reply.Page page) refusal old new a =
    absurd (let no : ◌≡◌ {A = Result SyncPage Refusal} (Err refusal) (Ok page) = a.0 in cc)
handled_refusal (reply.Refused other) refusal old new a =
    let same : ◌≡◌ {A = Result SyncPage Refusal} (Err refusal) (Err other) = a.0 in
    let is : other ≡ refusal = cc in
    inl (ap (λ (t : Refusal). reply.Refused t) is)
handled_refusal (reply.Fault fault) refusal old new a = inr tt
handled_refusal (reply.Created id) refusal old new a = absurd a
handled_refusal (reply.Books lines) refusal old new a = absurd a
handled_refusal (reply.Card uid version card) refusal old new a = absurd a
handled_refusal (reply.Put answer) refusal old new a = absurd a
handled_refusal (reply.Gone number) refusal old new a = absurd a
handled_refusal (reply.Moved numbers) refusal old new a = absurd a
handled_refusal (reply.Imported tally) refusal old new a = absurd a
handled_refusal (reply.Forgot dropped horizon) refusal old new a = absurd a
handled_refusal (reply.Tally tally) refusal old new a = absurd a
handled_refusal (reply.Csv text) refusal old new a = absurd a
handled_refusal (reply.People expansion) refusal old new a = absurd a

module _ (law : TokenTextsAreUnique) (now next : SystemState) where
  abbrev Says : List ℕ → List ℕ → Option ℕ → Reply → BookHistories → Outcome → Type 0
  Says book text limit r books outcome =
      DeliversOutcome (Report book text limit) now.model.books outcome r books

  said_of : (book text : List ℕ) (limit : Option ℕ) (r : Reply) (books : BookHistories) (token :
      Option Token) → PerformsCommand now.model (Report book text limit) r books
      → ReadsToken text (Ok token)
      → Said (Report book text limit) (report_at now book token limit) r now.model.books books
  said_of book text limit r books token p reads =
      ⊎_elim
      (λ done.
      let m = done.has_outcome in
      let read_is : m.read ≡ Ok token = read_once law text token m.read reads m.read_is in
      inl (subst (λ (read : Result (Option Token) Refusal). Says book text limit r books
      (outcome_with now.model book (λ from. ReportCall book from limit) read)) read_is
      (subst (Says book text limit r books) m.outcome_is done.delivers)))
      (λ fault. inr fault)
      p

  -- the reply to the request is the expected report, and no book changed
  pub received_page : (event : Event) (r : Reply) (name : List ℕ) (token : Option Token) (page :
      SyncPage) → Step now event r next → RequestsPageAfter now event name token
      → r ≡ reply.Page page
      → (limit : Option ℕ) × (report_at now name token limit ≡ Ok page)
  received_page (Do (Report book text limit)) r name token page s asks found_history = (
    limit,
    subst (λ (n : List ℕ). report_at now n token limit ≡ Ok page) asks.0
        (said_page (Report book text limit) (report_at now book token limit) page now.model.books
        s.0
        (subst (λ (a : Reply). Said (Report book text limit) (report_at now book token limit) a
        now.model.books s.0) found_history (said_of book text limit r s.0 token s.1 asks.1))),
  )
  received_page (Ask i limit) r name token page s asks found_history = (
    limit,
    subst (λ (t : Option Token). report_at now name t limit ≡ Ok page) asks.3
        (subst (λ (n : List ℕ). report_at now n asks.0.token limit ≡ Ok page) asks.2
        (subst (λ (d : DeviceState). report_at now d.book d.token limit ≡ Ok page)
        (same_Some s.old asks.0 (sym s.found ∙ asks.1))
        (subst (λ (a : Reply). HandlesReply a (report_at now s.old.book s.old.token limit) s.old
        s.new) found_history s.answers).0)),
  )
  received_page (Do (CreateBook book)) r name token page s asks found_history = absurd asks
  received_page (Do ListBooks) r name token page s asks found_history = absurd asks
  received_page (Do (Get book uid)) r name token page s asks found_history = absurd asks
  received_page (Do (Put book uid expect text)) r name token page s asks found_history = absurd asks
  received_page (Do (Remove book uid expect)) r name token page s asks found_history = absurd asks
  received_page (Do (MoveCard book uid to expect)) r name token page s asks found_history =
      absurd asks
  received_page (Do (Import book key body)) r name token page s asks found_history = absurd asks
  received_page (Do (Forget book upto)) r name token page s asks found_history = absurd asks
  received_page (Do (TallyOf book)) r name token page s asks found_history = absurd asks
  received_page (Do (Export book form)) r name token page s asks found_history = absurd asks
  received_page (Do (People book uid)) r name token page s asks found_history = absurd asks

  pub returned_refusal : (event : Event) (r : Reply) (name : List ℕ) (token : Option Token)
      (refusal : Refusal) → Step now event r next → RequestsPageAfter now event name token
      → r ≡ reply.Refused refusal
      → (limit : Option ℕ) × (report_at now name token limit ≡ Err refusal)
  returned_refusal (Do (Report book text limit)) r name token refusal s asks found_history = (
    limit,
    subst (λ (n : List ℕ). report_at now n token limit ≡ Err refusal) asks.0
        (said_refusal (Report book text limit) (report_at now book token limit) refusal
        now.model.books s.0
        (subst (λ (a : Reply). Said (Report book text limit) (report_at now book token limit) a
        now.model.books s.0) found_history (said_of book text limit r s.0 token s.1 asks.1))),
  )
  returned_refusal (Ask i limit) r name token refusal s asks found_history = (
    limit,
    subst (λ (t : Option Token). report_at now name t limit ≡ Err refusal) asks.3
        (subst (λ (n : List ℕ). report_at now n asks.0.token limit ≡ Err refusal) asks.2
        (subst (λ (d : DeviceState). report_at now d.book d.token limit ≡ Err refusal)
        (same_Some s.old asks.0 (sym s.found ∙ asks.1))
        (subst (λ (a : Reply). HandlesReply a (report_at now s.old.book s.old.token limit) s.old
        s.new) found_history s.answers).0)),
  )
  returned_refusal (Do (CreateBook book)) r name token refusal s asks found_history = absurd asks
  returned_refusal (Do ListBooks) r name token refusal s asks found_history = absurd asks
  returned_refusal (Do (Get book uid)) r name token refusal s asks found_history = absurd asks
  returned_refusal (Do (Put book uid expect text)) r name token refusal s asks found_history =
      absurd asks
  returned_refusal (Do (Remove book uid expect)) r name token refusal s asks found_history =
      absurd asks
  returned_refusal (Do (MoveCard book uid to expect)) r name token refusal s asks found_history =
      absurd asks
  returned_refusal (Do (Import book key body)) r name token refusal s asks found_history =
      absurd asks
  returned_refusal (Do (Forget book upto)) r name token refusal s asks found_history = absurd asks
  returned_refusal (Do (TallyOf book)) r name token refusal s asks found_history = absurd asks
  returned_refusal (Do (Export book form)) r name token refusal s asks found_history = absurd asks
  returned_refusal (Do (People book uid)) r name token refusal s asks found_history = absurd asks

  -- a request whose report is refused whatever its limit is gets this refusal, or a fault
  pub refused_reply : (event : Event) (r : Reply) (name : List ℕ) (token : Option Token) (refusal :
      Refusal) → Step now event r next → RequestsPageAfter now event name token
      → ((limit : Option ℕ) → report_at now name token limit ≡ Err refusal)
      → (r ≡ reply.Refused refusal) ⊎ IsFault r
  refused_reply (Do (Report book text limit)) r name token refusal s asks refuses =
      let is : report_at now book token limit ≡ Err refusal =
      ap (λ (n : List ℕ). report_at now n token limit) asks.0 ∙ refuses limit in
      said_refused (Report book text limit) refusal r now.model.books s.0
      (subst (λ (o : Result SyncPage Refusal). Said (Report book text limit) o r now.model.books
      s.0) is (said_of book text limit r s.0 token s.1 asks.1))
  refused_reply (Ask i limit) r name token refusal s asks refuses =
      let same : s.old ≡ asks.0 = same_Some s.old asks.0 (sym s.found ∙ asks.1) in
      let is : report_at now s.old.book s.old.token limit ≡ Err refusal =
      ap (λ (d : DeviceState). report_at now d.book d.token limit) same
      ∙ ap (λ (n : List ℕ). report_at now n asks.0.token limit) asks.2
      ∙ ap (λ (t : Option Token). report_at now name t limit) asks.3
      ∙ refuses limit in
      handled_refusal r refusal s.old s.new
      (subst (λ (o : Result SyncPage Refusal). HandlesReply r o s.old s.new) is s.answers)
  refused_reply (Do (CreateBook book)) r name token refusal s asks refuses = absurd asks
  refused_reply (Do ListBooks) r name token refusal s asks refuses = absurd asks
  refused_reply (Do (Get book uid)) r name token refusal s asks refuses = absurd asks
  refused_reply (Do (Put book uid expect text)) r name token refusal s asks refuses = absurd asks
  refused_reply (Do (Remove book uid expect)) r name token refusal s asks refuses = absurd asks
  refused_reply (Do (MoveCard book uid to expect)) r name token refusal s asks refuses = absurd asks
  refused_reply (Do (Import book key body)) r name token refusal s asks refuses = absurd asks
  refused_reply (Do (Forget book upto)) r name token refusal s asks refuses = absurd asks
  refused_reply (Do (TallyOf book)) r name token refusal s asks refuses = absurd asks
  refused_reply (Do (Export book form)) r name token refusal s asks refuses = absurd asks
  refused_reply (Do (People book uid)) r name token refusal s asks refuses = absurd asks

  pub asking_keeps : (event : Event) (r : Reply) (name : List ℕ) (token : Option Token)
      → Step now event r next → RequestsPageAfter now event name token
      → next.model.books ≡ now.model.books
  asking_keeps (Do (Report book text limit)) r name token s asks =
      ap (λ (m : SystemState). m.model.books) s.2
      ∙ said_nothing (Report book text limit) (report_at now book token limit) r now.model.books s.0
      (said_of book text limit r s.0 token s.1 asks.1)
  asking_keeps (Ask i limit) r name token s asks = ap (λ (m : SystemState). m.model.books) s.next_is
  asking_keeps (Do (CreateBook book)) r name token s asks = absurd asks
  asking_keeps (Do ListBooks) r name token s asks = absurd asks
  asking_keeps (Do (Get book uid)) r name token s asks = absurd asks
  asking_keeps (Do (Put book uid expect text)) r name token s asks = absurd asks
  asking_keeps (Do (Remove book uid expect)) r name token s asks = absurd asks
  asking_keeps (Do (MoveCard book uid to expect)) r name token s asks = absurd asks
  asking_keeps (Do (Import book key body)) r name token s asks = absurd asks
  asking_keeps (Do (Forget book upto)) r name token s asks = absurd asks
  asking_keeps (Do (TallyOf book)) r name token s asks = absurd asks
  asking_keeps (Do (Export book form)) r name token s asks = absurd asks
  asking_keeps (Do (People book uid)) r name token s asks = absurd asks

-- ---- forgets among the calls of a run

-- one of the calls of a step is a successful forget of this book up to a number above this one
pub record StepForgets (now next : SystemState) (event : Event) (r : Reply) (s :
    Step now event r next) (name : List ℕ) (base : ℕ) : Type 0 where
  pub earlier : List Call
  pub later : List Call
  pub upto : ℕ
  pub above : base < upto
  pub calls_are : (step_leads now next event r s).calls ≡ earlier ++ ForgetCall name upto ∷ later
  pub dropped : ℕ
  pub histories_left : BookHistories
  pub accepted : forget_on_histories (histories_after_calls now.model.limits now.model.books
      earlier) name upto ≡ Ok (dropped, histories_left)

step_forgets : (now next : SystemState) (event : Event) (r : Reply) (s : Step now event r next)
    (name : List ℕ) (base : ℕ) → StepForgets now next event r s name base
    → ForgetsAbove name base event r
step_forgets now next event r s name base forgot =
    let found_history = (event_leads now next event r s).forgot forgot.earlier forgot.later name
    forgot.upto forgot.dropped forgot.histories_left forgot.calls_are forgot.accepted in
    record {
      upto = forgot.upto;
      event_is = found_history.0;
      above = forgot.above;
      dropped = forgot.dropped;
      reply_is = found_history.1;
    }

-- the calls of a run, step by step
abbrev pub calls_of : (now : SystemState) (run : List TraceStep) → Run now run → List Call
calls_of now [] steps = []
calls_of now (h ∷ run) steps = (step_leads now h.after h.event h.reply steps.0).calls
    ++ calls_of h.after run steps.1

pub run_calls : (now : SystemState) (run : List TraceStep) (steps : Run now run)
    → (end_of now run).model.books ≡ histories_after_calls now.model.limits now.model.books
    (calls_of now run steps)
run_calls now [] steps = refl
run_calls now (h ∷ run) steps =
    let first = step_leads now h.after h.event h.reply steps.0 in
    run_calls h.after run steps.1
    ∙ ap (λ (l : Bounds). histories_after_calls l h.after.model.books
    (calls_of h.after run steps.1)) (step_limits now h.after h.event h.reply steps.0)
    ∙ ap (λ (b : BookHistories). histories_after_calls now.model.limits b
    (calls_of h.after run steps.1)) first.new_is
    ∙ sym (after_more now.model.limits now.model.books first.calls (calls_of h.after run steps.1))

-- an element of two joined lists is in the first or in the second
split : {A : Type 0} (xs ys earlier later : List A) (x : A) → xs ++ ys ≡ earlier ++ x ∷ later
    → ((more : List A) × (xs ≡ earlier ++ x ∷ more)) ⊎ ((rest : List A) × (earlier ≡ xs ++ rest)
    × (ys ≡ rest ++ x ∷ later))
split [] ys earlier later x e = inr (earlier, refl, e)
split (y ∷ xs) ys [] later x e = inl (xs, let same : y ≡ x = cc in ap (λ z. z ∷ xs) same)
split (y ∷ xs) ys (z ∷ earlier) later x e =
    let same : y ≡ z = cc in
    let rest : xs ++ ys ≡ earlier ++ x ∷ later = cc in
    ⊎_elim
    (λ one. inl (one.0, ap (λ v. v ∷ xs) same ∙ ap (λ vs. z ∷ vs) one.1))
    (λ two. inr (two.0, ap (λ v. v ∷ earlier) (sym same) ∙ ap (λ vs. y ∷ vs) two.1, two.2))
    (split xs ys earlier later x rest)

-- a forget among the calls of a run was the event of one of its steps
forgot_at : (name : List ℕ) (base : ℕ) (run : List TraceStep) (now : SystemState) (steps :
    Run now run) (earlier later : List Call) (upto dropped : ℕ) (histories_left : BookHistories)
    → base < upto
    → calls_of now run steps ≡ earlier ++ ForgetCall name upto ∷ later
    → forget_on_histories (histories_after_calls now.model.limits now.model.books earlier) name
    upto ≡ Ok (dropped, histories_left) → AtSomeStep (ForgetsAbove name base) run
forgot_at name base [] now steps [] later upto dropped histories_left above found_history accepted =
    cc
forgot_at name base [] now steps (call ∷ earlier) later upto dropped histories_left above
    found_history accepted = cc
forgot_at name base (h ∷ run) now steps earlier later upto dropped histories_left above
    found_history accepted =
    let first = step_leads now h.after h.event h.reply steps.0 in
    ⊎_elim
    (λ here. inl (step_forgets now h.after h.event h.reply steps.0 name base (record {
      earlier = earlier;
      later = here.0;
      upto = upto;
      above = above;
      calls_are = here.1;
      dropped = dropped;
      histories_left = histories_left;
      accepted = accepted;
    })))
    (λ there.
    let moved : histories_after_calls now.model.limits now.model.books earlier
    ≡ histories_after_calls h.after.model.limits h.after.model.books there.0 =
    ap (histories_after_calls now.model.limits now.model.books) there.1
    ∙ after_more now.model.limits now.model.books first.calls there.0
    ∙ ap (λ (b : BookHistories). histories_after_calls now.model.limits b there.0)
    (sym first.new_is)
    ∙ ap (λ (l : Bounds). histories_after_calls l h.after.model.books there.0)
    (sym (step_limits now h.after h.event h.reply steps.0)) in
    inr (forgot_at name base run h.after steps.1 there.0 later upto dropped histories_left above
    there.2 (subst (λ (b : BookHistories). forget_on_histories b name upto ≡ Ok (
      dropped,
      histories_left,
    )) moved accepted)))
    (split first.calls (calls_of h.after run steps.1) earlier later (ForgetCall name upto)
    found_history)

-- ---- the clause

-- if a book returned a page at the start of a run and refuses its token at the end
token_expires : TokensStayValid → (now : SystemState) (run : List TraceStep) (name : List ℕ)
    (token : Option Token) (limit again : Option ℕ) (page : SyncPage) (cause : TokenCause)
    → IsSoundStoreHistory now.model → Run now run → report_at now name token limit ≡ Ok page
    → report_at (end_of now run) name (Some (token_of page)) again ≡ Err (BadToken cause)
    → (cause ≡ TooOld) × (AtSomeStep (ForgetsAbove name page.mark.base) run
    ⊎ RemovalsExceedKeep (end_of now run).model.books name page.mark.base)
token_expires good now run name token limit again page cause w steps received refused =
    let refused_then : report_on_histories now.model.limits (histories_after_calls now.model.limits
    now.model.books (calls_of now run steps)) name (Some (token_of page)) again
    ≡ Err (BadToken cause) =
    subst (λ (b : BookHistories). report_on_histories now.model.limits b name (Some (token_of page))
    again ≡ Err (BadToken cause)) (run_calls now run steps)
    (subst (λ (l : Bounds). report_on_histories l (end_of now run).model.books name
    (Some (token_of page)) again ≡ Err (BadToken cause)) (run_limits now run steps) refused) in
    let old = good now.model name token limit again page (calls_of now run steps) cause w.books
    received refused_then in (
      old.0,
      ⊎_elim
          (λ forgot. inl (forgot_at name page.mark.base run now steps forgot.earlier forgot.later
          forgot.upto forgot.dropped forgot.histories_left forgot.above forgot.calls_are
          forgot.accepted))
          (λ lost. inr (subst (λ (b : BookHistories). RemovalsExceedKeep b name page.mark.base)
          (sym (run_calls now run steps)) lost))
          old.1,
    )

pub tokens_expire : CallsKeepHistoriesSound → TokenTextsAreUnique → TokensStayValid → TokensExpire
tokens_expire stays law good now received again between name token page cause w steps asked is_page
    asks_again is_refusal =
    let first = steps.0 in
    let parts = runs_split received.after between (again ∷ []) steps.1 in
    let page_then = received_page law now received.after received.event received.reply name token
    page first asked is_page in
    let later : report_at received.after name token page_then.0 ≡ Ok page =
    subst (λ (b : BookHistories). report_on_histories received.after.model.limits b name token
    page_then.0 ≡ Ok page) (sym (asking_keeps law now received.after received.event
    received.reply name token first asked))
    (subst (λ (l : Bounds). report_on_histories l now.model.books name token page_then.0 ≡ Ok page)
    (sym (step_limits now received.after received.event received.reply first)) page_then.1) in
    let refusal_then = returned_refusal law (end_of received.after between) again.after again.event
    again.reply name (Some (token_of page)) (BadToken cause) parts.1.0 asks_again is_refusal in
    token_expires good received.after between name token page_then.0 refusal_then.0 page cause
    (steps_keep_sound stays now received.after received.event received.reply w first) parts.0
    later refusal_then.1
