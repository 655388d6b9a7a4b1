-- Requests run in one way, but for faults.
use Rattle.std.proofs.Common.{◌≡◌, ◌∙◌, ℕ, Bool, List, [], ◌∷◌, ◌++◌, sym, ap, subst, inl, inr}
use Rattle.std.proofs.Common.{Option, Some, None, Result, Ok, Err}
use Rattle.vcard_lines.specs.declared.fault.CardFault.{CardFault}
use Rattle.vcard_lines.specs.declared.line.Line.{Line}
use Rattle.vcard_text.specs.Cards.{uid_of}
use Rattle.vcard_text.specs.FirstFaults.{IsFirstFaultOfText}
use Rattle.vcard_text.specs.Spelling.{Spells}
use Rattle.csv_cards.specs.declared.fault.CsvFault.{CsvFault}
use Rattle.csv_cards.specs.Causes.{cause_number}
use Rattle.csv_cards.specs.Reading.{TextHasCards, IsFirstRowFault}
use Rattle.card_core.specs.declared.expansion.Expansion.{Expansion}
use Rattle.card_core.specs.Groups.{Cards, IsExpansion}
use Rattle.book_model.specs.Books.{Books}
use Rattle.book_model.specs.declared.answers.ImportTally.{ImportTally}
use Rattle.book_model.specs.declared.refusal.Refusal.{Refusal}
use Rattle.book_model.specs.declared.refusal.Refusal.TheVariants.{BadCard, BadImport}
use Rattle.book_model.specs.declared.token.Token.{Token}
use Rattle.sync_core.specs.TokenTextLaws.{TokenTextsAreUnique}
use Rattle.book_laws.specs.Calls.{ReportCall, PutCall, CallAnswer, ReturnedId, ReturnedPut}
use Rattle.book_laws.specs.Calls.{ReturnedRemoval, ReturnedMove, ReturnedImport, ReturnedDropped}
use Rattle.book_laws.specs.Calls.{ReturnedPage, ReturnedKeptImport, ReturnedBooks, ReturnedBookLine}
use Rattle.book_laws.specs.Calls.{ReturnedCard, ReturnedCards, ReturnedTally}
use Rattle.book_laws.specs.HistoryQueries.{kept_import_on_histories}
use Rattle.book_laws.specs.StoreHistories.{BookHistories, StoreHistory, rows_of}
use Rattle.book_commands.specs.declared.command.Command.{Command}
use Rattle.book_commands.specs.declared.command.Command.TheVariants.{Get, Put, Report, Import}
use Rattle.book_commands.specs.declared.command.Command.TheVariants.{Forget, Export, People}
use Rattle.book_service.specs.declared.event.Event.{Event}
use Rattle.book_service.specs.declared.event.Event.TheVariants.{Do}
use Rattle.book_commands.specs.declared.reply.Reply.{Reply}
use Rattle.book_commands.specs.declared.reply.Reply.TheVariants as reply
use Rattle.book_service.specs.Commands.{DeliversOutcome, Outcome, HasOutcome, ImportsTo}
use Rattle.book_service.specs.Commands.{PerformsCommand, import_outcome, outcome_with}
use Rattle.book_service.specs.Faults.{IfFaultReply}
use Rattle.book_service.specs.Replies.{RepliesReturned}
use Rattle.book_service.specs.Runs.{SystemState, TraceStep, Run, Step, end_of}
use Rattle.book_service.specs.Texts.{ReadsCard, ReadsCards, ReadsToken}
use Rattle.book_service.specs.WholeBooks.{lines_by_uid}
use Rattle.book_service.proofs.StepLemmas.{runs_split}
use Rattle.book_service.proofs.TokenLemmas.{read_once}
use Rattle.http_replies.specs.Replies.{reply_octets}
use Rattle.http_requests.specs.Fields.{fault_of_head, closes}
use Rattle.http_requests.specs.Requests.{Request}
use Rattle.http_requests.specs.declared.head_fault.HeadFault.{HeadFault}
use Rattle.http_routes.specs.Commands.{requested_command}
use Rattle.http_routes.specs.declared.fault.RouteFault.{RouteFault}
use Rattle.book_http.specs.OctetRuns.{IsFaultless, RunsRequests, AreReplies, IsReplyToCommand}
use Rattle.book_http.specs.OctetRuns.{IsReplyGivenFault}

-- each text is read in one way, and a group is expanded in one
pub record AreReadInOneWay : Type 0 where
  pub cards : (text : List ℕ) (a b : List Line) → Spells text a → Spells text b → a ≡ b
  pub card_faults : (text : List ℕ) (a b : CardFault) → IsFirstFaultOfText text a
      → IsFirstFaultOfText text b → a ≡ b
  pub no_card_has_fault : (text : List ℕ) (lines : List Line) (fault : CardFault)
      → Spells text lines → IsFirstFaultOfText text fault → ⊥
  pub rows_are_one : (text : List ℕ) (a b : List (List Line)) → TextHasCards text a
      → TextHasCards text b → a ≡ b
  pub row_faults : (text : List ℕ) (a b : CsvFault) → IsFirstRowFault text a
      → IsFirstRowFault text b → a ≡ b
  pub no_rows_have_fault : (text : List ℕ) (cards : List (List Line)) (fault : CsvFault)
      → TextHasCards text cards → IsFirstRowFault text fault → ⊥
  pub tokens : TokenTextsAreUnique
  pub expansions : (cards : Cards) (group : List ℕ) (a b : Expansion) → IsExpansion cards group a
      → IsExpansion cards group b → a ≡ b

module _ (law : AreReadInOneWay) where
  -- ---- texts

  card_once : (uid text : List ℕ) (a b : Result (List Line) Refusal) → ReadsCard uid text a
      → ReadsCard uid text b → a ≡ b
  card_once uid text (Ok x) (Ok y) p q =
      ap (λ (card : List Line). Ok card) (law.cards text x y p.0 q.0)
  card_once uid text (Ok x) (Err f) p (inl bad) =
      absurd (law.no_card_has_fault text x bad.fault p.0 bad.first)
  card_once uid text (Ok x) (Err f) p (inr other) =
      absurd (other.other (ap uid_of (law.cards text other.card x other.spelled p.0) ∙ p.1))
  card_once uid text (Err f) (Ok y) (inl bad) q =
      absurd (law.no_card_has_fault text y bad.fault q.0 bad.first)
  card_once uid text (Err f) (Ok y) (inr other) q =
      absurd (other.other (ap uid_of (law.cards text other.card y other.spelled q.0) ∙ q.1))
  card_once uid text (Err f) (Err g) (inl a) (inl b) =
      ap (λ (r : Refusal). Err r) (a.refusal_is
      ∙ ap (λ (c : CardFault). BadCard c) (law.card_faults text a.fault b.fault a.first b.first)
      ∙ sym b.refusal_is)
  card_once uid text (Err f) (Err g) (inl a) (inr b) =
      absurd (law.no_card_has_fault text b.card a.fault b.spelled a.first)
  card_once uid text (Err f) (Err g) (inr a) (inl b) =
      absurd (law.no_card_has_fault text a.card b.fault a.spelled b.first)
  card_once uid text (Err f) (Err g) (inr a) (inr b) = ap (λ (r : Refusal). Err r) (a.refusal_is
      ∙ sym b.refusal_is)

  body_once : (body : List ℕ) (a b : Result (List (List Line)) Refusal) → ReadsCards body a
      → ReadsCards body b → a ≡ b
  body_once body (Ok x) (Ok y) p q =
      ap (λ (cards : List (List Line)). Ok cards) (law.rows_are_one body x y p q)
  body_once body (Ok x) (Err f) p q = absurd (law.no_rows_have_fault body x q.fault p q.first)
  body_once body (Err f) (Ok y) p q = absurd (law.no_rows_have_fault body y p.fault q p.first)
  body_once body (Err f) (Err g) p q =
      ap (λ (r : Refusal). Err r)
      (p.refusal_is ∙ ap (λ (c : CsvFault). BadImport c.row (cause_number c.cause))
      (law.row_faults body p.fault q.fault p.first q.first) ∙ sym q.refusal_is)

  token_once : (text : List ℕ) (a b : Result (Option Token) Refusal) → ReadsToken text a
      → ReadsToken text b → a ≡ b
  token_once text (Ok x) b p q = sym (read_once law.tokens text x b p q)
  token_once text (Err f) (Ok y) p q = read_once law.tokens text y (Err f) q p
  token_once text (Err f) (Err g) p q = ap (λ (r : Refusal). Err r) (p.2 ∙ sym q.2)

  -- ---- what a command means

  import_once : (model : StoreHistory) (book key body : List ℕ) (kept :
      Result (Option ImportTally) Refusal) (a b : Outcome)
      → ImportsTo model book key body kept a → ImportsTo model book key body kept b → a ≡ b
  import_once model book key body (Err refusal) a b p q = p ∙ sym q
  import_once model book key body (Ok (Some kept)) a b p q = p ∙ sym q
  import_once model book key body (Ok None) a b p q =
      p.outcome_is ∙ ap (import_outcome model book key) (body_once body p.read q.read p.read_is
      q.read_is) ∙ sym q.outcome_is

  means_once : (model : StoreHistory) (command : Command) (a b : Outcome)
      → HasOutcome model command a → HasOutcome model command b → a ≡ b
  means_once model (Put book uid expect text) a b p q =
      p.outcome_is ∙ ap (outcome_with model book (λ card. PutCall book card expect))
      (card_once uid text p.read q.read p.read_is q.read_is) ∙ sym q.outcome_is
  means_once model (Report book token limit) a b p q =
      p.outcome_is ∙ ap (outcome_with model book (λ from. ReportCall book from limit))
      (token_once token p.read q.read p.read_is q.read_is) ∙ sym q.outcome_is
  means_once model (Import book key body) a b p q =
      import_once model book key body (kept_import_on_histories model.books book key) a b p q
  means_once model command a b p q = p ∙ sym q

  -- ---- one result

  people_once : (cards : Cards) (group : List ℕ) (a b : Expansion) → IsExpansion cards group a
      → IsExpansion cards group b → reply.People a ≡ reply.People b
  people_once cards group a b p q = ap (λ (e : Expansion). reply.People e)
      (law.expansions cards group a b p q)

  returned_once : (command : Command) (returned : CallAnswer) (r s : Reply)
      → RepliesReturned command returned r → RepliesReturned command returned s → r ≡ s
  returned_once (People book uid) (ReturnedCards live) r s p q =
      p.reply_is ∙ people_once (lines_by_uid live) uid p.expansion q.expansion p.is_expansion
      q.is_expansion ∙ sym q.reply_is
  returned_once (Export book form) (ReturnedCards live) r s p q = p ∙ sym q
  returned_once command (ReturnedCards live) r s p q = absurd p
  returned_once (Get book uid) (ReturnedCard stored) r s p q = p ∙ sym q
  returned_once command (ReturnedCard stored) r s p q = absurd p
  returned_once (Forget book upto) (ReturnedDropped dropped) r s p q = p ∙ sym q
  returned_once command (ReturnedDropped dropped) r s p q = absurd p
  returned_once command (ReturnedKeptImport kept) r s p q = absurd p
  returned_once command (ReturnedBookLine line) r s p q = absurd p
  returned_once command (ReturnedId id) r s p q = p ∙ sym q
  returned_once command (ReturnedPut answer) r s p q = p ∙ sym q
  returned_once command (ReturnedRemoval number) r s p q = p ∙ sym q
  returned_once command (ReturnedMove numbers) r s p q = p ∙ sym q
  returned_once command (ReturnedImport tally) r s p q = p ∙ sym q
  returned_once command (ReturnedPage page) r s p q = p ∙ sym q
  returned_once command (ReturnedBooks lines) r s p q = p ∙ sym q
  returned_once command (ReturnedTally tally) r s p q = p ∙ sym q

  comes_once : (command : Command) (old : BookHistories) (outcome : Outcome) (r s : Reply)
      (next other : BookHistories)
      → DeliversOutcome command old outcome r next → DeliversOutcome command old outcome s other
      → (r ≡ s) × (next ≡ other)
  comes_once command old (Ok done) r s next other p q =
      (returned_once command done.0 r s p.0 q.0, p.1 ∙ sym q.1)
  comes_once command old (Err refusal) r s next other p q = (p.0 ∙ sym q.0, p.1 ∙ sym q.1)

  -- the reply is no fault's
  abbrev IsFine : Reply → Type 0
  IsFine r = IfFaultReply r (λ _. ⊥)

  performs_once : (model : StoreHistory) (command : Command) (r s : Reply) (next other :
      BookHistories) → IsFine r → IsFine s
      → PerformsCommand model command r next → PerformsCommand model command s other → (r ≡ s)
      × (next ≡ other)
  performs_once model command r s next other fine fine_too (inl a) (inl b) =
      comes_once command model.books b.outcome r s next other
      (subst (λ (m : Outcome). DeliversOutcome command model.books m r next)
      (means_once model command a.outcome b.outcome a.has_outcome b.has_outcome) a.delivers)
      b.delivers
  performs_once model command r s next other fine fine_too (inr fault) b =
      absurd (subst IsFine fault.1 fine)
  performs_once model command r s next other fine fine_too (inl a) (inr fault) =
      absurd (subst IsFine fault.1 fine_too)

  abbrev with_books : SystemState → BookHistories → SystemState
  with_books now books = record now { model = record now.model { books = books } }

  step_once : (now : SystemState) (command : Command) (r s : Reply) (next other : SystemState)
      → IsFine r → IsFine s
      → Step now (Do command) r next → Step now (Do command) s other → (r ≡ s) × (next ≡ other)
  step_once now command r s next other fine fine_too p q =
      let once = performs_once now.model command r s p.0 q.0 fine fine_too p.1 q.1 in
      (once.0, p.2 ∙ ap (with_books now) once.1 ∙ sym q.2)

  -- ---- what happens by a request

  abbrev happening : Event → Reply → SystemState → TraceStep
  happening event r after = record { event = event; reply = r; after = after }

  happens_once : (now : SystemState) (command : Command) (a b : TraceStep) → a.event ≡ Do command
      → b.event ≡ Do command → IsFine a.reply → IsFine b.reply
      → Step now a.event a.reply a.after → Step now b.event b.reply b.after → a ≡ b
  happens_once now command a b is is_too fine fine_too p q =
      let once = step_once now command a.reply b.reply a.after b.after fine fine_too
      (subst (λ (e : Event). Step now e a.reply a.after) is p)
      (subst (λ (e : Event). Step now e b.reply b.after) is_too q) in
      ap (λ (e : Event). happening e a.reply a.after) (is ∙ sym is_too)
      ∙ ap (λ (r : Reply). happening b.event r a.after) once.0
      ∙ ap (λ (m : SystemState). happening b.event b.reply m) once.1

  asked_once : (now : SystemState) (wanted : Result Command RouteFault) (close : Bool) (own other :
      List TraceStep) (run_replies others : List ℕ)
      → IsReplyToCommand wanted close own run_replies → IsReplyToCommand wanted close other others
      → Run now own → Run now other → IsFaultless own → IsFaultless other
      → (own ≡ other) × (run_replies ≡ others)
  asked_once now (Ok command) close own other run_replies others t u steps steps_too fine fine_too =
      let first = subst (Run now) t.1 steps in
      let second = subst (Run now) u.1 steps_too in
      let good = subst IsFaultless t.1 fine in
      let good_too = subst IsFaultless u.1 fine_too in
      let same : t.0 ≡ u.0 = happens_once now command t.0 u.0 t.2 u.2 good.0 good_too.0 first.0
      second.0 in (
        t.1 ∙ ap (λ (h : TraceStep). h ∷ []) same ∙ sym u.1,
        t.3 ∙ ap (λ (h : TraceStep). reply_octets h.reply close) same ∙ sym u.3,
      )
  asked_once now (Err found) close own other run_replies others t u steps steps_too fine fine_too =
      (t.0 ∙ sym u.0, t.1 ∙ sym u.1)

  found_once : (now : SystemState) (found : Option HeadFault) (request : Request) (own other :
      List TraceStep) (run_replies others : List ℕ)
      → IsReplyGivenFault found request own run_replies
      → IsReplyGivenFault found request other others → Run now own → Run now other
      → IsFaultless own → IsFaultless other
      → (own ≡ other) × (run_replies ≡ others)
  found_once now None request own other run_replies others t u steps steps_too fine fine_too =
      asked_once now (requested_command request.head.method request.head.target request.body)
      (closes request.head) own other run_replies others t u steps steps_too fine fine_too
  found_once now (Some found) request own other run_replies others t u steps steps_too fine
      fine_too = (t.0 ∙ sym u.0, t.1 ∙ sym u.1)

  -- ---- requests in turn

  faultless_split : (run more : List TraceStep) → IsFaultless (run ++ more) → IsFaultless run
      × IsFaultless more
  faultless_split [] more fine = (tt, fine)
  faultless_split (h ∷ run) more fine = let rest = faultless_split run more fine.1 in
      ((fine.0, rest.0), rest.1)

  replied_once : (requests : List Request) (now : SystemState) (run other : List TraceStep)
      (octets others : List ℕ)
      → AreReplies requests run octets → AreReplies requests other others → Run now run
      → Run now other → IsFaultless run → IsFaultless other
      → (run ≡ other) × (octets ≡ others)
  unfolding AreReplies
  replied_once [] now run other octets others t u steps steps_too fine fine_too =
      (t.0 ∙ sym u.0, t.1 ∙ sym u.1)
  replied_once (request ∷ requests) now run other octets others t u steps steps_too fine fine_too =
      let first = runs_split now t.0 t.1 (subst (Run now) t.6 steps) in
      let second = runs_split now u.0 u.1 (subst (Run now) u.6 steps_too) in
      let good = faultless_split t.0 t.1 (subst IsFaultless t.6 fine) in
      let good_too = faultless_split u.0 u.1 (subst IsFaultless u.6 fine_too) in
      let one = found_once now (fault_of_head request.head) request t.0 u.0 t.2 u.2 t.4 u.4 first.0
      second.0 good.0 good_too.0 in
      let later : Run (end_of now t.0) u.1 =
      subst (λ (own : List TraceStep). Run (end_of now own) u.1) (sym one.0) second.1 in
      let rest = replied_once requests (end_of now t.0) t.1 u.1 t.3 u.3 t.5 u.5 first.1 later good.1
      good_too.1 in (
        t.6 ∙ ap (λ (own : List TraceStep). own ++ t.1) one.0
            ∙ ap (λ (more : List TraceStep). u.0 ++ more) rest.0 ∙ sym u.6,
        t.7 ∙ ap (λ (run_replies : List ℕ). run_replies ++ t.3) one.1
            ∙ ap (λ (more : List ℕ). u.2 ++ more) rest.1 ∙ sym u.7,
      )

  -- requests that ran without a fault ran in one way, and left one store's rows
  pub ran_once : (now : SystemState) (requests : List Request) (octets others : List ℕ) (one other :
      Books) (ran : RunsRequests now requests octets one) (again : RunsRequests now requests others
      other)
      → IsFaultless ran.run → IsFaultless again.run → (ran.run ≡ again.run) × (octets ≡ others)
      × (one ≡ other)
  ran_once now requests octets others one other ran again fine fine_too =
      let same = replied_once requests now ran.run again.run octets others ran.are_replies
      again.are_replies ran.runs again.runs fine fine_too in (
        same.0,
        same.1,
        sym ran.at.histories.rows_are ∙ ap (λ (run : List TraceStep). rows_of
            (end_of now run).model.books) same.0 ∙ again.at.histories.rows_are,
      )
