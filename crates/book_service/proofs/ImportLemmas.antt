-- An import, by its store calls.
use Rattle.std.proofs.Common.{◌≡◌, ℕ, true, List, map, Option, Some, None, Result, Ok, Err, refl}
use Rattle.std.proofs.Common.{sym, ap, ◌∙◌, subst, inl}
use Rattle.std.proofs.lemmas.Map.Made.{IsDistinct-from_AllPairs}
use Rattle.base_types.proofs.TextLemmas.{same-equal, same_self}
use Rattle.vcard_lines.specs.declared.line.Line.{Line}
use Rattle.vcard_text.specs.Cards.{uid_of}
use Rattle.csv_cards.specs.Reading.{TextHasCards}
use Rattle.book_model.specs.declared.answers.ImportTally.{ImportTally}
use Rattle.book_model.specs.declared.denied.Denied.{Denied}
use Rattle.book_model.specs.declared.denied.Denied.TheVariants.{Refused, Fault}
use Rattle.book_model.specs.declared.refusal.Refusal.{Refusal}
use Rattle.book_model.specs.Bounds.{Bounds}
use Rattle.book_model.specs.Books.{Books, same_name}
use Rattle.book_model.specs.Importing.{import_step, kept_import_step}
use Rattle.book_model.specs.ImportLaws.{HaveDistinctUids}
use Rattle.book_model.specs.CallOutcomes.{MatchesStep, ReturnsExactly}
use Rattle.book_laws.specs.Calls.{ReturnedImport, map_answer}
use Rattle.book_laws.specs.ChangeRefinement.{ImportRefines}
use Rattle.book_laws.specs.Refinement.{AreHistoriesOf, RefinesHistories}
use Rattle.book_laws.specs.QueryRefinement.{KeptImportsRefine}
use Rattle.book_laws.specs.HistoryChanges.{import_on_histories}
use Rattle.book_laws.specs.HistoryQueries.{kept_import_on_histories}
use Rattle.book_laws.specs.StoreHistories.{BookHistories, StoreHistory}
use Rattle.book_commands.specs.declared.command.Command.TheVariants.{Import}
use Rattle.book_commands.specs.declared.reply.Reply.{Reply}
use Rattle.book_commands.specs.declared.reply.Reply.TheVariants as reply
use Rattle.book_service.specs.Commands.{Outcome, ImportsTo, DeliversOutcome}
use Rattle.book_service.specs.internal.RowSteps.{CommandOnRows}
use Rattle.book_service.specs.Replies.{denied_reply, reply_to}
use Rattle.book_service.specs.internal.TextParsers.{DeniesBody}
use Rattle.book_service.proofs.PerformLemmas.{from_history, same_rows, keeps_same, did_keep}
use Rattle.book_service.proofs.PerformLemmas.{did_perform}
use Rattle.book_service.proofs.WholeBookLemmas.{fails}

-- the cards of a body have distinct UIDs
pub are_distinct : (body : List ℕ) (cards : List (List Line)) → TextHasCards body cards
    → HaveDistinctUids cards
are_distinct body cards are = IsDistinct-from_AllPairs {eq = same_name} (λ a b. (
  same-equal a b,
  λ same. subst (λ (c : List ℕ). same_name a c ≡ true) same (same_self a),
)) (map uid_of cards)
    are.represent.distinct

module _ (limits : Bounds) (old new : Books) (book key body : List ℕ) where
  -- the store's result for the key
  abbrev SyncPage : Result (Option ImportTally) Denied → Type 0
  SyncPage call_result = ReturnsExactly call_result (kept_import_step old book key) old new

  refused_is : (refusal : Refusal) (asked : Result (Option ImportTally) Refusal)
      → ReturnsExactly (Err (Refused refusal)) asked old new → (asked ≡ Err refusal) × (new ≡ old)
  refused_is refusal (Ok kept) d = absurd d
  refused_is refusal (Err other) d = (ap (λ (r : Refusal). Err r) (sym d.0), d.1)

  answer_is : (answer : Option ImportTally) (asked : Result (Option ImportTally) Refusal)
      → ReturnsExactly (Ok answer) asked old new → (asked ≡ Ok answer) × (new ≡ old)
  answer_is answer (Ok kept) d = (ap (λ (k : Option ImportTally). Ok k) (sym d.0), d.1)
  answer_is answer (Err refusal) d = absurd d

  module _ (law : KeptImportsRefine) where
    kept_is : (kept : Result (Option ImportTally) Refusal) → kept_import_step old book key ≡ kept
        → (model : StoreHistory) → model.limits ≡ limits → AreHistoriesOf old model.books
        → kept_import_on_histories model.books book key ≡ kept
    kept_is kept is model same w = sym (from_history (λ l b. kept_import_step b book key
        ≡ kept_import_on_histories model.books book key) model same w (law model.books book key))
        ∙ is

    -- if a result is stored, it is expected and returned
    said : (kept : Result (Option ImportTally) Refusal) → kept_import_step old book key ≡ kept
        → new ≡ old → (r : Reply) (answer : BookHistories → Outcome)
        → ((model : StoreHistory) → ImportsTo model book key body kept (answer model.books))
        → ((books : BookHistories) → DeliversOutcome (Import book key body) books (answer books)
        r books)
        → CommandOnRows limits old (Import book key body) r new
    said kept is same r answer has_outcome delivers = record {
      kept = keeps_same r old new same;
      performed = λ model limits_are w. record {
        next = model.books;
        performs = inl (record {
          outcome = answer model.books;
          has_outcome = subst (λ (k : Result (Option ImportTally) Refusal). ImportsTo model book key
              body k (answer model.books)) (sym (kept_is kept is model limits_are w))
              (has_outcome model);
          delivers = delivers model.books;
        });
        histories = same_rows model old new same w;
      };
    }

    pub kept_not : (error : Denied) → SyncPage (Err error)
        → CommandOnRows limits old (Import book key body) (denied_reply error) new
    kept_not (Refused refusal) d =
        let received = refused_is refusal (kept_import_step old book key) d in
        said (Err refusal) received.0 received.1 (reply.Refused refusal) (λ books. Err refusal)
        (λ model. refl) (λ books. (refl, refl))
    kept_not (Fault fault) d = fails limits old new (Import book key body) fault d

    pub returns_stored : (tally : ImportTally) → SyncPage (Ok (Some tally))
        → CommandOnRows limits old (Import book key body) (reply.Imported tally) new
    returns_stored tally d =
        let received = answer_is (Some tally) (kept_import_step old book key) d in
        said (Ok (Some tally)) received.0 received.1 (reply.Imported tally)
        (λ books. Ok (ReturnedImport tally, books)) (λ model. refl) (λ books. (refl, refl))

    -- nothing is stored, and the body is denied
    pub body_not : (error : Denied) → SyncPage (Ok None) → DeniesBody body error
        → CommandOnRows limits old (Import book key body) (denied_reply error) new
    body_not (Refused refusal) d read =
        let received = answer_is None (kept_import_step old book key) d in
        said (Ok None) received.0 received.1 (reply.Refused refusal) (λ books. Err refusal)
        (λ model. record { read = Err refusal; read_is = read; outcome_is = refl })
        (λ books. (refl, refl))
    body_not (Fault fault) d read = fails limits old new (Import book key body) fault
        (answer_is None (kept_import_step old book key) d).1

    -- nothing is stored, and the cards of the body are imported
    pub imports_on : ImportRefines → (cards : List (List Line)) → TextHasCards body cards
        → kept_import_step old book key ≡ Ok None
        → (call_result : Result ImportTally Denied)
        → MatchesStep call_result (import_step limits old book key cards) old new
        → CommandOnRows limits old (Import book key body) (reply_to reply.Imported call_result) new
    imports_on follows cards are none call_result d = record {
      kept = did_keep reply.Imported ReturnedImport (Import book key body) (λ tally. refl) old new
          call_result (import_step limits old book key cards) (λ tally. tt) d;
      performed = λ model same w.
          did_perform reply.Imported ReturnedImport (Import book key body) (λ tally. refl) model old
          new call_result (import_step limits old book key cards)
          (import_on_histories model.limits model.books book key cards)
          (subst (λ (k : Result (Option ImportTally) Refusal). ImportsTo model book key body k
          (map_answer ReturnedImport (import_on_histories model.limits model.books book key
          cards))) (sym (kept_is (Ok None) none model same w))
          (record { read = Ok cards; read_is = are; outcome_is = refl }))
          w
          (from_history (λ l b. RefinesHistories (import_step l b book key cards)
          (import_on_histories model.limits model.books book key cards)) model same w
          (follows model book key cards w.sound)) d;
    }

-- the store had no result under the key, and then imported the cards
pub imports_cards : (limits : Bounds) (old mid new : Books) (book key body : List ℕ)
    → KeptImportsRefine → ImportRefines → (cards : List (List Line)) → TextHasCards body cards
    → ReturnsExactly (Ok None) (kept_import_step old book key) old mid
    → (call_result : Result ImportTally Denied)
    → MatchesStep call_result (import_step limits mid book key cards) mid new
    → CommandOnRows limits old (Import book key body) (reply_to reply.Imported call_result) new
imports_cards limits old mid new book key body law follows cards are received call_result d =
    let none = answer_is limits old mid book key body None (kept_import_step old book key)
    received in
    imports_on limits old new book key body law follows cards are none.0 call_result
    (subst (λ (b : Books). MatchesStep call_result (import_step limits b book key cards) b new)
    none.1 d)
