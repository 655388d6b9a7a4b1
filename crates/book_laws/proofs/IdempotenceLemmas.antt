-- Imports are idempotent: the tally is kept, and no call removes it.
use Rattle.std.proofs.Common.{◌≡◌, ℕ, Bool, true, false, List, Option, Some, None, Result, Ok, Err}
use Rattle.std.proofs.Common.{length, refl, ap, ◌∙◌}
use Rattle.std.specs.Option.{option_map_or}
use Rattle.std.specs.FinMap as finite
use Rattle.vcard_lines.specs.declared.line.Line.{Line}
use Rattle.book_model.specs.declared.answers.ImportTally.{ImportTally}
use Rattle.book_model.specs.declared.refusal.Refusal.{Refusal}
use Rattle.book_model.specs.declared.refusal.Refusal.TheVariants.{NoSuchBook, BadKey}
use Rattle.book_model.specs.Bounds.{Bounds}
use Rattle.book_laws.specs.Calls.{Call, ImportCall, CallAnswer, ReturnedImport, map_answer}
use Rattle.book_laws.specs.Calls.{call_on_histories, answer_only, state_after_call}
use Rattle.book_laws.specs.Calls.{histories_after_call, histories_after_calls}
use Rattle.book_laws.specs.EventLogs.{live}
use Rattle.book_model.specs.Importing.{import_tally, is_legal_key}
use Rattle.book_model.specs.CallOutcomes.{◌>>=◌, refuse_unless}
use Rattle.book_laws.specs.RunLaws.{ImportCallsAreIdempotent}
use Rattle.book_laws.specs.StoreHistories.{BookHistory, BookHistories}
use Rattle.book_laws.specs.HistoryChanges.{history_import, history_with_kept_import}
use Rattle.book_laws.specs.HistoryChanges.{import_on_histories_under}
use Rattle.book_laws.proofs.ExtensionLemmas.{calls_extend_histories}
use Rattle.base_types.proofs.TextLemmas.{get-insert_here}

-- the book keeps the answer under the key
record IsKept (histories : BookHistories) (name key : List ℕ) (tally : ImportTally) : Type 0 where
  history : BookHistory
  found : finite.get histories name ≡ Some history
  legal : is_legal_key key ≡ true
  kept : finite.get history.imports key ≡ Some tally

same_tally_returned : (x tally : ImportTally)
    → ◌≡◌ {A = Result CallAnswer Refusal} (Ok (ReturnedImport x)) (Ok (ReturnedImport tally))
    → x ≡ tally
same_tally_returned x tally e = cc

no_tally_returned : (refusal : Refusal) (tally : ImportTally)
    → ◌≡◌ {A = Result CallAnswer Refusal} (Err refusal) (Ok (ReturnedImport tally)) → ⊥
no_tally_returned refusal tally e = cc

module _ (limits : Bounds) (histories : BookHistories) (name key : List ℕ) (tally : ImportTally)
  where
    -- the state after an accepted import
    abbrev Kept : Result (ImportTally × BookHistories) Refusal → Type 0
    Kept wanted = answer_only (map_answer ReturnedImport wanted) ≡ Ok (ReturnedImport tally)
        → IsKept (state_after_call histories (map_answer ReturnedImport wanted)) name key tally

    by_tally : (cards : List (List Line)) (history : BookHistory) (legal : is_legal_key key ≡ true)
        (given : Result ImportTally Refusal)
        → Kept (given >>= λ t. Ok (
          t,
          finite.insert histories name
              (history_with_kept_import (history_import history cards).book key t),
        ))
    by_tally cards history legal (Ok t) e =
        let is = same_tally_returned t tally e in
        record {
          history = history_with_kept_import (history_import history cards).book key t;
          found = get-insert_here histories name
              (history_with_kept_import (history_import history cards).book key t);
          legal = legal;
          kept = get-insert_here (history_import history cards).book.imports key t
              ∙ ap (λ (x : ImportTally). Some x) is;
        }
    by_tally cards history legal (Err refusal) e = absurd (no_tally_returned refusal tally e)

    by_kept : (cards : List (List Line)) (history : BookHistory)
        → finite.get histories name ≡ Some history → is_legal_key key ≡ true
        → (kept : Option ImportTally) → finite.get history.imports key ≡ kept
        → Kept (import_on_histories_under limits histories name history key cards kept)
    by_kept cards history found legal (Some t) at e = record {
      history = history;
      found = found;
      legal = legal;
      kept = at ∙ ap (λ (x : ImportTally). Some x) (same_tally_returned t tally e);
    }
    by_kept cards history found legal None at e =
        by_tally cards history legal (import_tally limits (history_import history cards)
        (finite.len (live (history_import history cards).book.log))
        (length (history_import history cards).book.log)) e

    by_test : (cards : List (List Line)) (history : BookHistory)
        → finite.get histories name ≡ Some history → (test : Bool) → is_legal_key key ≡ test
        → Kept (refuse_unless test BadKey >>= λ _. import_on_histories_under limits histories name
        history key cards (finite.get history.imports key))
    by_test cards history found true legal =
        by_kept cards history found legal (finite.get history.imports key) refl
    by_test cards history found false legal = λ e. absurd (no_tally_returned BadKey tally e)

    by_history : (cards : List (List Line)) (o : Option BookHistory) → finite.get histories name ≡ o
        → Kept (option_map_or Ok o (Err NoSuchBook) >>= λ history. refuse_unless (is_legal_key key)
        BadKey >>= λ _. import_on_histories_under limits histories name history key cards
        (finite.get history.imports key))
    by_history cards (Some history) found = by_test cards history found (is_legal_key key) refl
    by_history cards None found = λ e. absurd (no_tally_returned NoSuchBook tally e)

    import_kept : (cards : List (List Line))
        → answer_only (call_on_histories limits histories (ImportCall name key cards))
        ≡ Ok (ReturnedImport tally) → IsKept (histories_after_call limits histories
        (ImportCall name key cards)) name key tally
    import_kept cards = by_history cards (finite.get histories name) refl

    still_kept : (calls : List Call) → IsKept histories name key tally
        → IsKept (histories_after_calls limits histories calls) name key tally
    still_kept calls k =
        let g = calls_extend_histories limits histories calls name k.history k.found in
        record { history = g.0; found = g.1; legal = k.legal; kept = g.2.imports key tally k.kept }

    -- an import with a kept key
    acts_not : (others : List (List Line)) → IsKept histories name key tally
        → call_on_histories limits histories (ImportCall name key others) ≡ Ok (
          ReturnedImport tally,
          histories,
        )
    acts_not others k = ap (map_answer ReturnedImport) (
        ap (λ (o : Option BookHistory). option_map_or Ok o (Err NoSuchBook) >>= rest) k.found
        ∙ ap (λ b. refuse_unless b BadKey >>= λ _. import_on_histories_under limits histories name
        k.history key others (finite.get k.history.imports key)) k.legal
        ∙ ap (import_on_histories_under limits histories name k.history key others) k.kept
        )
      where
        rest : BookHistory → Result (ImportTally × BookHistories) Refusal
        rest history = refuse_unless (is_legal_key key) BadKey >>= λ _. import_on_histories_under
            limits histories name history key others (finite.get history.imports key)

pub imports_are_idempotent : ImportCallsAreIdempotent
imports_are_idempotent limits histories name key cards others tally between e =
    let first = histories_after_call limits histories (ImportCall name key cards) in
    let later = histories_after_calls limits first between in
    acts_not limits later name key tally others (still_kept limits first name key tally between
    (import_kept limits histories name key tally cards e))
