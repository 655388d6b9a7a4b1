-- The decisions of a put and an import, by the live card, case by case.
use Rattle.std.proofs.Common.{◌≡◌, ◌≢◌, ℕ, Result, Ok, Some, None, Option, List, Bor, sym, ap, ◌∙◌}
use Rattle.std.proofs.lemmas.Bool.{cond-true, cond-false, false_from_ne_true}
use Rattle.vcard_lines.specs.declared.line.Line.{Line}
use Rattle.book_model.specs.declared.answers.PutAnswer.{PutAnswer}
use Rattle.book_model.specs.declared.answers.PutAnswer.TheVariants.{Edited, Unchanged}
use Rattle.book_model.specs.declared.change.StoreReason.{StoreReason}
use Rattle.book_model.specs.declared.change.StoreReason.TheVariants.{ImportEdit}
use Rattle.book_model.specs.declared.refusal.Refusal.{Refusal}
use Rattle.book_model.specs.Bounds.{Bounds}
use Rattle.book_model.specs.Books.{as_stored}
use Rattle.book_model.specs.Importing.{import_reason}
use Rattle.book_model.specs.CallOutcomes.{◌>>=◌}
use Rattle.book_model.specs.Putting.{FoundMember, answer_over_live, next_number}
use Rattle.book_model.proofs.SameCardLemmas.{card-Decides}

-- the next number is the version of the edited card
abbrev pub edited : Result ℕ Refusal → Result PutAnswer Refusal
edited number = number >>= λ version. Ok (Edited version)

abbrev pub Live : Type 0
Live = Option (ℕ × Bor (List Line))

module _ (card : List Line) (version : ℕ) (stored : Bor (List Line)) (live : Live) (is :
    live ≡ Some (version, stored)) where
  module _ (limits : Bounds) (found : FoundMember) where
    at_live : Live → Result PutAnswer Refusal
    at_live o = answer_over_live limits found card (as_stored o)

    pub over_same : stored.now ≡ card → Ok (Unchanged version) ≡ answer_over_live limits found card
        (as_stored live)
    unfolding at_live
    over_same e = sym (ap at_live is ∙ cond-true _ _ _ ((card-Decides stored.now card).1 e))

    pub over_other : stored.now ≢ card → edited (next_number limits found.number)
        ≡ answer_over_live limits found card (as_stored live)
    unfolding at_live
    over_other ne = sym (ap at_live is
        ∙ cond-false _ _ _ (false_from_ne_true _ (λ e. ne ((card-Decides stored.now card).0 e))))

  reason_at : Live → Option StoreReason
  reason_at o = import_reason card (as_stored o)

  pub reason_same : stored.now ≡ card → None ≡ import_reason card (as_stored live)
  unfolding reason_at
  reason_same e = sym (ap reason_at is ∙ cond-true _ _ _ ((card-Decides stored.now card).1 e))

  pub reason_other : stored.now ≢ card → Some ImportEdit ≡ import_reason card (as_stored live)
  unfolding reason_at
  reason_other ne = sym (ap reason_at is
      ∙ cond-false _ _ _ (false_from_ne_true _ (λ e. ne ((card-Decides stored.now card).0 e))))
