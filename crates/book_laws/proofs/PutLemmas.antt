-- A put that is accepted may happen.
use Rattle.std.proofs.Common.{◌≡◌, ℕ, ◌+◌, Bool, true, false, cond, nat_lt, Result, Ok, Some, None}
use Rattle.std.proofs.Common.{Option, List, refl, ap, ◌∙◌, subst}
use Rattle.std.proofs.lemmas.Bool.{both_ways}
use Rattle.vcard_lines.specs.declared.line.Line.{Line}
use Rattle.book_model.specs.declared.change.StoreReason.{StoreReason}
use Rattle.book_model.specs.declared.change.StoreReason.TheVariants.{Creation, Edit}
use Rattle.book_model.specs.declared.refusal.Refusal.TheVariants.{VersionMismatch, BookFull}
use Rattle.book_model.specs.declared.refusal.Refusal.TheVariants.{ChangesSpent}
use Rattle.book_model.specs.declared.answers.PutAnswer.{PutAnswer}
use Rattle.book_model.specs.declared.answers.PutAnswer.TheVariants.{Created, Edited, Unchanged}
use Rattle.book_model.specs.declared.answers.Stored.{Stored}
use Rattle.book_model.specs.declared.refusal.Refusal.{Refusal}
use Rattle.book_model.specs.Bounds.{Bounds}
use Rattle.book_laws.specs.ValidLogs.{MayStore}
use Rattle.book_model.specs.CallOutcomes.{◌>>=◌, refuse_unless}
use Rattle.book_model.specs.Putting.{FoundMember, answer_over_live, put_answer, put_store_reason}
use Rattle.book_model.specs.Putting.{is_expected, version_of}
use Rattle.book_model.specs.SameCards.{same_card}
use Rattle.book_model.proofs.SameCardLemmas.{card-Decides}

module _ (card : List Line) (answer : PutAnswer) (why : StoreReason) (reason :
    put_store_reason answer ≡ Some why) where
  new_may : (room left : Bool) (n : ℕ)
      → (refuse_unless room BookFull >>= λ _. (refuse_unless left ChangesSpent >>= λ _. Ok n) >>=
      λ version. Ok (Created version)) ≡ Ok answer → MayStore why card None
  new_may true true n e =
      let is : Created n ≡ answer = cc in
      let same : Some Creation ≡ Some why = ap put_store_reason is ∙ reason in
      let because : Creation ≡ why = cc in subst (λ (w : StoreReason). MayStore w card None) because
      refl
  new_may true false n e = cc
  new_may false left n e = cc

  over_may : (stored : Stored) (same left : Bool) (n : ℕ) → same_card stored.card card ≡ same
      → cond same (Ok (Unchanged stored.version)) ((refuse_unless left ChangesSpent >>= λ _. Ok n)
      >>= λ version. Ok (Edited version)) ≡ Ok answer → MayStore why card (Some stored)
  over_may stored true left n s e =
      let is : Unchanged stored.version ≡ answer = cc in
      let none : None ≡ Some why = ap put_store_reason is ∙ reason in cc
  over_may stored false true n s e =
      let is : Edited n ≡ answer = cc in
      let same : Some Edit ≡ Some why = ap put_store_reason is ∙ reason in
      let because : Edit ≡ why = cc in
      subst (λ (w : StoreReason). MayStore w card (Some stored)) because
      (λ eq. both_ways _ s ((card-Decides stored.card card).1 eq))
  over_may stored false false n s e = cc

  pub answer_may : (limits : Bounds) (found : FoundMember) (live : Option Stored)
      → answer_over_live limits found card live ≡ Ok answer → MayStore why card live
  answer_may limits found None e = new_may (nat_lt found.cards limits.cards_max)
      (nat_lt found.number limits.changes_max) (found.number + 1) e
  answer_may limits found (Some stored) e =
      over_may stored (same_card stored.card card) (nat_lt found.number limits.changes_max)
      (found.number + 1) refl e

past_test : (b : Bool) (refusal : Refusal) (r : Result PutAnswer Refusal) (answer : PutAnswer)
    → (refuse_unless b refusal >>= λ _. r) ≡ Ok answer → r ≡ Ok answer
past_test true refusal r answer e = e
past_test false refusal r answer e = cc

pub may_store : (limits : Bounds) (found : FoundMember) (card : List Line) (expect : Option ℕ)
    (answer : PutAnswer) (why : StoreReason) → put_answer limits found card expect ≡ Ok answer
    → put_store_reason answer ≡ Some why → MayStore why card found.live
may_store limits found card expect answer why e reason =
    answer_may card answer why reason limits found found.live
    (past_test (is_expected expect (version_of found.live))
    (VersionMismatch (version_of found.live)) (answer_over_live limits found card found.live)
    answer e)
