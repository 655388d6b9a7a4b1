-- Forgetting in the rows refines that on histories.
use Rattle.std.proofs.Common.{◌≤◌, length}
use Rattle.std.proofs.lemmas.Bool.{and_parts, leb-true}
use Rattle.book_model.specs.declared.refusal.Refusal.TheVariants.{BadForget}
use Rattle.book_model.specs.Forgetting.{book_after_forget, may_forget}
use Rattle.book_laws.specs.ChangeRefinement.{ForgetRefines}
use Rattle.book_laws.specs.StoreHistories.{book_of_history}
use Rattle.book_laws.specs.HistoryChanges.{with_horizon}
use Rattle.book_laws.proofs.RefinementLemmas.{follow_named, follow_test}
use Rattle.book_laws.proofs.PassingRows.{dropped_is, book_forgotten}
use Rattle.book_laws.proofs.RememberLemmas.{sound_forgotten}
use Rattle.book_laws.proofs.StoreHistoryLemmas.{wrote_history}

pub forgetting_follows : ForgetRefines
forgetting_follows histories name upto all =
    follow_named histories name _ _ all (λ history at sound.
    follow_test (may_forget history.horizon (length history.log) upto) BadForget _ _ (λ allowed.
    let parts = and_parts _ _ allowed in
    let rises : history.horizon ≤ upto = leb-true _ _ parts.0 in
    let within_log : upto ≤ length history.log = leb-true _ _ parts.1 in (
      dropped_is history upto,
      wrote_history histories name (with_horizon history upto)
          (book_after_forget (book_of_history history) upto) all (sound_forgotten history upto sound
          rises within_log) (book_forgotten history upto rises),
    )))
