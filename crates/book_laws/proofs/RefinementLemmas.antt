-- How a step on rows refines the same call on histories, test by test.
use Rattle.std.proofs.Common.{◌≡◌, ℕ, Bool, true, false, List, Option, Some, None, Result, Ok, Err}
use Rattle.std.proofs.Common.{refl, sym, subst}
use Rattle.std.specs.Option.{option_map, option_map_or}
use Rattle.std.specs.FinMap as finite
use Rattle.book_model.specs.declared.refusal.Refusal.{Refusal}
use Rattle.book_model.specs.declared.refusal.Refusal.TheVariants.{NoSuchBook}
use Rattle.book_model.specs.Books.{Book, Books, book_named}
use Rattle.book_model.specs.CallOutcomes.{◌>>=◌, refuse_unless}
use Rattle.book_laws.specs.StoreHistories.{BookHistory, BookHistories, IsSoundHistory}
use Rattle.book_laws.specs.StoreHistories.{AreSoundHistories, book_of_history, rows_of}
use Rattle.book_laws.specs.HistorySteps.{history_named}
use Rattle.book_laws.specs.Refinement.{RefinesHistories}
use Rattle.book_laws.proofs.StoreHistoryLemmas.{get-rows}

-- an answer is the same answer
module _ {A : Type 0} where
  -- the book of a name, where there is one
  pub follow_named : (histories : BookHistories) (name : List ℕ) (f : Book
      → Result (A × Books) Refusal) (g : BookHistory → Result (A × BookHistories) Refusal)
      → AreSoundHistories histories
      → ((history : BookHistory) → finite.get histories name ≡ Some history → IsSoundHistory history
      → RefinesHistories (f (book_of_history history)) (g history))
      → RefinesHistories (book_named (rows_of histories) name >>= f) (history_named histories name
      >>= g)
  follow_named histories name f g sound each =
      subst (λ (o : Option Book). RefinesHistories (option_map_or Ok o (Err NoSuchBook) >>= f)
      (history_named histories name >>= g)) (sym (get-rows histories name))
      (by_history (finite.get histories name) (λ history e. each history e (sound name history e)))
    where
      by_history : (o : Option BookHistory) → ((history : BookHistory) → o ≡ Some history
          → RefinesHistories (f (book_of_history history)) (g history))
          → RefinesHistories (option_map_or Ok (option_map book_of_history o) (Err NoSuchBook) >>=
          f) (option_map_or Ok o (Err NoSuchBook) >>= g)
      by_history None each = refl
      by_history (Some history) each = each history refl

  -- the same test on both sides
  pub follow_test : (test : Bool) (refusal : Refusal) (f : Result (A × Books) Refusal) (g :
      Result (A × BookHistories) Refusal) → (test ≡ true → RefinesHistories f g)
      → RefinesHistories (refuse_unless test refusal >>= λ _. f) (refuse_unless test refusal >>=
      λ _. g)
  follow_test true refusal f g h = h refl
  follow_test false refusal f g h = refl

  -- the same answer on both sides
  pub follow_given : {B : Type 0} (given : Result B Refusal) (f : B → Result (A × Books) Refusal)
      (g : B → Result (A × BookHistories) Refusal)
      → ((x : B) → given ≡ Ok x → RefinesHistories (f x) (g x))
      → RefinesHistories (given >>= f) (given >>= g)
  follow_given (Ok x) f g h = h x refl
  follow_given (Err refusal) f g h = refl
