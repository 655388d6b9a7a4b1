-- What holds of an answer, past the tests of its step.
use Rattle.std.proofs.Common.{◌≡◌, Bool, true, false, List, ℕ, Option, Some, None, Result, Ok, Err}
use Rattle.std.proofs.Common.{refl}
use Rattle.std.specs.Result.{IfOk}
use Rattle.std.specs.Option.{option_map_or}
use Rattle.std.specs.FinMap as finite
use Rattle.book_model.specs.declared.refusal.Refusal.{Refusal}
use Rattle.book_model.specs.declared.refusal.Refusal.TheVariants.{NoSuchBook}
use Rattle.book_model.specs.Books.{Book, Books, book_named}
use Rattle.book_model.specs.CallOutcomes.{◌>>=◌, refuse_unless}

module _ {B : Type 0} (P : B → Type 0) where
  pub after_test : (test : Bool) (refusal : Refusal) (r : Result B Refusal)
      → (test ≡ true → IfOk r P) → IfOk (refuse_unless test refusal >>= λ _. r) P
  after_test true refusal r h = h refl
  after_test false refusal r h = tt

  -- by what holds of an answer before it
  pub after_known : {A : Type 0} (Q : A → Type 0) (given : Result A Refusal) (f : A
      → Result B Refusal) → IfOk given Q → ((x : A) → Q x → IfOk (f x) P) → IfOk (given >>= f) P
  after_known Q (Ok x) f q h = h x q
  after_known Q (Err refusal) f q h = tt

  pub after_any : {A : Type 0} (given : Result A Refusal) (f : A → Result B Refusal)
      → ((x : A) → IfOk (f x) P) → IfOk (given >>= f) P
  after_any (Ok x) f h = h x
  after_any (Err refusal) f h = tt

  pub after_named : (books : Books) (name : List ℕ) (f : Book → Result B Refusal)
      → ((book : Book) → finite.get books name ≡ Some book → IfOk (f book) P)
      → IfOk (book_named books name >>= f) P
  after_named books name f h = by (finite.get books name) h
    where
      by : (o : Option Book) → ((book : Book) → o ≡ Some book → IfOk (f book) P)
          → IfOk (option_map_or Ok o (Err NoSuchBook) >>= f) P
      by (Some book) h = h book refl
      by None h = tt
