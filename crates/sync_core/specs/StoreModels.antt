-- What contracts know of a store of books, whatever it keeps them in.
use Rattle.std.specs.Prelude.{◌≡◌, Result}
use Rattle.book_model.specs.Bounds.{Bounds, IsInRange}
use Rattle.book_model.specs.Books.{Books}
use Rattle.book_model.specs.CallOutcomes.{MatchesQuery, MatchesStep}
use Rattle.book_model.specs.declared.denied.Denied.{Denied}
use Rattle.book_model.specs.declared.denied.Fault.{Fault}
use Rattle.book_model.specs.declared.refusal.Refusal.{Refusal}

-- what contracts know of a store of books
pub record StoreModel (S : Type 0) : Type 1 where
  -- the rows of each book, by the book's name
  pub books : S → Books
  -- the limits
  pub limits : S → Bounds
  -- what the guarantees of all calls so far depend on
  pub premise : S → Type 0
  -- the faults that a call may return
  pub may_fault : Fault → Type 0
  -- The rows of each book that an opening after a crash at this moment may find; none, if a crash
  -- loses the store.
  pub may_leave : S → Books → Type 0

module _ {S : Type 0} (model : StoreModel S) where
  -- Every call does this, whatever it returns: if the premise holds now, it held before, and the
  -- limits are unchanged and in range.
  pub record KeepsTerms (old new : S) : Type 0 where
    pub premise : model.premise new → model.premise old
    pub limits : model.limits new ≡ model.limits old
    pub range : IsInRange (model.limits new)

  -- if the premise holds, the rows are unchanged
  abbrev pub KeepsBooks : S → S → Type 0
  KeepsBooks old new = model.premise new → model.books new ≡ model.books old

  -- if the premise holds, the call matches this step on the limits and the rows
  abbrev pub PerformsStep : {A : Type 0} → S → S → Result A Denied
      → (Bounds → Books → Result (A × Books) Refusal)
      → Type 0
  PerformsStep old new returned step =
      model.premise new →
      MatchesStep returned (step (model.limits old) (model.books old)) (model.books old)
      (model.books new)

  -- if the premise holds, the call matches this query on the limits and the rows
  abbrev pub AnswersQuery : {T A : Type 0} → (T → A → Type 0) → S → S → Result A Denied
      → (Bounds → Books → Result T Refusal)
      → Type 0
  AnswersQuery allows old new returned query =
      model.premise new →
      MatchesQuery allows returned (query (model.limits old) (model.books old)) (model.books old)
      (model.books new)

  -- the same if the answer is exactly the query's result
  abbrev pub AnswersExactly : {A : Type 0} → S → S → Result A Denied
      → (Bounds → Books → Result A Refusal)
      → Type 0
  AnswersExactly old new returned query =
      AnswersQuery (λ expected answer. answer ≡ expected) old new returned query
