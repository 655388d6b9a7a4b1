-- What a crash leaves of a store of books, after each call and before it is opened again.
use Rattle.std.specs.Prelude.{◌≡◌, ◌⊎◌, Result, Ok, Err}
use Rattle.book_model.specs.Bounds.{Bounds}
use Rattle.book_model.specs.Books.{Books}
use Rattle.book_model.specs.declared.denied.Denied.{Denied}
use Rattle.book_model.specs.declared.denied.Denied.TheVariants.{Refused, Fault}
use Rattle.book_model.specs.declared.refusal.Refusal.{Refusal}
use Rattle.sync_core.specs.StoreModels.{StoreModel}

-- unless the call returned a fault, this holds
abbrev pub UnlessFault : {A : Type 0} → Result A Denied → Type 0 → Type 0
UnlessFault (Ok answer) Then = Then
UnlessFault (Err (Refused refusal)) Then = Then
UnlessFault (Err (Fault fault)) Then = Unit {0}

-- these are the books, or other state, after the step, which isn't refused
abbrev pub IsAfterStep : {A S : Type 0} → Result (A × S) Refusal → S → Type 0
IsAfterStep (Ok done) state = state ≡ done.1
IsAfterStep (Err refusal) state = ⊥

module _ {S : Type 0} (model : StoreModel S) where
  -- if the premise holds, a crash now leaves the rows as they are
  abbrev pub IsSettled : S → Type 0
  IsSettled now = model.premise now → (books : Books) → model.may_leave now books →
      books ≡ model.books now

  -- What an opening after a crash may find: what it could find before the call, or rows of which
  -- this holds (`only`). While the premise holds, it finds the store's rows (`settled`). A call that
  -- wasn't answered with a fault leaves the premise true (`answered`); this is asked only of a store
  -- of which a crash leaves something.
  pub record LeavesOr {A : Type 0} (old new : S) (returned : Result A Denied)
      (Made : Books → Type 0) : Type 0 where
    pub only : (books : Books) → model.may_leave new books → model.may_leave old books ⊎ Made books
    pub settled : IsSettled new
    pub answered : (books : Books) → model.may_leave new books →
        UnlessFault returned (model.premise new)

  -- a call that reads: a crash leaves what it could leave before
  abbrev pub LeavesNoMore : {A : Type 0} → S → S → Result A Denied → Type 0
  LeavesNoMore old new returned = LeavesOr old new returned (λ _. ⊥)

  -- A call that makes this step: a crash leaves what it could leave before, or the rows after the
  -- whole step, which was made over a store whose premise held.
  abbrev pub LeavesStep : {A B : Type 0} → S → S → Result A Denied
      → (Bounds → Books → Result (B × Books) Refusal)
      → Type 0
  LeavesStep old new returned step = LeavesOr old new returned (λ books. model.premise old
      × IsAfterStep (step (model.limits old) (model.books old)) books)

  -- The new store was opened after a crash of the old one: it has its limits, and rows that the crash
  -- may leave. If a crash of it may leave any rows at all, its premise holds.
  pub record RestartsFrom (old new : S) : Type 0 where
    pub limits : model.limits new ≡ model.limits old
    pub finds : model.premise new → ∥ model.may_leave old (model.books new) ∥₁
    pub settled : IsSettled new
    pub opened : (books : Books) → model.may_leave new books → model.premise new
