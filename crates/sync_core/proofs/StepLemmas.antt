-- The effect on the books is the model's step of the call.
use Rattle.std.proofs.Common.{◌≡◌, ℕ, Bool, true, false, not, List, Option, Some, None, Result, Ok}
use Rattle.std.proofs.Common.{Err, IsSome, IfSome, bytes_eq, refl, sym, ap, ◌∙◌, subst}
use Rattle.std.specs.Option.{option_map_or}
use Rattle.std.specs.FinMap as finite
use Rattle.std.proofs.lemmas.Bool.{both_ways}
use Rattle.std.proofs.lemmas.Map.Text.{is_eq-slice_cmp}
use Rattle.vcard_lines.specs.declared.line.Line.{Line}
use Rattle.vcard_text.specs.Cards.{uid_of}
use Rattle.book_model.specs.declared.answers.Moved.{Moved}
use Rattle.book_model.specs.declared.answers.PutAnswer.{PutAnswer}
use Rattle.book_model.specs.declared.answers.Stored.{Stored}
use Rattle.book_model.specs.declared.change.Change.TheVariants.{Stores, TakesAway}
use Rattle.book_model.specs.declared.change.RemovalReason.TheVariants.{Deletion}
use Rattle.book_model.specs.declared.change.StoreReason.{StoreReason}
use Rattle.book_model.specs.declared.denied.Denied.{Denied}
use Rattle.book_model.specs.declared.denied.Denied.TheVariants.{Refused}
use Rattle.book_model.specs.declared.refusal.Refusal.{Refusal}
use Rattle.book_model.specs.declared.refusal.Refusal.TheVariants.{NoSuchBook, SameBook}
use Rattle.book_model.specs.Bounds.{Bounds}
use Rattle.book_model.specs.Books.{Book, Books, fresh_book, live_at, same_name}
use Rattle.book_model.specs.BookChanges.{book_after_change}
use Rattle.book_model.specs.Creating.{new_id, create_step}
use Rattle.book_model.specs.Moving.{Moving, moving_of, move_answer, books_after_move, move_step}
use Rattle.book_model.specs.CallOutcomes.{MatchesStep, RefusalsPrecedeFaults, ◌>>=◌, refuse_unless}
use Rattle.book_model.specs.Putting.{FoundMember, put_answer, found_in_book, put_store_reason}
use Rattle.book_model.specs.Putting.{books_after_put, put_step}
use Rattle.book_model.specs.Removing.{remove_number, remove_step}

-- if the step succeeds, the result and the new books are those of the step
pub did : {A : Type 0} (answer : A) (step : Result (A × Books) Refusal) (old new : Books)
    → step ≡ Ok (answer, new) → MatchesStep {A = A} (Ok answer) step old new
did {A = A} answer step old new e =
    subst (λ (r : Result (A × Books) Refusal). MatchesStep {A = A} (Ok answer) r old new) (sym e)
    (refl, refl)

module _ (limits : Bounds) (books : Books) (name : List ℕ) (book : Book) (at : finite.get books name
    ≡ Some book) where
  pub puts : (card : List Line) (expect : Option ℕ) (answer : PutAnswer) (why : StoreReason) (new :
      Books) → put_answer limits (found_in_book book (uid_of card)) card expect ≡ Ok answer
      → put_store_reason answer ≡ Some why
      → new ≡ finite.insert books name (book_after_change book (uid_of card) (Stores card why))
      → MatchesStep {A = PutAnswer} (Ok answer) (put_step limits books name card expect) books new
  puts card expect answer why new answered reason wrote =
      let last : Book → PutAnswer → Result (PutAnswer × Books) Refusal =
      λ b a. Ok (a, books_after_put books name b card (put_store_reason a)) in
      did answer (put_step limits books name card expect) books new
      (ap (λ o. option_map_or Ok o (Err NoSuchBook) >>= λ b. put_answer limits
      (found_in_book b (uid_of card)) card expect >>= last b) at
      ∙ ap (λ r. r >>= last book) answered
      ∙ ap (λ r. Ok (answer, books_after_put books name book card r)) reason
      ∙ ap (λ n. Ok (answer, n)) (sym wrote))

  pub removes : (uid : List ℕ) (expect : Option ℕ) (number : ℕ) (new : Books)
      → remove_number limits (found_in_book book uid) expect ≡ Ok number
      → new ≡ finite.insert books name (book_after_change book uid (TakesAway Deletion))
      → MatchesStep {A = ℕ} (Ok number) (remove_step limits books name uid expect) books new
  removes uid expect number new answered wrote =
      let last : Book → ℕ → Result (ℕ × Books) Refusal =
      λ b n. Ok (n, finite.insert books name (book_after_change b uid (TakesAway Deletion))) in
      did number (remove_step limits books name uid expect) books new
      (ap (λ o. option_map_or Ok o (Err NoSuchBook) >>= λ b. remove_number limits
      (found_in_book b uid) expect >>= last b) at
      ∙ ap (λ r. r >>= last book) answered
      ∙ ap (λ n. Ok (number, n)) (sym wrote))

pub creates : (limits : Bounds) (books : Books) (name : List ℕ) (id : ℕ) (new : Books)
    → new_id limits name (finite.contains_key books name) (finite.len books) ≡ Ok id
    → new ≡ finite.insert books name (fresh_book id limits.keep)
    → MatchesStep {A = ℕ} (Ok id) (create_step limits books name) books new
creates limits books name id new given wrote =
    did id (create_step limits books name) books new
    (ap (λ r. r >>= λ i. Ok (i, finite.insert books name (fresh_book i limits.keep))) given
    ∙ ap (λ n. Ok (id, n)) (sym wrote))

module _ (limits : Bounds) (books : Books) (from to uid : List ℕ) (expect : Option ℕ)
    (source target : Book) (at_from : finite.get books from ≡ Some source) (at_to :
    finite.get books to ≡ Some target) where
  abbrev answered : Book → Book → Moving → Result (Moved × Books) Refusal
  answered s t moving = Ok (moving.numbers, books_after_move books from to uid s t moving.card)

  abbrev by_books : Bool → Book → Book → Result (Moved × Books) Refusal
  by_books same s t = refuse_unless (not same) SameBook >>= λ _. move_answer limits
      (found_in_book s uid) (found_in_book t uid) expect >>= answered s t

  by_test : (same : Bool) → bytes_eq from to ≡ same → move_step limits books from to uid expect
      ≡ by_books same source target
  by_test same e =
      ap (λ o. option_map_or Ok o (Err NoSuchBook) >>= λ s. option_map_or Ok (finite.get books to)
      (Err NoSuchBook) >>= λ t. by_books (same_name from to) s t) at_from
      ∙ ap (λ o. option_map_or Ok o (Err NoSuchBook) >>= λ t. by_books (same_name from to) source t)
      at_to
      ∙ ap (λ b. by_books b source target) (is_eq-slice_cmp from to ∙ e)

  pub step_same : bytes_eq from to ≡ true → move_step limits books from to uid expect ≡ Err SameBook
  step_same e = by_test true e

  pub step_refused : (refusal : Refusal) → bytes_eq from to ≡ false
      → move_answer limits (found_in_book source uid) (found_in_book target uid) expect
      ≡ Err refusal → move_step limits books from to uid expect ≡ Err refusal
  step_refused refusal e r = by_test false e ∙ ap (λ m. m >>= answered source target) r

  pub step_done : (moving : Moving) → bytes_eq from to ≡ false
      → move_answer limits (found_in_book source uid) (found_in_book target uid) expect ≡ Ok moving
      → move_step limits books from to uid expect ≡ Ok (
        moving.numbers,
        books_after_move books from to uid source target moving.card,
      )
  step_done moving e r = by_test false e ∙ ap (λ m. m >>= answered source target) r

  -- the look-ups in both books decide
  pub answer_of : (s t : FoundMember) (r : Result Moving Refusal) → s ≡ found_in_book source uid
      → t ≡ found_in_book target uid → move_answer limits s t expect ≡ r
      → move_answer limits (found_in_book source uid) (found_in_book target uid) expect ≡ r
  answer_of s t r es et e = sym (ap (λ (f : FoundMember). move_answer limits f t expect) es
      ∙ ap (λ (f : FoundMember). move_answer limits (found_in_book source uid) f expect) et) ∙ e

  pub step_moves : (s t : FoundMember) (moved : Moved) → s ≡ found_in_book source uid
      → t ≡ found_in_book target uid → bytes_eq from to ≡ false → IsSome s.live
      → IfSome s.live (λ stored. move_answer limits s t expect ≡ Ok (moving_of stored.card moved))
      → (stored : Stored) × (live_at source uid ≡ Some stored)
      × (move_step limits books from to uid expect ≡ Ok (
        moved,
        books_after_move books from to uid source target stored.card,
      ))
  step_moves s t moved es et apart live answer =
      let is = live_one s.live live (λ (stored : Stored). move_answer limits s t expect
      ≡ Ok (moving_of stored.card moved)) answer in (
        is.0,
        sym (ap (λ (f : FoundMember). f.live) es)
            ∙ is.1,
        step_done (moving_of is.0.card moved) apart
            (answer_of s t (Ok (moving_of is.0.card moved)) es et is.2),
      )
    where
      live_one : (o : Option Stored) → IsSome o → (P : Stored → Type 0) → IfSome o P → (x : Stored)
          × (o ≡ Some x) × P x
      live_one (Some x) i P p = (x, refl, p)
      live_one None i P p = absurd (both_ways false refl i)

  pub moved_books : (new : Books) (stored : Stored) → live_at source uid ≡ Some stored
      → IfSome (finite.get books from) (λ s. IfSome (live_at s uid)
      (λ x. IfSome (finite.get books to) (λ t. new ≡ books_after_move books from to uid s t
      x.card)))
      → new ≡ books_after_move books from to uid source target stored.card
  moved_books new stored live wrote =
      let at_source =
      subst (λ (o : Option Book). IfSome o (λ s. IfSome (live_at s uid)
      (λ (x : Stored). IfSome (finite.get books to) (λ t. new ≡ books_after_move books from to
      uid s t x.card)))) at_from wrote in
      let at_card =
      subst (λ (o : Option Stored). IfSome o (λ (x : Stored). IfSome (finite.get books to)
      (λ t. new ≡ books_after_move books from to uid source t x.card))) live at_source in
      subst (λ (o : Option Book). IfSome o (λ t. new ≡ books_after_move books from to uid source t
      stored.card)) at_to at_card

-- a step that refuses is refused, and leaves the books unchanged
pub refuses : {A : Type 0} (refusal : Refusal) (step : Result (A × Books) Refusal) (books : Books)
    → step ≡ Err refusal → MatchesStep {A = A} (Err (Refused refusal)) step books books
refuses {A = A} refusal step books e =
    subst (λ (r : Result (A × Books) Refusal). MatchesStep {A = A} (Err (Refused refusal)) r books
    books) (sym e) (refl, refl)

pub refuses_first : {A : Type 0} (refusal : Refusal) (step : Result (A × Books) Refusal)
    → step ≡ Err refusal → RefusalsPrecedeFaults {A = A} (Err (Refused refusal)) step
refuses_first {A = A} refusal step e =
    subst (λ (r : Result (A × Books) Refusal). RefusalsPrecedeFaults {A = A} (Err (Refused refusal))
    r) (sym e) refl

pub refuses_nothing : {A : Type 0} (result : Result A Denied) (done : A × Books) (step :
    Result (A × Books) Refusal) → step ≡ Ok done → RefusalsPrecedeFaults result step
refuses_nothing {A = A} result done step e =
    subst (λ (r : Result (A × Books) Refusal). RefusalsPrecedeFaults result r) (sym e) tt
