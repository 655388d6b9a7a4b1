-- The planned put against the step of the model.
use Rattle.std.proofs.Common.{◌≡◌, ℕ, List, Option, Some, None, Result, Ok, Err, refl, sym, ap}
use Rattle.std.proofs.Common.{subst, ◌∙◌}
use Rattle.std.specs.FinMap as finite
use Rattle.sqlite.specs.State.{State}
use Rattle.sqlite.specs.Tree.{Trees}
use Rattle.vcard_lines.specs.declared.line.Line.{Line}
use Rattle.vcard_text.specs.Cards.{uid_of}
use Rattle.book_model.specs.declared.answers.PutAnswer.{PutAnswer}
use Rattle.book_model.specs.declared.answers.Stored.{Stored}
use Rattle.book_model.specs.declared.change.Change.TheVariants.{Stores}
use Rattle.book_model.specs.declared.change.StoreReason.{StoreReason}
use Rattle.book_model.specs.declared.denied.Denied.{Denied}
use Rattle.book_model.specs.declared.denied.Denied.TheVariants.{Refused, Fault}
use Rattle.book_model.specs.declared.refusal.Refusal.{Refusal}
use Rattle.book_model.specs.Books.{Book, Books}
use Rattle.book_model.specs.Bounds.{Bounds}
use Rattle.book_model.specs.BookChanges.{book_with_row}
use Rattle.book_model.specs.CallOutcomes.{MatchesStep, ◌>>=◌}
use Rattle.book_model.specs.Putting.{FoundMember, books_after_put, put_answer, put_store_reason}
use Rattle.store_rows.specs.TableBooks.{HeaderRow, line_row, row_book, books_of}
use Rattle.store_rows.specs.TableRows.{TableRows}
use Rattle.store_lookups.specs.CallResults.{FollowsStep, IsExactly}
use Rattle.store_writes.specs.TableChanges.{HoldBooksAfter, HoldsBooks, TreesHold}
use Rattle.store_writes.specs.internal.PutPlans.{put_answer_in}
use Rattle.store_lookups.specs.StoredBooks.{stored_books}

-- ---- what was found

abbrev pub lookup_of : Option Stored → ℕ → ℕ → FoundMember
lookup_of live cards number = record { live = live; cards = cards; number = number }

pub lookup_is : (a b : Option Stored) (m n k l : ℕ) → a ≡ b → m ≡ n → k ≡ l
    → lookup_of a m k ≡ lookup_of b n l
lookup_is a b m n k l live cards number = ap (λ x. lookup_of x m k) live
    ∙ ap (λ x. lookup_of b x k) cards ∙ ap (lookup_of b n) number

pub answer_is : (limits : Bounds) (card : List Line) (expect : Option ℕ) (a b : FoundMember) (r :
    Result PutAnswer Refusal) → a ≡ b → r ≡ put_answer limits a card expect
    → put_answer limits b card expect ≡ r
answer_is limits card expect a b r same is = ap (λ f. put_answer limits f card expect) (sym same)
    ∙ sym is

pub refusal_is_exact : {T : Type 0} (due : Result T Refusal) (refusal : Refusal) → due ≡ Err refusal
    → FollowsStep {T = T} {A = T} IsExactly (Err (Refused refusal)) due
refusal_is_exact {T = T} due refusal is =
    subst (λ d. FollowsStep {T = T} {A = T} IsExactly (Err (Refused refusal)) d) (sym is) refl

pub ok_is_exact : {T : Type 0} (due : Result T Refusal) (answer : T) → due ≡ Ok answer
    → FollowsStep {T = T} {A = T} IsExactly (Ok answer) due
ok_is_exact {T = T} due answer is = subst (λ d. FollowsStep {T = T} {A = T} IsExactly (Ok answer) d)
    (sym is) refl

-- the answer that was decided, beside another value
pub ok_is_first : {T B : Type 0} (due : Result T Refusal) (decided : T × B) → due ≡ Ok decided.0
    → FollowsStep {T = T} {A = T × B} (λ answer made. made.0 ≡ answer) (Ok decided) due
ok_is_first {T = T} {B = B} due decided is =
    subst (λ d. FollowsStep {T = T} {A = T × B} (λ answer made. made.0 ≡ answer) (Ok decided) d)
    (sym is) refl

pub first_is_ok : {T B : Type 0} (due : Result T Refusal) (decided : T × B)
    → FollowsStep {T = T} {A = T × B} (λ answer made. made.0 ≡ answer) (Ok decided) due
    → due ≡ Ok decided.0
first_is_ok (Ok asked) decided returned = ap Ok (sym returned)
first_is_ok (Err refusal) decided returned = absurd returned

-- a refusal or a fault says nothing of an answer
pub denied_follows : {T A B : Type 0} (f : T → A → Type 0) (h : T → B
    → Type 0) (due : Result T Refusal) (denied : Denied) → FollowsStep f (Err denied) due
    → FollowsStep h (Err denied) due
denied_follows f h (Ok asked) (Refused refusal) returned = absurd returned
denied_follows f h (Err wanted) (Refused refusal) returned = returned
denied_follows f h due (Fault fault) returned = tt

pub answer_is_exact : {T : Type 0} (due : Result T Refusal) (answer : T)
    → FollowsStep {T = T} {A = T} IsExactly (Ok answer) due → due ≡ Ok answer
answer_is_exact (Ok asked) answer returned = ap Ok (sym returned)
answer_is_exact (Err refusal) answer returned = absurd returned

-- ---- the step of the book

abbrev pub put_of : Bounds → Books → List ℕ → List Line → Option ℕ → Book
    → Result (PutAnswer × Books) Refusal
put_of limits books name card expect book =
    put_answer_in limits card expect book >>= λ answer. Ok (
      answer,
      books_after_put books name book card (put_store_reason answer),
    )

in_found : (limits : Bounds) (books : Books) (name : List ℕ) (card : List Line) (expect : Option ℕ)
    (book : Book) (due : Result PutAnswer Refusal) (denied : Denied) (old new : Books)
    → FollowsStep {T = PutAnswer} {A = PutAnswer} IsExactly (Err denied) due → new ≡ old
    → MatchesStep (Err denied) (due >>= λ answer. Ok (
      answer,
      books_after_put books name book card (put_store_reason answer),
    )) old new
in_found limits books name card expect book (Ok asked) (Refused refusal) old new returned same =
    absurd returned
in_found limits books name card expect book (Err wanted) (Refused refusal) old new returned same =
    (returned, same)
in_found limits books name card expect book due (Fault fault) old new returned same = same

-- nothing was stored: refused, or a fault
pub denied_put : (limits : Bounds) (books : Books) (name : List ℕ) (card : List Line) (expect :
    Option ℕ) (found : Result Book Refusal) (denied : Denied) (old new : Books)
    → FollowsStep {T = PutAnswer} {A = PutAnswer} IsExactly (Err denied)
    (found >>= put_answer_in limits card expect) → new ≡ old
    → MatchesStep (Err denied) (found >>= put_of limits books name card expect) old new
denied_put limits books name card expect (Ok book) denied old new returned same =
    in_found limits books name card expect book (put_answer_in limits card expect book) denied old
    new returned same
denied_put limits books name card expect (Err wanted) (Refused refusal) old new returned same =
    (returned, same)
denied_put limits books name card expect (Err wanted) (Fault fault) old new returned same = same

-- an equal card is live
pub same_put : (limits : Bounds) (books : Books) (name : List ℕ) (card : List Line) (expect :
    Option ℕ) (book : Book) (answer : PutAnswer) (new : Books)
    → put_answer_in limits card expect book ≡ Ok answer → put_store_reason answer ≡ None
    → new ≡ books
    → MatchesStep (Ok answer) (put_of limits books name card expect book) books new
same_put limits books name card expect book answer new is none same = rw (is, none) (refl, same)

module _ (rows : TableRows) (name : List ℕ) (header : HeaderRow) (limits : Bounds) (card :
    List Line) (expect : Option ℕ) (answer : PutAnswer) (why : StoreReason)
    (is : put_answer_in limits card expect (row_book rows (line_row name header)) ≡ Ok answer)
    (some : put_store_reason answer ≡ Some why) where
  pub stored_put : (new : State) (old : Books)
      → HoldsBooks new.now (finite.insert (books_of rows) name
      (book_with_row (row_book rows (line_row name header)) (uid_of card) (Stores card why)))
      → MatchesStep (Ok answer) (put_of limits (books_of rows) name card expect
      (row_book rows (line_row name header))) old (stored_books new)
  stored_put new old held = rw (is, some) (refl, held.books_are)

  pub put_holds : (db : Trees) → TreesHold (finite.insert (books_of rows) name
      (book_with_row (row_book rows (line_row name header)) (uid_of card) (Stores card why))) db
      → HoldBooksAfter (put_of limits (books_of rows) name card expect
      (row_book rows (line_row name header))) db
  put_holds db held = rw (is, some) held
