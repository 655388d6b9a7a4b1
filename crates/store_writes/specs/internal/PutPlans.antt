-- The outcome of a put, computed from the tables before anything is written.
use Rattle.std.specs.Prelude.{◌≡◌, ℕ, Bool, List, Option, Result, Ok, Err}
use Rattle.vcard_lines.specs.declared.line.Line.{Line}
use Rattle.vcard_text.specs.Cards.{uid_of}
use Rattle.book_model.specs.declared.answers.PutAnswer.{PutAnswer}
use Rattle.book_model.specs.declared.denied.Denied.{Denied}
use Rattle.book_model.specs.declared.refusal.Refusal.{Refusal}
use Rattle.book_model.specs.Counts.{is_tombstone_at}
use Rattle.book_model.specs.Bounds.{Bounds}
use Rattle.book_model.specs.Books.{Book, book_named}
use Rattle.book_model.specs.CallOutcomes.{◌>>=◌}
use Rattle.book_model.specs.Putting.{found_in_book, put_answer}
use Rattle.store_rows.specs.LookupLaws.{IsBookNamed}
use Rattle.store_rows.specs.TableBooks.{HeaderRow, row_book, books_of, line_row}
use Rattle.store_rows.specs.TableRows.{TableRows}
use Rattle.store_lookups.specs.CallResults.{FollowsStep, IsExactly}

-- what a put returns in a book
abbrev pub put_answer_in : Bounds → List Line → Option ℕ → Book → Result PutAnswer Refusal
put_answer_in limits card expect book =
    put_answer limits (found_in_book book (uid_of card)) card expect

-- The answer is the model's for the named book, which has this header, and the book has a tombstone
-- under the UID or not; or the model's refusal.
abbrev pub IsPutPlanned : Bounds → TableRows → List ℕ → List Line → Option ℕ
    → Result (HeaderRow × PutAnswer × Bool) Denied → Type 0
IsPutPlanned limits rows name card expect (Ok plan) = IsBookNamed rows name plan.0
    × (put_answer_in limits card expect (row_book rows (line_row name plan.0)) ≡ Ok plan.1)
    × (is_tombstone_at (row_book rows (line_row name plan.0)) (uid_of card) ≡ plan.2)
IsPutPlanned limits rows name card expect (Err denied) =
    FollowsStep {T = PutAnswer} {A = PutAnswer} IsExactly (Err denied)
    (book_named (books_of rows) name >>= put_answer_in limits card expect)
