-- The rows after a move, and the move against the model.
use Rattle.std.proofs.Common.{◌≡◌, ◌≤◌, ℕ, pos, Bool, true, false, not, int_eq, List, Option, Some}
use Rattle.std.proofs.Common.{None, Result, Ok, Err, refl, sym, ap, ap₂, subst, ◌∙◌, true≢false}
use Rattle.std.specs.FinMap as finite
use Rattle.sqlite.specs.Effect.{Database}
use Rattle.sqlite.specs.State.{State}
use Rattle.sqlite.specs.Tree.{Trees}
use Rattle.sqlite_rules.specs.Lists.{Has}
use Rattle.vcard_lines.specs.declared.line.Line.{Line}
use Rattle.book_model.specs.declared.answers.Moved.{Moved}
use Rattle.book_model.specs.declared.answers.Stored.{Stored}
use Rattle.book_model.specs.declared.change.Change.TheVariants.{Stores, TakesAway}
use Rattle.book_model.specs.declared.change.RemovalReason.TheVariants.{MoveOut}
use Rattle.book_model.specs.declared.change.StoreReason.TheVariants.{MoveIn}
use Rattle.book_model.specs.declared.denied.Denied.{Denied}
use Rattle.book_model.specs.declared.denied.Denied.TheVariants.{Refused, Fault}
use Rattle.book_model.specs.declared.refusal.Refusal.{Refusal}
use Rattle.book_model.specs.declared.refusal.Refusal.TheVariants.{NoSuchCard, SameBook}
use Rattle.book_model.specs.Books.{Book, Books, live_at, same_name}
use Rattle.book_model.specs.Bounds.{Bounds}
use Rattle.book_model.specs.BookChanges.{book_after_drop, forced_horizon, book_with_row}
use Rattle.book_model.specs.Counting.{live_count}
use Rattle.book_model.specs.Moving.{Moving, books_after_move, move_answer, move_step, moving_of}
use Rattle.book_model.specs.CallOutcomes.{MatchesStep, ◌>>=◌, refuse_unless}
use Rattle.book_model.specs.Putting.{FoundMember, found_in_book}
use Rattle.store_tables.specs.SchemaCreation.{HoldsInTx}
use Rattle.store_rows.specs.LookupLaws.{IsBookNamed}
use Rattle.store_rows.specs.SoundTables.{AreSoundRows}
use Rattle.store_rows.specs.TableBooks.{HeaderRow, line_row, row_book, books_of}
use Rattle.store_rows.specs.TableRows.{TableRows, HoldsRows}
use Rattle.store_rows.proofs.FirstLemmas.{removals_remembered}
use Rattle.store_lookups.specs.CallResults.{FollowsStep, IsExactly}
use Rattle.store_writes.specs.TableChanges.{HasBookRow, HoldBooksAfter, HoldsBooks, HoldsChange}
use Rattle.store_writes.specs.TableChanges.{TreesHold}
use Rattle.std.proofs.lemmas.Bool.{false_from_ne_true}
use Rattle.base_types.proofs.TextLemmas.{same_self}
use Rattle.store_tables.specs.Books.{BookRow}
use Rattle.store_rows.proofs.BookLemmas.{same_row}
use Rattle.store_removals.specs.declared.move_call.Transfer.{Transfer}
use Rattle.store_removals.specs.internal.Moves.{HasBothRows, IsMoveOf, table_books_after_move}
use Rattle.store_removals.specs.internal.Moves.{moving_between_named, moving_between_books}
use Rattle.store_removals.specs.internal.Removals.{drop_by_next_removal}
use Rattle.store_lookups.specs.StoredBooks.{stored_books}
use Rattle.store_writes.proofs.CallLemmas.{denied_does}
use Rattle.store_writes.proofs.HeldLemmas.{change_inside}
use Rattle.store_writes.proofs.PlanLemmas.{lookup_of}

-- ---- the rows after a move

pub to_line : (db : Database) (rows : TableRows) (from : List ℕ) (source : HeaderRow) (to : List ℕ)
    (target : HeaderRow) → HasBothRows db rows from source to target → HasBookRow db rows to target
to_line db rows from source to target lines = record {
  holds = lines.holds;
  sound = lines.sound;
  there = lines.has_target;
}

module _ (old mid new : State) (rows : TableRows) (from to : List ℕ) (source target : HeaderRow)
    (uid : List ℕ) (card : List Line) (drop : Option ℕ)
    (lines : HasBothRows old.now rows from source to target)
    (first : HoldsInTx mid (λ db. HoldsChange db rows (pos target.id) (finite.insert (books_of rows)
    to (book_with_row (row_book rows (line_row to target)) uid (Stores card MoveIn))))) where
  abbrev pub between : TableRows
  between = first.holds.rows_after

  pub from_line : HasBookRow mid.now between from source
  from_line = record {
    holds = first.holds.holds;
    sound = first.holds.sound;
    there = (first.holds.others (line_row from source) lines.has_source lines.apart).0;
  }

  pub rows_moved : HoldsInTx new (λ db. HoldsChange db between (pos source.id)
      (finite.insert (books_of between) from
      (book_after_drop (book_with_row (row_book between (line_row from source)) uid
      (TakesAway MoveOut)) drop)))
      → HoldsInTx new (λ db. HoldsBooks db (table_books_after_move rows from source to target uid
      card drop))
  rows_moved second =
      let other = (first.holds.others (line_row from source) lines.has_source lines.apart).1 in
      let is = ap₂ (λ (books : Books) (book : Book). finite.insert books from
      (book_after_drop (book_with_row book uid (TakesAway MoveOut)) drop)) first.holds.books_are
      other in
      subst (λ books. HoldsInTx new (λ db. HoldsBooks db books)) is
      (change_inside new between (pos source.id) _ second)

-- ---- the step of the books

abbrev pub move_of : Result Book Refusal → Result Book Refusal → Bool
    → (Book → Book → Result Moving Refusal) → (Book → Book → Moving → Moved × Books)
    → Result (Moved × Books) Refusal
move_of from to same f g = from >>= λ source. to >>= λ target. refuse_unless (not same) SameBook >>=
    λ _. f source target >>= λ moving. Ok (g source target moving)

abbrev pub both_of : Result Book Refusal → Result Book Refusal → Result (Book × Book) Refusal
both_of from to = from >>= λ source. to >>= λ target. Ok (source, target)

abbrev pub among_of : Result Book Refusal → Result Book Refusal → Bool
    → (Book → Book → Result Moving Refusal) → Result Moving Refusal
among_of from to same f = both_of from to >>= λ both. refuse_unless (not same) SameBook >>= λ _. f
    both.0 both.1

abbrev DeniedAs : Denied → Result Moving Refusal → Type 0
DeniedAs denied due = FollowsStep {T = Moving} {A = Moving} IsExactly (Err denied) due

-- nothing was moved: refused, or a fault
pub denied_move : (from to : Result Book Refusal) (same : Bool) (f : Book → Book
    → Result Moving Refusal) (g : Book → Book → Moving → Moved × Books) (denied : Denied) (old new :
    Books) → DeniedAs denied (among_of from to same f) → new ≡ old
    → MatchesStep (Err denied) (move_of from to same f g) old new
denied_move from to same f g (Fault fault) old new returned is = is
denied_move (Ok source) (Ok target) true f g (Refused refusal) old new returned is = (returned, is)
denied_move (Ok source) (Ok target) false f g (Refused refusal) old new returned is =
    denied_does (f source target) (g source target) (Refused refusal) old new returned is
denied_move (Ok source) (Err wanted) same f g (Refused refusal) old new returned is = (returned, is)
denied_move (Err wanted) to same f g (Refused refusal) old new returned is = (returned, is)

module _ (limits : Bounds) (rows : TableRows) (from to uid : List ℕ) (expect : Option ℕ)
    (source target : HeaderRow) (card : List Line) (moved : Moved) (drop : Option ℕ)
    (from_is : IsBookNamed rows from source) (to_is : IsBookNamed rows to target) (apart :
    same_name from to ≡ false)
    (is : moving_between_books limits uid expect (row_book rows (line_row from source))
    (row_book rows (line_row to target)) ≡ Ok (moving_of card moved))
    (dropped : forced_horizon (TakesAway MoveOut)
    (book_with_row (row_book rows (line_row from source)) uid (TakesAway MoveOut)) ≡ drop) where
  made : table_books_after_move rows from source to target uid card drop
      ≡ books_after_move (books_of rows) from to uid (row_book rows (line_row from source))
      (row_book rows (line_row to target)) card
  made = ap (λ d. table_books_after_move rows from source to target uid card d) (sym dropped)

  moves : move_step limits (books_of rows) from to uid expect ≡ Ok (
    moved,
    books_after_move (books_of rows) from to uid (row_book rows (line_row from source))
        (row_book rows (line_row to target)) card,
  )
  moves = rw (from_is.book, to_is.book, apart, is) refl

  pub moved_does : (new : State) (old : Books)
      → HoldsBooks new.now (table_books_after_move rows from source to target uid card drop)
      → MatchesStep (Ok moved) (move_step limits (books_of rows) from to uid expect) old
      (stored_books new)
  moved_does new old held = rw moves (refl, held.books_are ∙ made)

  pub moved_holds : (db : Trees) → TreesHold (table_books_after_move rows from source to target uid
      card drop) db → HoldBooksAfter (move_step limits (books_of rows) from to uid expect) db
  moved_holds db held = rw moves (subst (λ books. TreesHold books db) made held)

-- ---- the plan

pub moving_live : (limits : Bounds) (live : Option Stored) (cards number : ℕ) (target : FoundMember)
    (expect : Option ℕ) (moving : Moving) → move_answer limits (lookup_of live cards number) target
    expect ≡ Ok moving → (stored : Stored) × (live ≡ Some stored)
moving_live limits None cards number target expect moving is =
    absurd (let k : ◌≡◌ {A = Result Moving Refusal} (Err NoSuchCard) (Ok moving) = is in cc)
moving_live limits (Some stored) cards number target expect moving is = (stored, refl)

-- the forgetting that was planned before the move is the one after it
pub move_drops : (rows : TableRows) (from : List ℕ) (source : HeaderRow) (uid : List ℕ) (limits :
    Bounds) (target : FoundMember) (expect : Option ℕ) (moving : Moving) (drop : Option ℕ)
    → AreSoundRows rows → source.horizon ≤ source.number
    → move_answer limits (found_in_book (row_book rows (line_row from source)) uid) target expect
    ≡ Ok moving → drop_by_next_removal (row_book rows (line_row from source)) ≡ drop
    → forced_horizon (TakesAway MoveOut) (book_with_row (row_book rows (line_row from source)) uid
    (TakesAway MoveOut)) ≡ drop
move_drops rows from source uid limits target expect moving drop sound low is returned =
    let book = row_book rows (line_row from source) in
    let live = moving_live limits (live_at book uid) (live_count book.counts) book.number target
    expect moving is in
    (removals_remembered rows from source uid live.0 MoveOut sound live.1 low).drop ∙ returned

-- books of different names have different ids
pub apart_ids : (rows : TableRows) (from to : List ℕ) (source target : HeaderRow)
    → AreSoundRows rows → Has rows.books (line_row from source)
    → Has rows.books (line_row to target) → same_name from to ≡ false
    → int_eq (pos source.id) (pos target.id) ≡ false
apart_ids rows from to source target sound here there apart = false_from_ne_true _ (λ e.
    let same = same_row rows.books (line_row from source) (line_row to target) sound.books here
    there e in
    true≢false (sym (subst (λ n. same_name from n ≡ true) (ap (λ (r : BookRow). r.name) same)
    (same_self from)) ∙ apart))

-- the rows of both books
pub lines_of : (db : Database) (rows : TableRows) (from to uid : List ℕ) (limits : Bounds) (expect :
    Option ℕ) (plan : Transfer) → HoldsRows db rows → AreSoundRows rows
    → IsMoveOf limits rows from to uid expect plan
    → HasBothRows db rows from plan.source to plan.target
lines_of db rows from to uid limits expect plan holds sound is = record {
  holds = holds;
  sound = sound;
  has_source = is.source.there;
  has_target = is.target.there;
  apart = apart_ids rows from to plan.source plan.target sound is.source.there is.target.there
      is.apart;
}

-- the card and the numbers are those of the model's answer
abbrev pub IsMoving : Moving → List Line × Moved × Bool → Type 0
IsMoving asked moving = moving_of moving.0 moving.1 ≡ asked

pub refused_moving : (due : Result Moving Refusal) (refusal : Refusal) → due ≡ Err refusal
    → FollowsStep IsMoving (Err (Refused refusal)) due
refused_moving due refusal is = subst (λ d. FollowsStep IsMoving (Err (Refused refusal)) d) (sym is)
    refl

pub moving_is_exact : (due : Result Moving Refusal) (moving : List Line × Moved × Bool)
    → due ≡ Ok (moving_of moving.0 moving.1) → FollowsStep IsMoving (Ok moving) due
moving_is_exact due moving is = subst (λ d. FollowsStep IsMoving (Ok moving) d) (sym is) refl

pub moving_back : (due : Result Moving Refusal) (moving : List Line × Moved × Bool)
    → FollowsStep IsMoving (Ok moving) due → due ≡ Ok (moving_of moving.0 moving.1)
moving_back (Ok asked) moving returned = ap Ok (sym returned)
moving_back (Err refusal) moving returned = absurd returned

pub denied_among : (due wanted : Result Moving Refusal) (denied : Denied) → wanted ≡ due
    → FollowsStep {T = Moving} {A = List Line × Moved × Bool} IsMoving (Err denied) due
    → FollowsStep {T = Moving} {A = Moving} IsExactly (Err denied) wanted
denied_among due wanted (Fault fault) is returned = tt
denied_among (Ok asked) wanted (Refused refusal) is returned = absurd returned
denied_among (Err due) wanted (Refused refusal) is returned =
    subst (λ w. FollowsStep {T = Moving} {A = Moving} IsExactly (Err (Refused refusal)) w) (sym is)
    returned

module _ (limits : Bounds) (rows : TableRows) (from to uid : List ℕ) (expect : Option ℕ)
    (source target : HeaderRow) (from_is : IsBookNamed rows from source) (to_is :
    IsBookNamed rows to target) where
  pub same_among : same_name from to ≡ true → FollowsStep {T = Moving} {A = Moving} IsExactly
      (Err (Refused SameBook)) (moving_between_named limits (books_of rows) from to uid expect)
  same_among same = rw (from_is.book, to_is.book, same) refl

  pub apart_among : same_name from to ≡ false → moving_between_named limits (books_of rows) from to
      uid expect ≡ moving_between_books limits uid expect (row_book rows (line_row from source))
      (row_book rows (line_row to target))
  apart_among apart = rw (from_is.book, to_is.book, apart) refl
