-- The tombstones of a book up to a number are deleted, and that number becomes its horizon.
-- Given here: the first statement spares the table of books (`spares_books`), so the second finds
-- the book's row as it was; `rows_forgotten` joins both to `book_after_forget`. What the first one
-- counts are rows of `member`, and `deletions_dropped` says that the book loses as many.
-- A third statement breaks `returns-clause-books_after` first.
use Rattle.std.proofs.Common.{rules, ◌≡◌, ◌≢◌, Err, IfErr, pos, length, filter, to_z, of_z, w64}
use Rattle.std.proofs.Common.{sym, subst, ◌∙◌}
use Rattle.std.proofs.Math.Facts.{to_z-of_z}
use Rattle.sqlite.specs.Held.{state}
use Rattle.sqlite.specs.declared.error.Error.TheVariants.{SqliteFailure}
use Rattle.sqlite.specs.declared.error.ErrorCode.TheVariants.{OutOfMemory}
use Rattle.store_tables.specs.Failures.{HasOutsideCause}
use Rattle.store_tables.proofs.FailureLemmas.{outside_later}
use Rattle.sqlite.specs.State.{HasCleanDisk}
use Rattle.store_tables.specs.Books.{HasBooks, HoldBooks, numbers_of, with_book_numbers}
use Rattle.store_tables.specs.Members.{HasMembers, is_removed_up_to, without_removed}
use Rattle.store_tables.proofs.SchemaCreationLemmas.{clean_before}
use Rattle.store_rows.specs.TableBooks.{line_row}
use Rattle.store_rows.proofs.RemovedLemmas.{deletions_dropped}
use Rattle.store_writes.proofs.ForgetLemmas.{rows_forgotten, spares_books}
use Rattle.store_writes.proofs.forgetting.forget_rows.Goals as goal

pub returns-clause-books_after : goal.returns-clause-books_after
returns-clause-books_after g c rows name header clean inside line last upto_is columns =
    let old = state g.S.Store c.args.tx.now.conn.now in
    let mid = state g.S.Store c.forget_members.new.tx.conn.now in
    let new = state g.S.Store c.renumber_book.new.tx.conn.now in
    let second : HasCleanDisk mid = clean_before _ mid new
    c.renumber_book.ensures.no_commit.survives clean in
    let id : to_z w64 (of_z w64 c.args.id) ≡ pos header.id = to_z-of_z c.ranges.id
    ∙ columns.id_is in
    let at : to_z w64 (of_z w64 c.args.upto) ≡ pos last = to_z-of_z c.ranges.upto ∙ upto_is in
    let members = subst (λ z. HasMembers mid (without_removed z (pos last) rows.members)) id
    (subst (λ z. HasMembers mid (without_removed (to_z w64 (of_z w64 c.args.id)) z
    rows.members)) at ((c.in_ok-dropped.ensures.changes rows.members second inside
    line.holds.schema line.sound.members line.holds.members).forgets)) in
    let one = c.in_ok-dropped.ensures.writes rows.members second inside line.holds.schema
    line.sound.members line.holds.members in
    let held : HoldBooks (mid.now.trees 2) rows.books =
    subst (λ k. HoldBooks k rows.books)
    (sym (spares_books old.now.trees mid.now.trees one.other_tables)) line.holds.books in
    let books = subst (λ n. HasBooks new (with_book_numbers (pos header.id) n rows.books))
    columns.numbers (subst (λ z. HasBooks new (with_book_numbers z (numbers_of c.args.numbers)
    rows.books)) id (c.in_ok-renumber_book.ensures.changes rows.books clean one.inside
    one.schema line.sound.books held (line_row name header) line.there id)) in
    rows_forgotten old mid new rows name header last line members one books
    (c.in_ok-renumber_book.ensures.writes rows.books clean one.inside one.schema
    line.sound.books held (line_row name header) line.there id)

pub returns-clause-dropped : goal.returns-clause-dropped
returns-clause-dropped g c rows name header clean inside line last upto_is columns =
    let mid = state g.S.Store c.forget_members.new.tx.conn.now in
    let new = state g.S.Store c.renumber_book.new.tx.conn.now in
    let second : HasCleanDisk mid = clean_before _ mid new
    c.renumber_book.ensures.no_commit.survives clean in
    let id : to_z w64 (of_z w64 c.args.id) ≡ pos header.id = to_z-of_z c.ranges.id
    ∙ columns.id_is in
    let at : to_z w64 (of_z w64 c.args.upto) ≡ pos last = to_z-of_z c.ranges.upto ∙ upto_is in
    subst (λ z. c.in_ok-dropped.dropped ≡ length (filter (is_removed_up_to z (pos last))
    rows.members)) id (subst (λ z. c.in_ok-dropped.dropped
    ≡ length (filter (is_removed_up_to (to_z w64 (of_z w64 c.args.id)) z) rows.members)) at
    ((c.in_ok-dropped.ensures.changes rows.members second inside line.holds.schema
    line.sound.members line.holds.members).dropped))
    ∙ deletions_dropped rows name header last line.sound

-- ---- errors

pub returns-in_err-dropped-clause-fails_from_outside :
    goal.returns-in_err-dropped-clause-fails_from_outside
returns-in_err-dropped-clause-fails_from_outside g c rows name header id_is accepts clean inside
    schema obeys =
    let old = state g.S.Store c.args.tx.now.conn.now in
    let new = state g.S.Store c.forget_members.new.tx.conn.now in
    let said : c.from_residual.result ≡ Err c.in_err-dropped.field-0.0 = search rules in
    subst (λ r. IfErr r (λ e. e ≢ SqliteFailure OutOfMemory → HasOutsideCause old new)) (sym said)
    (c.in_err-dropped.ensures.fails_from_outside clean inside schema obeys)

pub returns-in_err-renumber_book-clause-fails_from_outside :
    goal.returns-in_err-renumber_book-clause-fails_from_outside
returns-in_err-renumber_book-clause-fails_from_outside g c rows name header id_is accepts clean
    inside schema obeys =
    let old = state g.S.Store c.args.tx.now.conn.now in
    let mid = state g.S.Store c.forget_members.new.tx.conn.now in
    let new = state g.S.Store c.renumber_book.new.tx.conn.now in
    let line = accepts.line in
    let early : HasCleanDisk mid = clean_before _ mid new c.renumber_book.ensures.no_commit.survives
    clean in
    let id : to_z w64 (of_z w64 c.args.id) ≡ pos header.id = to_z-of_z c.ranges.id ∙ id_is in
    let one = c.in_ok-dropped.ensures.writes rows.members early inside schema line.sound.members
    line.holds.members in
    let kept = (c.in_ok-dropped.ensures.writes rows.members early inside schema line.sound.members
    line.holds.members).obeys in
    let held : HoldBooks (mid.now.trees 2) rows.books =
    subst (λ k. HoldBooks k rows.books)
    (sym (spares_books old.now.trees mid.now.trees one.other_tables)) line.holds.books in
    let said : c.from_residual-in_err-renumber_book.result ≡ Err c.in_err-renumber_book.field-0.0 =
    search rules in
    subst (λ r. IfErr r (λ e. e ≢ SqliteFailure OutOfMemory → HasOutsideCause old new)) (sym said)
    (λ room. outside_later old mid new _ _ c.forget_members.ensures.no_commit.survives early
    c.renumber_book.ensures.no_commit.survives
    (c.in_err-renumber_book.ensures.fails_from_outside rows.books clean one.inside one.schema
    line.sound.books held (line_row name header, line.there, id, accepts.short) clean one.inside
    one.schema kept room))
