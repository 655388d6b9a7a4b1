-- A member is written, then its book's row; the rows are those of the book after one more change.
-- Given here: the first statement spares the table of books (`spares_books`), so the second finds
-- the book's row as it was; `row_put` joins both. For errors: an outside cause of the second is one
-- of both together (`outside_later`).
-- A third statement breaks `returns-clause-books_after` first.
use Rattle.std.proofs.Common.{rules, ◌≡◌, ◌≢◌, ◌+◌, ℕ, List, option_copied, pos, Err, IfErr, IsTrue}
use Rattle.std.proofs.Common.{to_z, of_z, w64, sym, subst, ◌∙◌}
use Rattle.std.proofs.Math.Facts.{to_z-of_z}
use Rattle.sqlite.specs.Held.{state}
use Rattle.sqlite.specs.State.{State, HasCleanDisk}
use Rattle.sqlite.specs.declared.error.Error.TheVariants.{SqliteFailure}
use Rattle.sqlite.specs.declared.error.ErrorCode.TheVariants.{OutOfMemory}
use Rattle.store_tables.specs.Acceptance.{AcceptsMember, HasFreeIds}
use Rattle.store_tables.specs.Failures.{HasOutsideCause}
use Rattle.store_tables.specs.StatementEffects.{WritesOnly}
use Rattle.store_tables.proofs.FailureLemmas.{outside_later}
use Rattle.store_rows.specs.TableRows.{TableRows}
use Rattle.store_writes.specs.TableChanges.{HasBookRow}
use Rattle.store_tables.specs.Books.{HasBooks, HoldBooks, numbers_of, with_book_numbers}
use Rattle.store_tables.specs.Members.{PutsRow}
use Rattle.store_tables.proofs.SchemaCreationLemmas.{clean_before}
use Rattle.store_rows.specs.TableBooks.{HeaderRow, line_row}
use Rattle.store_writes.proofs.ForgetLemmas.{spares_books, spares_members}
use Rattle.store_writes.proofs.PutLemmas.{row_put}
use Rattle.store_writes.proofs.putting.write_member.Given as given
use Rattle.store_writes.proofs.putting.write_member.Goals as goal
use Rattle.store_writes.proofs.putting.write_member.Goals.{After-renumber_book}

pub returns-clause-books_after : goal.returns-clause-books_after
returns-clause-books_after g c header change changed_is is columns rows name clean inside line =
    let old = state g.S.Store c.args.tx.now.conn.now in
    let mid = state g.S.Store c.update_or_put.new.tx.conn.now in
    let new = state g.S.Store c.renumber_book.new.tx.conn.now in
    let second : HasCleanDisk mid = clean_before _ mid new
    c.renumber_book.ensures.no_commit.survives clean in
    let id : to_z w64 (of_z w64 c.args.id) ≡ pos header.id = to_z-of_z c.ranges.id
    ∙ columns.id_is in
    let at : to_z w64 (of_z w64 c.args.changed) ≡ pos (header.number + 1) =
    to_z-of_z c.ranges.changed ∙ changed_is in
    let text = option_copied c.args.card in
    let put = subst (λ z. PutsRow mid.now.trees z c.args.uid.now (pos (header.number + 1)) text
    rows.members) id (subst (λ z. PutsRow mid.now.trees (to_z w64 (of_z w64 c.args.id))
    c.args.uid.now z text rows.members) at ((c.in_ok-update_or_put.ensures.changes rows.members
    second inside line.holds.schema line.sound.members line.holds.members).puts)) in
    let one = c.in_ok-update_or_put.ensures.writes rows.members second inside line.holds.schema
    line.sound.members line.holds.members in
    let held : HoldBooks (mid.now.trees 2) rows.books =
    subst (λ k. HoldBooks k rows.books)
    (sym (spares_books old.now.trees mid.now.trees one.other_tables)) line.holds.books in
    let books = subst (λ n. HasBooks new (with_book_numbers (pos header.id) n rows.books))
    columns.numbers (subst (λ z. HasBooks new (with_book_numbers z (numbers_of c.args.numbers)
    rows.books)) id (c.in_ok-renumber_book.ensures.changes rows.books clean one.inside
    one.schema line.sound.books held (line_row name header) line.there id)) in
    row_put old mid new rows name header c.args.uid.now text change line is put one books
    (c.in_ok-renumber_book.ensures.writes rows.books clean one.inside one.schema
    line.sound.books held (line_row name header) line.there id)

-- ---- the rows that the writes leave

-- the states: before, after the member was put, and after the book was renumbered
module _ (g : given.Over) (c : After-renumber_book g) where
  abbrev old : State
  old = state g.S.Store c.args.tx.now.conn.now

  abbrev mid : State
  mid = state g.S.Store c.update_or_put.new.tx.conn.now

  abbrev new : State
  new = state g.S.Store c.renumber_book.new.tx.conn.now

  clean_mid : HasCleanDisk new → HasCleanDisk mid
  clean_mid late = clean_before _ mid new c.renumber_book.ensures.no_commit.survives late

module _ (g : given.Over) (c : After-renumber_book g) (rows : TableRows) (name : List ℕ) (header :
    HeaderRow) (id_is : c.args.id ≡ pos header.id) (clean : HasCleanDisk (new g c))
    (inside : IsTrue (old g c).in_transaction) (line : HasBookRow (old g c).now rows name header)
  where
    id : to_z w64 (of_z w64 c.args.id) ≡ pos header.id
    id = to_z-of_z c.ranges.id ∙ id_is

    one : WritesOnly 4 (old g c) (mid g c)
    one = c.in_ok-update_or_put.ensures.writes rows.members (clean_mid g c clean) inside
        line.holds.schema line.sound.members line.holds.members

    held : HoldBooks ((mid g c).now.trees 2) rows.books
    held = subst (λ k. HoldBooks k rows.books)
        (sym (spares_books (old g c).now.trees (mid g c).now.trees one.other_tables))
        line.holds.books

pub returns-clause-obeys : goal.returns-clause-obeys
returns-clause-obeys g c header id_is rows name clean inside line =
    let p = (goal.at.returns-clause-obeys g c).After-renumber_book in
    let first = one g p rows name header id_is clean inside line in
    (c.in_ok-renumber_book.ensures.writes rows.books clean first.inside first.schema
    line.sound.books (held g p rows name header id_is clean inside line) (line_row name header)
    line.there (id g p rows name header id_is clean inside line)).obeys

pub returns-clause-takes_one_id : goal.returns-clause-takes_one_id
returns-clause-takes_one_id g c header id_is rows name clean inside line count free =
    let p = (goal.at.returns-clause-takes_one_id g c).After-renumber_book in
    let first = one g p rows name header id_is clean inside line in
    let second = c.in_ok-renumber_book.ensures.writes rows.books clean first.inside first.schema
    line.sound.books (held g p rows name header id_is clean inside line) (line_row name header)
    line.there (id g p rows name header id_is clean inside line) in
    subst (HasFreeIds count) (sym (spares_members (mid g p).now.trees (new g p).now.trees
    second.other_tables)) ((c.in_ok-update_or_put.ensures.changes rows.members
    (clean_mid g p clean) inside line.holds.schema line.sound.members
    line.holds.members).takes_one_id count
    free)

pub returns-in_err-update_or_put-clause-keeps_commit :
    goal.returns-in_err-update_or_put-clause-keeps_commit
returns-in_err-update_or_put-clause-keeps_commit g c header id_is rows name clean inside line =
    c.update_or_put.ensures.keeps_commit rows.members clean inside line.holds.schema
    line.sound.members line.holds.members

-- ---- errors

pub returns-in_err-update_or_put-clause-fails_from_outside :
    goal.returns-in_err-update_or_put-clause-fails_from_outside
returns-in_err-update_or_put-clause-fails_from_outside g c rows name header id_is accepts clean
    inside schema obeys =
    let old = state g.S.Store c.args.tx.now.conn.now in
    let new = state g.S.Store c.update_or_put.new.tx.conn.now in
    let line = accepts.book.line in
    let id : to_z w64 (of_z w64 c.args.id) ≡ pos header.id = to_z-of_z c.ranges.id ∙ id_is in
    let at : to_z w64 (of_z w64 c.args.changed) ≡ c.args.changed = to_z-of_z c.ranges.changed in
    let member = subst (λ z. AcceptsMember rows.books rows.members (to_z w64 (of_z w64 c.args.id))
    c.args.uid.now z (option_copied c.args.card)) (sym at)
    (subst (λ z. AcceptsMember rows.books rows.members z c.args.uid.now c.args.changed
    (option_copied c.args.card)) (sym id) accepts.member) in
    let said : c.from_residual.result ≡ Err c.in_err-update_or_put.field-0.0 = search rules in
    subst (λ r. IfErr r (λ e. e ≢ SqliteFailure OutOfMemory → HasOutsideCause old new)) (sym said)
    (c.in_err-update_or_put.ensures.fails_from_outside rows.members clean inside schema
    line.sound.members line.holds.members rows.books line.holds.books accepts.free_id member
    clean inside schema obeys)

pub returns-in_err-renumber_book-clause-fails_from_outside :
    goal.returns-in_err-renumber_book-clause-fails_from_outside
returns-in_err-renumber_book-clause-fails_from_outside g c rows name header id_is accepts clean
    inside schema obeys =
    let p = (goal.at.returns-in_err-renumber_book-clause-fails_from_outside g
    c).After-renumber_book in
    let line = accepts.book.line in
    let first = one g p rows name header id_is clean inside line in
    let early = clean_mid g p clean in
    let kept = first.obeys in
    let said : c.from_residual-in_err-renumber_book.result ≡ Err c.in_err-renumber_book.field-0.0 =
    search rules in
    subst (λ r. IfErr r (λ e. e ≢ SqliteFailure OutOfMemory → HasOutsideCause (old g p) (new g p)))
    (sym said)
    (λ room. outside_later (old g p) (mid g p) (new g p) _ _ c.update_or_put.ensures.survives early
    c.renumber_book.ensures.no_commit.survives
    (c.in_err-renumber_book.ensures.fails_from_outside rows.books clean first.inside first.schema
    line.sound.books (held g p rows name header id_is clean inside line) (
      line_row name header,
      line.there,
      id g p rows name header id_is clean inside line,
      accepts.book.short,
    ) clean first.inside first.schema kept room))
