-- The rows of a new book and of its keep are inserted; the tables hold one empty book more.
-- Given here: the first insert spares the table of keeps (`spares_keeps`), so the second finds it
-- as it was; `rows_created` joins both to `fresh_book`. The second needs a book with its id: the
-- one just added (`listed`).
-- A third row of a new book breaks `returns-clause-books_after` first.
use Rattle.std.proofs.Common.{◌≡◌, pos, to_z, of_z, w64, sym, subst, ◌∙◌, rules, ◌≢◌, ◌∷◌, false}
use Rattle.std.proofs.Common.{inl, refl, Err, IfErr}
use Rattle.std.specs.List.{AllByRecursion}
use Rattle.sqlite.specs.declared.error.Error.TheVariants.{SqliteFailure}
use Rattle.sqlite.specs.declared.error.ErrorCode.TheVariants.{OutOfMemory}
use Rattle.sqlite_rules.proofs.ListLemmas.{some_from}
use Rattle.store_tables.specs.Acceptance.{AcceptsBook}
use Rattle.store_tables.specs.Books.{blank_book, has_id}
use Rattle.store_tables.specs.Failures.{HasOutsideCause}
use Rattle.store_tables.specs.Keeps.{is_keep_of}
use Rattle.store_tables.proofs.FailureLemmas.{outside_later}
use Rattle.store_tables.proofs.KeyedRows.{int_itself}
use Rattle.std.proofs.Math.Facts.{to_z-of_z}
use Rattle.sqlite.specs.Held.{state}
use Rattle.sqlite.specs.State.{HasCleanDisk}
use Rattle.store_tables.specs.Books.{AddsBook}
use Rattle.store_tables.specs.Keeps.{AddsKeep, HoldKeeps}
use Rattle.store_tables.proofs.SchemaCreationLemmas.{clean_before}
use Rattle.store_inserts.proofs.CreateLemmas.{rows_created, spares_keeps}
use Rattle.store_inserts.proofs.creating.insert_book_rows.Goals as goal

pub returns-clause-books_after : goal.returns-clause-books_after
returns-clause-books_after g c book most id_is keep_is rows clean inside line =
    let old = state g.S.Store c.args.tx.now.conn.now in
    let mid = state g.S.Store c.insert_book.new.tx.conn.now in
    let new = state g.S.Store c.insert_keep.new.tx.conn.now in
    let name = c.args.name.now in
    let second : HasCleanDisk mid = clean_before _ mid new c.insert_keep.ensures.no_commit.survives
    clean in
    let id : to_z w64 (of_z w64 c.args.id) ≡ pos book = to_z-of_z c.ranges.id ∙ id_is in
    let keep : to_z w64 (of_z w64 c.args.keep) ≡ pos most = to_z-of_z c.ranges.keep ∙ keep_is in
    let added = subst (λ z. AddsBook mid z name rows.books) id (c.in_ok-insert_book.ensures.changes
    rows.books second inside line.holds.schema line.sound.books line.holds.books) in
    let one = c.in_ok-insert_book.ensures.writes rows.books second inside line.holds.schema
    line.sound.books line.holds.books in
    let held : HoldKeeps (mid.now.trees 9) rows.keeps =
    subst (λ k. HoldKeeps k rows.keeps)
    (sym (spares_keeps old.now.trees mid.now.trees one.other_tables)) line.holds.keeps in
    let kept = subst (λ z. AddsKeep new (pos book) z rows.keeps) keep
    (subst (λ z. AddsKeep new z (to_z w64 (of_z w64 c.args.keep)) rows.keeps) id
    (c.in_ok-insert_keep.ensures.changes rows.keeps clean one.inside one.schema line.sound.keeps
    held)) in
    rows_created old mid new rows name book most line added one kept
    (c.in_ok-insert_keep.ensures.writes rows.keeps clean one.inside one.schema line.sound.keeps
    held)

-- ---- errors

pub returns-in_err-insert_book-clause-fails_from_outside :
    goal.returns-in_err-insert_book-clause-fails_from_outside
returns-in_err-insert_book-clause-fails_from_outside g c rows accepts clean inside schema obeys =
    let old = state g.S.Store c.args.tx.now.conn.now in
    let new = state g.S.Store c.insert_book.new.tx.conn.now in
    let line = accepts.lacks in
    let id : to_z w64 (of_z w64 c.args.id) ≡ c.args.id = to_z-of_z c.ranges.id in
    let book = subst (λ z. AcceptsBook rows.books z c.args.name.now) (sym id) accepts.book in
    let said : c.from_residual.result ≡ Err c.in_err-insert_book.field-0.0 = search rules in
    subst (λ r. IfErr r (λ e. e ≢ SqliteFailure OutOfMemory → HasOutsideCause old new)) (sym said)
    (c.in_err-insert_book.ensures.fails_from_outside rows.books clean inside schema line.sound.books
    line.holds.books book clean inside schema obeys)

pub returns-in_err-insert_keep-clause-fails_from_outside :
    goal.returns-in_err-insert_keep-clause-fails_from_outside
returns-in_err-insert_keep-clause-fails_from_outside g c rows accepts clean inside schema obeys =
    let old = state g.S.Store c.args.tx.now.conn.now in
    let mid = state g.S.Store c.insert_book.new.tx.conn.now in
    let new = state g.S.Store c.insert_keep.new.tx.conn.now in
    let line = accepts.lacks in
    let early : HasCleanDisk mid = clean_before _ mid new c.insert_keep.ensures.no_commit.survives
    clean in
    let id : to_z w64 (of_z w64 c.args.id) ≡ c.args.id = to_z-of_z c.ranges.id in
    let added = c.in_ok-insert_book.ensures.changes rows.books early inside schema line.sound.books
    line.holds.books in
    let one = c.in_ok-insert_book.ensures.writes rows.books early inside schema line.sound.books
    line.holds.books in
    let kept = one.obeys in
    let held : HoldKeeps (mid.now.trees 9) rows.keeps =
    subst (λ k. HoldKeeps k rows.keeps)
    (sym (spares_keeps old.now.trees mid.now.trees one.other_tables)) line.holds.keeps in
    let unused = subst (λ z. AllByRecursion (λ k. is_keep_of z k ≡ false) rows.keeps) (sym id)
    accepts.no_keep in
    let listed = some_from (has_id (to_z w64 (of_z w64 c.args.id)))
    (blank_book (to_z w64 (of_z w64 c.args.id)) c.args.name.now ∷ rows.books)
    (blank_book (to_z w64 (of_z w64 c.args.id)) c.args.name.now) (inl refl)
    (int_itself (to_z w64 (of_z w64 c.args.id))) in
    let said : c.from_residual-in_err-insert_keep.result ≡ Err c.in_err-insert_keep.field-0.0 =
    search rules in
    subst (λ r. IfErr r (λ e. e ≢ SqliteFailure OutOfMemory → HasOutsideCause old new)) (sym said)
    (λ room. outside_later old mid new _ _ c.insert_book.ensures.no_commit.survives early
    c.insert_keep.ensures.no_commit.survives
    (c.in_err-insert_keep.ensures.fails_from_outside rows.keeps clean one.inside one.schema
    line.sound.keeps held (blank_book (to_z w64 (of_z w64 c.args.id)) c.args.name.now ∷
    rows.books) added.hold
    (record { listed = listed; unused = unused }) clean one.inside one.schema kept room))
