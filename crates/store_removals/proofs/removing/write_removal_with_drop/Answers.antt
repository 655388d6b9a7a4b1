-- A member becomes a tombstone, old ones are deleted, and the book's row gets the new numbers.
-- Given here: the second statement runs on the members that the first left, the third on the table
-- of books, which both spare (`spares_books`); `row_dropped` joins all three. None of them commits
-- (`keeps_commit`).
-- A fourth statement breaks `returns-clause-books_after` first.
use Rattle.std.proofs.Common.{◌≡◌, ◌+◌, IsTrue, List, ℕ, None, pos, to_z, of_z, w64, sym, subst}
use Rattle.std.proofs.Common.{refl, ◌∙◌, rules, ◌≢◌, Err, IfErr}
use Rattle.sqlite.specs.declared.error.Error.TheVariants.{SqliteFailure}
use Rattle.sqlite.specs.declared.error.ErrorCode.TheVariants.{OutOfMemory}
use Rattle.store_tables.specs.Acceptance.{AcceptsMember}
use Rattle.store_tables.specs.Failures.{HasOutsideCause}
use Rattle.store_tables.proofs.FailureLemmas.{outside_later}
use Rattle.std.proofs.Math.Facts.{to_z-of_z}
use Rattle.sqlite.specs.Held.{state}
use Rattle.sqlite.specs.State.{State, HasCleanDisk, KeepsCommit, Survives}
use Rattle.sqlite.proofs.InsideLemmas.{keeps_then}
use Rattle.sqlite.proofs.StateLemmas.{survives_then}
use Rattle.store_tables.specs.Books.{HasBooks, HoldBooks, numbers_of, with_book_numbers}
use Rattle.store_tables.specs.Members.{HasMembers, PutsRow, upsert_member, without_removed}
use Rattle.store_tables.proofs.SchemaCreationLemmas.{clean_before}
use Rattle.store_rows.specs.TableBooks.{HeaderRow, line_row}
use Rattle.store_rows.specs.TableRows.{TableRows}
use Rattle.store_rows.proofs.WriteLemmas.{put_held}
use Rattle.store_writes.specs.TableChanges.{HasBookRow}
use Rattle.store_writes.proofs.ForgetLemmas.{spares_books, writes_table}
use Rattle.store_removals.proofs.RemoveLemmas.{row_dropped}
use Rattle.store_removals.proofs.removing.write_removal_with_drop.Given as given
use Rattle.store_removals.proofs.removing.write_removal_with_drop.Goals as goal
use Rattle.store_removals.proofs.removing.write_removal_with_drop.Goals.{After-renumber_book}

-- ---- what the clauses share

-- the states: before the writes, and after each of the three
module _ (g : given.Over) (c : After-renumber_book g) where
  abbrev old : State
  old = state g.S.Store c.args.tx.now.conn.now

  abbrev put : State
  put = state g.S.Store c.put_member.new.tx.conn.now

  abbrev forgot : State
  forgot = state g.S.Store c.forget_members.new.tx.conn.now

  abbrev new : State
  new = state g.S.Store c.renumber_book.new.tx.conn.now

  clean_forgot : HasCleanDisk new → HasCleanDisk forgot
  clean_forgot clean = clean_before _ forgot new c.renumber_book.ensures.no_commit.survives clean

  clean_put : HasCleanDisk new → HasCleanDisk put
  clean_put clean = clean_before _ put forgot c.forget_members.ensures.no_commit.survives
      (clean_forgot clean)

  survives : Survives old new (λ _. ⊥)
  survives =
      let both = survives_then old put forgot _ _ (λ _. ⊥) (λ _ db none. none) (λ _ db none. none)
      c.put_member.ensures.no_commit.survives c.forget_members.ensures.no_commit.survives in
      survives_then old forgot new _ _ (λ _. ⊥) (λ _ db none. none) (λ _ db none. none) both
      c.renumber_book.ensures.no_commit.survives

  keeps_commit : (rows : TableRows) (name : List ℕ) (header : HeaderRow) → HasCleanDisk new
      → IsTrue old.in_transaction → HasBookRow old.now rows name header → KeepsCommit old new
  keeps_commit rows name header clean inside line =
      let third = clean_forgot clean in
      let second = clean_put clean in
      let puts = (c.in_ok-put_member.ensures.changes rows.members second inside line.holds.schema
      line.sound.members line.holds.members).puts in
      let first = c.in_ok-put_member.ensures.writes rows.members second inside line.holds.schema
      line.sound.members line.holds.members in
      let ms = upsert_member puts.id (to_z w64 (of_z w64 c.args.id)) c.args.uid.now
      (to_z w64 (of_z w64 c.args.changed)) None rows.members in
      let two = c.in_ok-forget_members.ensures.writes ms third first.inside first.schema puts.kept
      puts.hold in
      let both = keeps_then old put forgot (c.put_member.ensures.no_commit.kept second inside
      line.holds.schema) (c.forget_members.ensures.no_commit.kept third first.inside
      first.schema) in
      keeps_then old forgot new both (c.renumber_book.ensures.no_commit.kept clean two.inside
      two.schema)

-- ---- the clauses

pub returns-clause-books_after : goal.returns-clause-books_after
returns-clause-books_after g c header why last legal changed_is upto_is columns rows name clean
    inside line =
    let p = (goal.at.returns-clause-books_after g c).After-renumber_book in
    let a = put g p in
    let b = forgot g p in
    let third = clean_forgot g p clean in
    let second = clean_put g p clean in
    let id : to_z w64 (of_z w64 c.args.id) ≡ pos header.id = to_z-of_z c.ranges.id
    ∙ columns.id_is in
    let at : to_z w64 (of_z w64 c.args.changed) ≡ pos (header.number + 1) =
    to_z-of_z c.ranges.changed ∙ changed_is in
    let until : to_z w64 (of_z w64 c.args.upto) ≡ pos last = to_z-of_z c.ranges.upto ∙ upto_is in
    let uid = c.args.uid.now in
    let puts = subst (λ z. PutsRow a.now.trees z uid (pos (header.number + 1)) None rows.members) id
    (subst (λ z. PutsRow a.now.trees (to_z w64 (of_z w64 c.args.id)) uid z None rows.members) at
    ((c.in_ok-put_member.ensures.changes rows.members second inside line.holds.schema
    line.sound.members line.holds.members).puts)) in
    let first = c.in_ok-put_member.ensures.writes rows.members second inside line.holds.schema
    line.sound.members line.holds.members in
    let one = put_held (old g p).now a.now rows (line_row name header) uid (pos (header.number + 1))
    None line.holds line.sound line.there legal refl tt puts (writes_table 4 (old g p) a
    first) in
    let ms = upsert_member one.id (pos header.id) uid (pos (header.number + 1)) None rows.members in
    let members = subst (λ z. HasMembers b (without_removed z (pos last) ms)) id
    (subst (λ z. HasMembers b (without_removed (to_z w64 (of_z w64 c.args.id)) z ms)) until
    ((c.in_ok-forget_members.ensures.changes ms third first.inside first.schema
    one.within.sound.members one.holds.members).forgets)) in
    let two = c.in_ok-forget_members.ensures.writes ms third first.inside first.schema
    one.within.sound.members one.holds.members in
    let held : HoldBooks (b.now.trees 2) rows.books =
    subst (λ k. HoldBooks k rows.books)
    (sym (spares_books a.now.trees b.now.trees two.other_tables
    ∙ spares_books (old g p).now.trees a.now.trees first.other_tables)) line.holds.books in
    let books = subst (λ n. HasBooks (new g p) (with_book_numbers (pos header.id) n rows.books))
    columns.numbers (subst (λ z. HasBooks (new g p)
    (with_book_numbers z (numbers_of c.args.numbers) rows.books)) id
    (c.in_ok-renumber_book.ensures.changes rows.books clean two.inside two.schema
    line.sound.books held (line_row name header) line.there id)) in
    row_dropped (old g p) a b (new g p) rows name header uid why last line one members two books
    (c.in_ok-renumber_book.ensures.writes rows.books clean two.inside two.schema
    line.sound.books held (line_row name header) line.there id)

pub returns-in_err-renumber_book-clause-keeps_commit :
    goal.returns-in_err-renumber_book-clause-keeps_commit
returns-in_err-renumber_book-clause-keeps_commit g c header id_is rows name clean inside line =
    keeps_commit g (goal.at.returns-in_err-renumber_book-clause-keeps_commit g
    c).After-renumber_book rows name header clean inside line

pub returns-in_err-renumber_book-clause-survives : goal.returns-in_err-renumber_book-clause-survives
returns-in_err-renumber_book-clause-survives g c =
    survives g (goal.at.returns-in_err-renumber_book-clause-survives g c).After-renumber_book

pub returns-clause-keeps_commit : goal.returns-clause-keeps_commit
returns-clause-keeps_commit g c header id_is rows name clean inside line =
    keeps_commit g (goal.at.returns-clause-keeps_commit g c).After-renumber_book rows name header
    clean inside line

pub returns-clause-survives : goal.returns-clause-survives
returns-clause-survives g c = survives g (goal.at.returns-clause-survives g c).After-renumber_book

-- ---- errors

pub returns-in_err-put_member-clause-fails_from_outside :
    goal.returns-in_err-put_member-clause-fails_from_outside
returns-in_err-put_member-clause-fails_from_outside g c rows name header id_is accepts clean inside
    schema obeys =
    let old = state g.S.Store c.args.tx.now.conn.now in
    let new = state g.S.Store c.put_member.new.tx.conn.now in
    let line = accepts.book.line in
    let id : to_z w64 (of_z w64 c.args.id) ≡ pos header.id = to_z-of_z c.ranges.id ∙ id_is in
    let at : to_z w64 (of_z w64 c.args.changed) ≡ c.args.changed = to_z-of_z c.ranges.changed in
    let member = subst (λ z. AcceptsMember rows.books rows.members (to_z w64 (of_z w64 c.args.id))
    c.args.uid.now z None) (sym at)
    (subst (λ z. AcceptsMember rows.books rows.members z c.args.uid.now c.args.changed None)
    (sym id) accepts.member) in
    let said : c.from_residual.result ≡ Err c.in_err-put_member.field-0.0 = search rules in
    subst (λ r. IfErr r (λ e. e ≢ SqliteFailure OutOfMemory → HasOutsideCause old new)) (sym said)
    (c.in_err-put_member.ensures.fails_from_outside rows.members clean inside schema
    line.sound.members line.holds.members rows.books line.holds.books accepts.free_id member
    clean inside schema obeys)

pub returns-in_err-forget_members-clause-fails_from_outside :
    goal.returns-in_err-forget_members-clause-fails_from_outside
returns-in_err-forget_members-clause-fails_from_outside g c rows name header id_is accepts clean
    inside schema obeys =
    let old = state g.S.Store c.args.tx.now.conn.now in
    let mid = state g.S.Store c.put_member.new.tx.conn.now in
    let new = state g.S.Store c.forget_members.new.tx.conn.now in
    let line = accepts.book.line in
    let early : HasCleanDisk mid = clean_before _ mid new
    c.forget_members.ensures.no_commit.survives clean in
    let one = c.in_ok-put_member.ensures.writes rows.members early inside schema line.sound.members
    line.holds.members in
    let kept = one.obeys in
    let said : c.from_residual-in_err-forget_members.result
    ≡ Err c.in_err-forget_members.field-0.0 = search rules in
    subst (λ r. IfErr r (λ e. e ≢ SqliteFailure OutOfMemory → HasOutsideCause old new)) (sym said)
    (λ room. outside_later old mid new _ _ c.put_member.ensures.no_commit.survives early
    c.forget_members.ensures.no_commit.survives
    (c.in_err-forget_members.ensures.fails_from_outside clean one.inside one.schema kept room))

pub returns-in_err-renumber_book-clause-fails_from_outside :
    goal.returns-in_err-renumber_book-clause-fails_from_outside
returns-in_err-renumber_book-clause-fails_from_outside g c rows name header id_is accepts clean
    inside schema obeys =
    let p = (goal.at.returns-in_err-renumber_book-clause-fails_from_outside g
    c).After-renumber_book in
    let line = accepts.book.line in
    let a = put g p in
    let b = forgot g p in
    let third = clean_forgot g p clean in
    let second = clean_put g p clean in
    let id : to_z w64 (of_z w64 c.args.id) ≡ pos header.id = to_z-of_z c.ranges.id ∙ id_is in
    let puts = (c.in_ok-put_member.ensures.changes rows.members second inside schema
    line.sound.members
    line.holds.members).puts in
    let first = c.in_ok-put_member.ensures.writes rows.members second inside schema
    line.sound.members line.holds.members in
    let ms = upsert_member puts.id (to_z w64 (of_z w64 c.args.id)) c.args.uid.now
    (to_z w64 (of_z w64 c.args.changed)) None rows.members in
    let two = c.in_ok-forget_members.ensures.writes ms third first.inside first.schema puts.kept
    puts.hold in
    let kept = two.obeys in
    let held : HoldBooks (b.now.trees 2) rows.books =
    subst (λ k. HoldBooks k rows.books)
    (sym (spares_books a.now.trees b.now.trees two.other_tables
    ∙ spares_books (old g p).now.trees a.now.trees first.other_tables)) line.holds.books in
    let both = survives_then (old g p) a b _ _ (λ _. ⊥) (λ _ db none. none) (λ _ db none. none)
    c.put_member.ensures.no_commit.survives c.forget_members.ensures.no_commit.survives in
    let said : c.from_residual-in_err-renumber_book.result ≡ Err c.in_err-renumber_book.field-0.0 =
    search rules in
    subst (λ r. IfErr r (λ e. e ≢ SqliteFailure OutOfMemory → HasOutsideCause (old g p) (new g p)))
    (sym said)
    (λ room. outside_later (old g p) b (new g p) _ _ both third
    c.renumber_book.ensures.no_commit.survives
    (c.in_err-renumber_book.ensures.fails_from_outside rows.books clean two.inside two.schema
    line.sound.books held (line_row name header, line.there, id, accepts.book.short) clean
    two.inside two.schema kept room))
