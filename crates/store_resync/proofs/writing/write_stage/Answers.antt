use Rattle.std.proofs.Common.{◌≡◌, pos, to_z, of_z, w64, sym, subst, ◌∙◌}
use Rattle.std.proofs.Math.Facts.{to_z-of_z}
use Rattle.sqlite.specs.Held.{state}
use Rattle.sqlite.specs.State.{HasCleanDisk}
use Rattle.sqlite.proofs.InsideLemmas.{keeps_then}
use Rattle.sqlite_rules.specs.Lists.{Has}
use Rattle.store_tables.specs.Books.{HasBooks, numbers_of, with_book_numbers}
use Rattle.store_tables.proofs.SchemaCreationLemmas.{clean_before}
use Rattle.store_rows.specs.TableBooks.{line_row}
use Rattle.store_resync.specs.internal.Stages.{header_before}
use Rattle.store_resync.proofs.StageLemmas.{stage_written}
use Rattle.store_resync.proofs.writing.write_stage.Goals as goal

pub returns-clause-stage : goal.returns-clause-stage
returns-clause-stage g c columns last_is legal rows name clean inside line =
    let plan = c.args.plan.now in
    let stage = c.args.stage in
    let mid = state g.S.Store c.write_members.new.tx.conn.now in
    let new = state g.S.Store c.renumber_book.new.tx.conn.now in
    let early : HasCleanDisk mid = clean_before _ mid new c.renumber_book.ensures.no_commit.survives
    clean in
    let id : to_z w64 (of_z w64 c.args.id) ≡ pos plan.header.id = to_z-of_z c.ranges.id
    ∙ columns.id_is in
    let last : to_z w64 (of_z w64 c.args.last) ≡ pos plan.last = to_z-of_z c.ranges.last
    ∙ last_is in
    let one = c.in_ok-write_members.ensures.members id last legal rows name early inside line in
    let held = one.holds in
    let there : Has held.now.books (line_row name (header_before stage plan)) =
    subst (λ bs. Has bs (line_row name (header_before stage plan))) (sym held.within.books)
    line.there in
    let books = subst (λ n. HasBooks new (with_book_numbers (pos plan.header.id) n held.now.books))
    columns.numbers
    (subst (λ z. HasBooks new (with_book_numbers z (numbers_of c.args.numbers) held.now.books)) id
    (c.in_ok-renumber_book.ensures.changes held.now.books clean one.inside held.holds.schema
    held.within.sound.books held.holds.books (line_row name (header_before stage plan)) there
    id)) in
    stage_written mid new rows name plan stage line.there held books
    (c.in_ok-renumber_book.ensures.writes held.now.books clean one.inside held.holds.schema
    held.within.sound.books held.holds.books (line_row name (header_before stage plan)) there
    id)

pub returns-in_err-renumber_book-clause-keeps_commit :
    goal.returns-in_err-renumber_book-clause-keeps_commit
returns-in_err-renumber_book-clause-keeps_commit g c id_is last_is legal rows name clean inside
    line =
    let old = state g.S.Store c.args.tx.now.conn.now in
    let mid = state g.S.Store c.write_members.new.tx.conn.now in
    let new = state g.S.Store c.renumber_book.new.tx.conn.now in
    let early : HasCleanDisk mid = clean_before _ mid new c.renumber_book.ensures.no_commit.survives
    clean in
    let id = to_z-of_z c.ranges.id ∙ id_is in
    let one = c.in_ok-write_members.ensures.members id (to_z-of_z c.ranges.last
    ∙ last_is) legal rows name early inside line in
    keeps_then old mid new (c.write_members.ensures.keeps_commit id legal rows name early inside
    line) (c.renumber_book.ensures.no_commit.kept clean one.inside one.holds.holds.schema)

pub returns-clause-keeps_commit : goal.returns-clause-keeps_commit
returns-clause-keeps_commit g c id_is last_is legal rows name clean inside line =
    let old = state g.S.Store c.args.tx.now.conn.now in
    let mid = state g.S.Store c.write_members.new.tx.conn.now in
    let new = state g.S.Store c.renumber_book.new.tx.conn.now in
    let early : HasCleanDisk mid = clean_before _ mid new c.renumber_book.ensures.no_commit.survives
    clean in
    let id = to_z-of_z c.ranges.id ∙ id_is in
    let one = c.in_ok-write_members.ensures.members id (to_z-of_z c.ranges.last
    ∙ last_is) legal rows name early inside line in
    keeps_then old mid new (c.write_members.ensures.keeps_commit id legal rows name early inside
    line) (c.renumber_book.ensures.no_commit.kept clean one.inside one.holds.holds.schema)
