use Rattle.std.proofs.Common.{rules, ◌≡◌, Err, sym, ap, subst, ◌∙◌}
use Rattle.sqlite.specs.Effect.{Database}
use Rattle.sqlite.specs.Held.{state}
use Rattle.store_tables.specs.Failures.{HasOutsideCauseOfError}
use Rattle.store_tables.proofs.FailureLemmas.{outside_later}
use Rattle.store_tables.proofs.SchemaCreationLemmas.{clean_before}
use Rattle.store_migration.proofs.FirstLemmas.{reads_then, unchanged_then}
use Rattle.store_migration.proofs.planning.list_first_rows.Goals as goal

pub returns-in_err-members-clause-reads_only : goal.returns-in_err-members-clause-reads_only
returns-in_err-members-clause-reads_only g c =
    reads_then (state g.S.Store c.args.conn.now) (state g.S.Store c.list_books.new.conn)
    (state g.S.Store c.list_members.new.conn) c.in_ok-books.ensures.unchanged
    c.list_books.ensures.reads_only c.list_members.ensures.reads_only

pub returns-in_err-imports-clause-reads_only : goal.returns-in_err-imports-clause-reads_only
returns-in_err-imports-clause-reads_only g c =
    let start = state g.S.Store c.args.conn.now in
    let one = state g.S.Store c.list_books.new.conn in
    let two = state g.S.Store c.list_members.new.conn in
    reads_then start two (state g.S.Store c.list_imports.new.conn) (unchanged_then start one two
    c.in_ok-books.ensures.unchanged c.in_ok-members.ensures.unchanged
    c.list_members.ensures.reads_only)
    (reads_then start one two c.in_ok-books.ensures.unchanged c.list_books.ensures.reads_only
    c.list_members.ensures.reads_only) c.list_imports.ensures.reads_only

pub returns-clause-reads_only : goal.returns-clause-reads_only
returns-clause-reads_only g c =
    let start = state g.S.Store c.args.conn.now in
    let one = state g.S.Store c.list_books.new.conn in
    let two = state g.S.Store c.list_members.new.conn in
    reads_then start two (state g.S.Store c.list_imports.new.conn) (unchanged_then start one two
    c.in_ok-books.ensures.unchanged c.in_ok-members.ensures.unchanged
    c.list_members.ensures.reads_only)
    (reads_then start one two c.in_ok-books.ensures.unchanged c.list_books.ensures.reads_only
    c.list_members.ensures.reads_only) c.list_imports.ensures.reads_only

-- ---- errors

pub returns-in_err-members-clause-fails_from_outside :
    goal.returns-in_err-members-clause-fails_from_outside
returns-in_err-members-clause-fails_from_outside g c clean has =
    let start = state g.S.Store c.args.conn.now in
    let one = state g.S.Store c.list_books.new.conn in
    let two = state g.S.Store c.list_members.new.conn in
    let early = clean_before _ one two c.list_members.ensures.reads_only.survives clean in
    let same = c.in_ok-books.ensures.unchanged early has in
    let still = ap (λ (d : Database). d.schema) same.0.now_is ∙ has in
    let said : c.from_residual-in_err-members.result ≡ Err c.in_err-members.field-0.0 = search rules
    in
    subst (λ r. HasOutsideCauseOfError start two r) (sym said)
    (λ room. outside_later start one two _ _ c.list_books.ensures.reads_only.survives early
    c.list_members.ensures.reads_only.survives
    (c.in_err-members.ensures.fails_from_outside clean still room))

pub returns-in_err-imports-clause-fails_from_outside :
    goal.returns-in_err-imports-clause-fails_from_outside
returns-in_err-imports-clause-fails_from_outside g c clean has =
    let start = state g.S.Store c.args.conn.now in
    let one = state g.S.Store c.list_books.new.conn in
    let two = state g.S.Store c.list_members.new.conn in
    let three = state g.S.Store c.list_imports.new.conn in
    let kept = unchanged_then start one two c.in_ok-books.ensures.unchanged
    c.in_ok-members.ensures.unchanged c.list_members.ensures.reads_only in
    let before = reads_then start one two c.in_ok-books.ensures.unchanged
    c.list_books.ensures.reads_only c.list_members.ensures.reads_only in
    let early = clean_before _ two three c.list_imports.ensures.reads_only.survives clean in
    let same = kept early has in
    let still = ap (λ (d : Database). d.schema) same.0.now_is ∙ has in
    let said : c.from_residual-in_err-imports.result ≡ Err c.in_err-imports.field-0.0 = search rules
    in
    subst (λ r. HasOutsideCauseOfError start three r) (sym said)
    (λ room. outside_later start two three _ _ before.survives early
    c.list_imports.ensures.reads_only.survives (c.in_err-imports.ensures.fails_from_outside clean
    still room))
