use Rattle.std.proofs.Common.{rules, ◌≡◌, Err, subst, sym}
use Rattle.sqlite.specs.Held.{state}
use Rattle.store_tables.specs.Failures.{FailsFromOutside}
use Rattle.store_tables.proofs.Lookups.{reads_then}
use Rattle.store_check.proofs.OpenLemmas.{all_unchanged, fails_after, lists_three, reads_third}
use Rattle.store_check.proofs.OpenLemmas.{unchanged_then}
use Rattle.store_check.proofs.opening.list_book_rows.Goals as goal

pub returns-in_err-imports-clause-reads_only : goal.returns-in_err-imports-clause-reads_only
returns-in_err-imports-clause-reads_only g c =
    reads_then (state g.S.Store c.args.conn.now) (state g.S.Store c.all_books.new.conn)
    (state g.S.Store c.all_imports.new.conn) c.all_books.ensures.reads.reads_only
    c.in_ok-books.ensures.reads.unchanged c.all_imports.ensures.reads_only

pub returns-in_err-keeps-clause-reads_only : goal.returns-in_err-keeps-clause-reads_only
returns-in_err-keeps-clause-reads_only g c =
    reads_third (state g.S.Store c.args.conn.now) (state g.S.Store c.all_books.new.conn)
    (state g.S.Store c.all_imports.new.conn) (state g.S.Store c.all_keeps.new.conn)
    c.in_ok-books.ensures.reads.unchanged c.in_ok-imports.ensures.unchanged
    c.all_books.ensures.reads.reads_only
    c.all_imports.ensures.reads_only c.all_keeps.ensures.reads_only

pub returns-clause-reads_only : goal.returns-clause-reads_only
returns-clause-reads_only g c =
    reads_third (state g.S.Store c.args.conn.now) (state g.S.Store c.all_books.new.conn)
    (state g.S.Store c.all_imports.new.conn) (state g.S.Store c.all_keeps.new.conn)
    c.in_ok-books.ensures.reads.unchanged c.in_ok-imports.ensures.unchanged
    c.all_books.ensures.reads.reads_only
    c.all_imports.ensures.reads_only c.all_keeps.ensures.reads_only

pub returns-clause-unchanged : goal.returns-clause-unchanged
returns-clause-unchanged g c =
    all_unchanged (state g.S.Store c.args.conn.now) (state g.S.Store c.all_books.new.conn)
    (state g.S.Store c.all_imports.new.conn) (state g.S.Store c.all_keeps.new.conn)
    c.in_ok-books.ensures.reads.unchanged c.in_ok-imports.ensures.unchanged
    c.all_books.ensures.reads.reads_only
    c.all_imports.ensures.reads_only c.all_keeps.ensures.reads_only
    c.in_ok-keeps.ensures.unchanged

pub returns-clause-lists : goal.returns-clause-lists
returns-clause-lists g c =
    lists_three (state g.S.Store c.args.conn.now) (state g.S.Store c.all_books.new.conn)
    (state g.S.Store c.all_imports.new.conn) (state g.S.Store c.all_keeps.new.conn)
    c.in_ok-books.ensures.reads.unchanged c.in_ok-imports.ensures.unchanged
    c.all_books.ensures.reads.reads_only
    c.all_imports.ensures.reads_only c.all_keeps.ensures.reads_only
    c.in_ok-books.books.items c.in_ok-imports.imports.items c.in_ok-keeps.keeps.items
    c.in_ok-books.ensures.lists c.in_ok-imports.ensures.returns c.in_ok-keeps.ensures.returns

pub returns-in_err-imports-clause-fails_from_outside :
    goal.returns-in_err-imports-clause-fails_from_outside
returns-in_err-imports-clause-fails_from_outside g c =
    let a = state g.S.Store c.args.conn.now in
    let b = state g.S.Store c.all_books.new.conn in
    let d = state g.S.Store c.all_imports.new.conn in
    let said : c.from_residual-in_err-imports.result ≡ Err c.in_err-imports.field-0.0 =
    search rules in
    subst (FailsFromOutside a d) (sym said)
    (fails_after a b d c.in_err-imports.field-0.0 c.in_ok-books.ensures.reads.unchanged
    c.all_books.ensures.reads.reads_only c.all_imports.ensures.reads_only
    c.in_err-imports.ensures.fails_from_outside)

pub returns-in_err-keeps-clause-fails_from_outside :
    goal.returns-in_err-keeps-clause-fails_from_outside
returns-in_err-keeps-clause-fails_from_outside g c =
    let a = state g.S.Store c.args.conn.now in
    let b = state g.S.Store c.all_books.new.conn in
    let d = state g.S.Store c.all_imports.new.conn in
    let e = state g.S.Store c.all_keeps.new.conn in
    let said : c.from_residual-in_err-keeps.result ≡ Err c.in_err-keeps.field-0.0 = search rules in
    subst (FailsFromOutside a e) (sym said)
    (fails_after a d e c.in_err-keeps.field-0.0
    (unchanged_then a b d c.in_ok-books.ensures.reads.unchanged c.in_ok-imports.ensures.unchanged
    c.all_imports.ensures.reads_only)
    (reads_then a b d c.all_books.ensures.reads.reads_only c.in_ok-books.ensures.reads.unchanged
    c.all_imports.ensures.reads_only) c.all_keeps.ensures.reads_only
    c.in_err-keeps.ensures.fails_from_outside)
