use Rattle.sqlite.specs.Held.{state}
use Rattle.store_copy.proofs.WriteLemmas.{uncommitted}
use Rattle.store_copy.proofs.writing.insert_rows.Goals as goal

pub returns-in_err-insert_members-clause-survives :
    goal.returns-in_err-insert_members-clause-survives
returns-in_err-insert_members-clause-survives g c =
    uncommitted (state g.S.Store c.args.tx.now.conn.now)
    (state g.S.Store c.insert_books.new.tx.conn.now)
    (state g.S.Store c.insert_members.new.tx.conn.now) c.insert_books.ensures.survives
    c.insert_members.ensures.survives

pub returns-in_err-insert_imports-clause-survives :
    goal.returns-in_err-insert_imports-clause-survives
returns-in_err-insert_imports-clause-survives g c =
    let start = state g.S.Store c.args.tx.now.conn.now in
    let two = state g.S.Store c.insert_members.new.tx.conn.now in
    let three = state g.S.Store c.insert_imports.new.tx.conn.now in
    uncommitted start two three (uncommitted start (state g.S.Store c.insert_books.new.tx.conn.now)
    two c.insert_books.ensures.survives c.insert_members.ensures.survives)
    c.insert_imports.ensures.survives

pub returns-clause-survives : goal.returns-clause-survives
returns-clause-survives g c =
    let start = state g.S.Store c.args.tx.now.conn.now in
    let two = state g.S.Store c.insert_members.new.tx.conn.now in
    let three = state g.S.Store c.insert_imports.new.tx.conn.now in
    let four = state g.S.Store c.insert_keeps.new.tx.conn.now in
    uncommitted start three four
    (uncommitted start two three (uncommitted start (state g.S.Store c.insert_books.new.tx.conn.now)
    two c.insert_books.ensures.survives c.insert_members.ensures.survives)
    c.insert_imports.ensures.survives)
    c.insert_keeps.ensures.survives
