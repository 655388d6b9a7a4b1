use Rattle.sqlite.specs.Held.{state}
use Rattle.store_tables.proofs.Lookups.{reads_then}
use Rattle.store_copy.proofs.ReadLemmas.{lists_all}
use Rattle.store_copy.proofs.reading.list_tables.Goals as goal

pub returns-in_err-members-clause-reads_only : goal.returns-in_err-members-clause-reads_only
returns-in_err-members-clause-reads_only g c =
    reads_then (state g.S.Store c.args.conn.now) (state g.S.Store c.list_others.new.conn)
    (state g.S.Store c.list_members.new.conn) c.list_others.ensures.reads_only
    c.in_ok-others.ensures.unchanged c.list_members.ensures.reads_only

pub returns-clause-reads_only : goal.returns-clause-reads_only
returns-clause-reads_only g c =
    reads_then (state g.S.Store c.args.conn.now) (state g.S.Store c.list_others.new.conn)
    (state g.S.Store c.list_members.new.conn) c.list_others.ensures.reads_only
    c.in_ok-others.ensures.unchanged c.list_members.ensures.reads_only

pub returns-clause-lists : goal.returns-clause-lists
returns-clause-lists g c =
    let others = c.in_ok-others.others in
    lists_all (state g.S.Store c.args.conn.now) (state g.S.Store c.list_others.new.conn)
    (state g.S.Store c.list_members.new.conn)
    others.books.items c.in_ok-members.members.items others.imports.items others.keeps.items
    c.in_ok-others.ensures.unchanged c.list_members.ensures.reads_only c.in_ok-others.ensures.lists
    c.in_ok-members.ensures.lists
