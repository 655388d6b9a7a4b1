use Rattle.std.proofs.Common.{IfOk, IsTrue, subst}
use Rattle.sqlite.specs.Held.{state}
use Rattle.store_tables.specs.StatementEffects.{GivenTables}
use Rattle.store_tables.proofs.Lookups.{reads_then}
use Rattle.store_copy.proofs.CompareLemmas.{HaveNewMembers, holds_all}
use Rattle.store_copy.proofs.comparing.holds_rows.Goals as goal

pub returns-clause-reads_only : goal.returns-clause-reads_only
returns-clause-reads_only g c =
    reads_then (state g.S.Store c.args.conn.now) (state g.S.Store c.list_others.new.conn)
    (state g.S.Store c.holds_members.new.conn) c.list_others.ensures.reads_only
    c.in_ok-found.ensures.unchanged c.holds_members.ensures.reads_only

pub returns-clause-same : goal.returns-clause-same
returns-clause-same g c =
    let mid = state g.S.Store c.list_others.new.conn in
    let new = state g.S.Store c.holds_members.new.conn in
    let members = subst (λ l. GivenTables mid new (IfOk c.holds_members.result (λ same. IsTrue same
    → HaveNewMembers c.args.left.now (mid.now.trees 4) l))) c.as_slice.ensures.value
    c.holds_members.ensures.same in
    holds_all c.args.left.now (state g.S.Store c.args.conn.now) mid new c.in_ok-found.found
    c.args.rows.now c.holds_members.result
    c.in_ok-found.ensures.unchanged c.holds_members.ensures.reads_only c.in_ok-found.ensures.lists
    (c.have_new_books.ensures c.if-not-have_new_books.false) members
