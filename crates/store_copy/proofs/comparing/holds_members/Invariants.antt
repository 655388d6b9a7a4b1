use Rattle.std.proofs.Common.{◌≡◌, List, [], take}
use Rattle.store_copy.specs.RowsWithout.{HaveNewIds}
use Rattle.sqlite.specs.Order.{Row}
use Rattle.sqlite.specs.State.{HasCleanDisk, IsUnchanged}
use Rattle.sqlite.specs.Held.{state}
use Rattle.sqlite.specs.Given.{HasGiven}
use Rattle.store_tables.specs.Tables.{book_schema}
use Rattle.store_tables.proofs.Queries.{all_members_text}
use Rattle.store_tables.specs.StatementEffects.{OnlyReads}
use Rattle.store_copy.proofs.comparing.holds_members.Given as goal

-- the members so far are the first of these, with their new ids
abbrev pub invariant-rows : goal.invariant-rows
invariant-rows g l =
    let old = state g.S.Store l.fn.conn in
    let now = state g.S.Store l.rows.conn.now in
    (l.rows.conn.ghost_name ≡ l.initial.rows.conn.ghost_name) × OnlyReads old now
    × (HasCleanDisk now → old.now.schema ≡ book_schema → (given : List Row)
    × HasGiven g.S.Store all_members_text [] l.rows.conn.now given × IsUnchanged old now
    × HaveNewIds 1 5 l.fn.left given (take l.place l.fn.members))
