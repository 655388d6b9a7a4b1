use Rattle.std.proofs.Common.{◌≡◌, IsTrue, Ok, map, take}
use Rattle.std.specs.FinMap as finite
use Rattle.std.specs.List.{AllByRecursion}
use Rattle.sqlite.specs.Held.{state}
use Rattle.sqlite.specs.State.{HasCleanDisk, IsUnchanged}
use Rattle.book_model.specs.BookQueries.{book_lines}
use Rattle.book_resync.specs.Resyncing.{accept_books}
use Rattle.store_tables.specs.StatementEffects.{OnlyReads, GivenTables}
use Rattle.store_rows.specs.TableBooks.{books_of}
use Rattle.store_lookups.specs.CallResults.{GivenSoundRows}
use Rattle.store_resync.specs.internal.Plans.{IsBookPlan, planned_entry}
use Rattle.store_resync.proofs.planning.plan_books.Given as goal

-- the books so far are planned and accepted, nothing was changed, and the connection was open
abbrev pub invariant-loop-line : goal.invariant-loop-line
invariant-loop-line g l =
    let old = state g.S.Store l.fn.conn in
    let now = state g.S.Store l.conn in
    record {
      entries : GivenSoundRows old now (λ rows. book_lines (books_of rows) ≡ l.lines
          → map (planned_entry rows) l.plans.items ≡ take l.line-index
          (finite.entries (books_of rows)));
      each : GivenSoundRows old now (λ rows. book_lines (books_of rows) ≡ l.lines
          → AllByRecursion (IsBookPlan l.limits l.pairs rows) l.plans.items);
      accepted : GivenSoundRows old now (λ rows. book_lines (books_of rows) ≡ l.lines
          → accept_books l.limits l.pairs (take l.line-index (finite.entries (books_of rows)))
          ≡ Ok tt);
      same : GivenTables old now (IsUnchanged old now);
      left : OnlyReads old now;
      opened : HasCleanDisk now → IsTrue old.is_open;
    }
