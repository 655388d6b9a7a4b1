-- The next removal makes a book forget nothing if one more tombstone fits, else up to the oldest.
-- Given here: `number < keep` is the model's test that one more is at most the keep
-- (`one_more_fits`), so each branch is one case of `drop_by_next_removal` (`no_drop`, `some_drop`).
-- The number up to which it forgets is at most the next one, since it is a minimum with that
-- (`least_within`). If the test becomes `<=`, the first answer breaks.
use Rattle.std.proofs.Common.{rules, ◌≡◌, ◌≤◌, ◌+◌, ℕ, min, IfSome, nat_le, nat_lt, true, false}
use Rattle.std.proofs.Common.{sym, ap, ap₂, subst, ◌∙◌, Err, arith, Result, Option, Some}
use Rattle.book_model.specs.declared.denied.Denied.{Denied}
use Rattle.store_lookups.proofs.StoreFaultLemmas.{passed_cause}
use Rattle.store_lookups.proofs.ChangeFaultLemmas.{then_faults_in}
use Rattle.store_removals.proofs.FaultLemmas.{least_within}
use Rattle.std.specs.Option.{option_map_or}
use Rattle.sqlite.specs.Held.{state}
use Rattle.sqlite.specs.State.{HasCleanDisk}
use Rattle.store_tables.proofs.SchemaCreationLemmas.{clean_before}
use Rattle.store_tables.proofs.Lookups.{reads_then}
use Rattle.store_lookups.proofs.ReadLemmas.{over_then}
use Rattle.book_model.specs.BookQueries.{tombstone_count}
use Rattle.store_rows.specs.TableBooks.{row_book, line_row}
use Rattle.store_removals.specs.internal.Removals.{tombstones_after_removal}
use Rattle.store_removals.proofs.RemoveLemmas.{no_drop, one_more_fits, some_drop}
use Rattle.store_removals.proofs.drop_plans.plan_drop.Goals as goal

pub returns-then-number-keep-clause-drop : goal.returns-then-number-keep-clause-drop
returns-then-number-keep-clause-drop g c rows clean holds sound right named =
    let keep = c.in_ok-keep.ensures.keep rows clean holds sound c.args.name.now in
    let number = c.in_ok-keep.ensures.number rows clean holds sound right named in
    let fits : nat_lt c.in_ok-keep.number c.in_ok-keep.keep ≡ true = search rules in
    no_drop (row_book rows (line_row c.args.name.now c.args.header))
    (ap₂ (λ (n k : ℕ). nat_le (n + 1) k) number keep
    ∙ sym (one_more_fits c.in_ok-keep.number c.in_ok-keep.keep) ∙ fits)

pub returns-then-number-keep-clause-tombstones : goal.returns-then-number-keep-clause-tombstones
returns-then-number-keep-clause-tombstones g c rows clean holds sound right named =
    ap (λ (n : ℕ). Some (n + 1)) (c.in_ok-keep.ensures.number rows clean holds sound right named)

pub returns-in_err-first-clause-counts : goal.returns-in_err-first-clause-counts
returns-in_err-first-clause-counts g c rows clean holds sound right named =
    c.keep_and_tombstones.ensures.counts rows
    (clean_before _ (state g.S.Store c.keep_and_tombstones.new.conn)
    (state g.S.Store c.oldest_removal_of.new.conn)
    c.oldest_removal_of.ensures.reads_only.survives clean) holds sound right named

pub returns-in_err-first-clause-reads_only : goal.returns-in_err-first-clause-reads_only
returns-in_err-first-clause-reads_only g c =
    reads_then (state g.S.Store c.args.conn.now) (state g.S.Store c.keep_and_tombstones.new.conn)
    (state g.S.Store c.oldest_removal_of.new.conn) c.keep_and_tombstones.ensures.reads_only
    c.in_ok-keep.ensures.unchanged c.oldest_removal_of.ensures.reads_only

pub returns-clause-drop : goal.returns-clause-drop
returns-clause-drop g c rows clean holds sound right named =
    let mid = state g.S.Store c.keep_and_tombstones.new.conn in
    let new = state g.S.Store c.oldest_removal_of.new.conn in
    let early : HasCleanDisk mid = clean_before _ mid new
    c.oldest_removal_of.ensures.reads_only.survives clean in
    let keep = c.in_ok-keep.ensures.keep rows early holds sound c.args.name.now in
    let number = c.in_ok-keep.ensures.number rows early holds sound right named in
    let full : nat_lt c.in_ok-keep.number c.in_ok-keep.keep ≡ false = search rules in
    let first = over_then (state g.S.Store c.args.conn.now) mid new _ _
    c.in_ok-keep.ensures.unchanged c.oldest_removal_of.ensures.reads_only.survives
    c.in_ok-first.ensures.first rows clean holds sound c.args.name.now in
    some_drop (row_book rows (line_row c.args.name.now c.args.header)) c.in_ok-first.first
    c.min_with_first-upto.result (ap₂ (λ (n k : ℕ). nat_le (n + 1) k) number keep
    ∙ sym (one_more_fits c.in_ok-keep.number c.in_ok-keep.keep) ∙ full) first
    (c.min_with_first-upto.ensures ∙ ap (λ (n : ℕ). option_map_or (min (n + 1)) c.in_ok-first.first
    (n + 1)) c.number.ensures)
    ∙ sym c.drop_up_to.ensures.drop

pub returns-clause-tombstones : goal.returns-clause-tombstones
returns-clause-tombstones g c rows clean holds sound right named =
    let mid = state g.S.Store c.keep_and_tombstones.new.conn in
    let early : HasCleanDisk mid = clean_before _ mid (state g.S.Store c.oldest_removal_of.new.conn)
    c.oldest_removal_of.ensures.reads_only.survives clean in
    let book = row_book rows (line_row c.args.name.now c.args.header) in
    let number = c.in_ok-keep.ensures.number rows early holds sound right named in
    ap (tombstones_after_removal (tombstone_count book) c.args.header.number)
    c.drop_up_to.ensures.drop
    ∙ ap₂ (λ (n k : ℕ). tombstones_after_removal n k (Some c.min_with_first-upto.result)) number
    (sym c.number-2.ensures)
    ∙ sym c.drop_up_to.ensures.tombstones

pub returns-clause-counts : goal.returns-clause-counts
returns-clause-counts g c rows clean holds sound right named =
    c.keep_and_tombstones.ensures.counts rows
    (clean_before _ (state g.S.Store c.keep_and_tombstones.new.conn)
    (state g.S.Store c.oldest_removal_of.new.conn)
    c.oldest_removal_of.ensures.reads_only.survives clean) holds sound right named

pub returns-clause-reads_only : goal.returns-clause-reads_only
returns-clause-reads_only g c =
    reads_then (state g.S.Store c.args.conn.now) (state g.S.Store c.keep_and_tombstones.new.conn)
    (state g.S.Store c.oldest_removal_of.new.conn) c.keep_and_tombstones.ensures.reads_only
    c.in_ok-keep.ensures.unchanged c.oldest_removal_of.ensures.reads_only

pub returns-clause-most : goal.returns-clause-most
returns-clause-most g c =
    let number = c.number.ensures in
    let low = least_within c.in_ok-first.first (c.number.result + 1) c.min_with_first-upto.result
    c.min_with_first-upto.ensures in
    subst (λ d. IfSome d (λ upto. upto ≤ c.args.header.number + 1)) (sym c.drop_up_to.ensures.drop)
    (omega (arith, number, low))

pub returns-in_err-keep-clause-store_fault : goal.returns-in_err-keep-clause-store_fault
returns-in_err-keep-clause-store_fault g c rows name clean holds accept free there =
    passed_cause c.from_residual.result c.in_err-keep.field-0.0 _ c.from_residual.ensures.1
    (c.in_err-keep.ensures.store_fault rows name clean holds accept free there)

pub returns-in_err-first-clause-store_fault : goal.returns-in_err-first-clause-store_fault
returns-in_err-first-clause-store_fault g c rows name clean holds accept free there =
    let failed : Result (Option ℕ) Denied = Err c.in_err-first.field-0.0 in
    passed_cause c.from_residual-in_err-first.result c.in_err-first.field-0.0 _
    c.from_residual-in_err-first.ensures.1
    (then_faults_in (state g.S.Store c.args.conn.now)
    (state g.S.Store c.keep_and_tombstones.new.conn)
    (state g.S.Store c.oldest_removal_of.new.conn) _ _ c.args.header failed
    c.keep_and_tombstones.ensures.reads_only.survives c.in_ok-keep.ensures.unchanged
    c.oldest_removal_of.ensures.reads_only.survives c.in_err-first.ensures.store_fault rows name
    clean holds accept free there)
