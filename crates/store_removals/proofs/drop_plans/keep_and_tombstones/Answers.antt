use Rattle.std.proofs.Common.{ℕ, ap, ◌∙◌, Result, Err}
use Rattle.book_model.specs.declared.denied.Denied.{Denied}
use Rattle.store_lookups.proofs.StoreFaultLemmas.{passed_cause}
use Rattle.store_lookups.proofs.ChangeFaultLemmas.{read_faults_in, then_faults_in}
use Rattle.sqlite.specs.Effect.{Database}
use Rattle.sqlite.specs.Held.{state}
use Rattle.sqlite.specs.State.{HasCleanDisk}
use Rattle.sqlite.proofs.Callers.{unchanged_then}
use Rattle.store_tables.proofs.SchemaCreationLemmas.{clean_before}
use Rattle.store_tables.proofs.Lookups.{reads_then}
use Rattle.store_lookups.proofs.ReadLemmas.{over_then}
use Rattle.store_removals.proofs.drop_plans.keep_and_tombstones.Goals as goal

pub returns-in_err-number-clause-counts : goal.returns-in_err-number-clause-counts
returns-in_err-number-clause-counts g c rows clean holds sound right named =
    over_then (state g.S.Store c.args.conn.now) (state g.S.Store c.fetch_keep.new.conn)
    (state g.S.Store c.remembered.new.conn) _ _ c.in_ok-keep.ensures.unchanged
    c.remembered.ensures.reads_only.survives c.remembered.ensures.counts rows clean holds sound
    right named

pub returns-in_err-number-clause-reads_only : goal.returns-in_err-number-clause-reads_only
returns-in_err-number-clause-reads_only g c =
    reads_then (state g.S.Store c.args.conn.now) (state g.S.Store c.fetch_keep.new.conn)
    (state g.S.Store c.remembered.new.conn) c.fetch_keep.ensures.reads_only
    c.in_ok-keep.ensures.unchanged c.remembered.ensures.reads_only

pub returns-clause-keep : goal.returns-clause-keep
returns-clause-keep g c rows clean holds sound name =
    let mid = state g.S.Store c.fetch_keep.new.conn in
    let early : HasCleanDisk mid = clean_before _ mid (state g.S.Store c.remembered.new.conn)
    c.remembered.ensures.reads_only.survives clean in
    c.in_ok-keep.ensures.keep rows early holds sound name

pub returns-clause-number : goal.returns-clause-number
returns-clause-number g c rows clean holds sound right named =
    over_then (state g.S.Store c.args.conn.now) (state g.S.Store c.fetch_keep.new.conn)
    (state g.S.Store c.remembered.new.conn) _ _ c.in_ok-keep.ensures.unchanged
    c.remembered.ensures.reads_only.survives c.in_ok-number.ensures.number rows clean holds
    sound right named

pub returns-clause-counts : goal.returns-clause-counts
returns-clause-counts g c rows clean holds sound right named =
    over_then (state g.S.Store c.args.conn.now) (state g.S.Store c.fetch_keep.new.conn)
    (state g.S.Store c.remembered.new.conn) _ _ c.in_ok-keep.ensures.unchanged
    c.remembered.ensures.reads_only.survives c.remembered.ensures.counts rows clean holds sound
    right named

pub returns-clause-unchanged : goal.returns-clause-unchanged
returns-clause-unchanged g c clean has =
    let old = state g.S.Store c.args.conn.now in
    let mid = state g.S.Store c.fetch_keep.new.conn in
    let new = state g.S.Store c.remembered.new.conn in
    let one = c.in_ok-keep.ensures.unchanged
    (clean_before _ mid new c.remembered.ensures.reads_only.survives clean) has in
    unchanged_then old mid new one (c.in_ok-number.ensures.unchanged one.0.is_open clean
    (ap (λ (d : Database). d.schema) one.0.now_is ∙ has))

pub returns-clause-reads_only : goal.returns-clause-reads_only
returns-clause-reads_only g c =
    reads_then (state g.S.Store c.args.conn.now) (state g.S.Store c.fetch_keep.new.conn)
    (state g.S.Store c.remembered.new.conn) c.fetch_keep.ensures.reads_only
    c.in_ok-keep.ensures.unchanged c.remembered.ensures.reads_only

pub returns-in_err-keep-clause-store_fault : goal.returns-in_err-keep-clause-store_fault
returns-in_err-keep-clause-store_fault g c rows name clean holds accept free there =
    passed_cause c.from_residual.result c.in_err-keep.field-0.0 _ c.from_residual.ensures.1
    (c.in_err-keep.ensures.store_fault rows name clean holds accept free there)

pub returns-in_err-number-clause-store_fault : goal.returns-in_err-number-clause-store_fault
returns-in_err-number-clause-store_fault g c rows name clean holds accept free there =
    let old = state g.S.Store c.args.conn.now in
    let mid = state g.S.Store c.fetch_keep.new.conn in
    let new = state g.S.Store c.remembered.new.conn in
    let failed : Result ℕ Denied = Err c.in_err-number.field-0.0 in
    passed_cause c.from_residual-in_err-number.result c.in_err-number.field-0.0 _
    c.from_residual-in_err-number.ensures.1
    (then_faults_in old mid new _ _ c.args.header failed c.fetch_keep.ensures.reads_only.survives
    c.in_ok-keep.ensures.unchanged c.remembered.ensures.reads_only.survives
    (read_faults_in mid new c.args.header failed c.in_err-number.ensures.store_fault) rows name
    clean holds accept free there)
