use Rattle.std.proofs.Common.{sym, subst}
use Rattle.sqlite.specs.Held.{state}
use Rattle.sqlite.specs.State.{IsUnchanged}
use Rattle.store_tables.specs.StatementEffects.{GivenTables}
use Rattle.store_tables.proofs.KeyedRows.{all_has}
use Rattle.store_tables.proofs.Lookups.{reads_then}
use Rattle.store_tables.proofs.SchemaCreationLemmas.{clean_before}
use Rattle.store_rows.specs.TableBooks.{books_of}
use Rattle.store_rows.proofs.KeyedEntries.{has_filtered}
use Rattle.store_lookups.specs.CallResults.{FollowsStep, IsExactly}
use Rattle.store_lookups.specs.StoreFaults.{IsFaultlessMember}
use Rattle.store_lookups.proofs.ReadLemmas.{over_then}
use Rattle.store_lookups.proofs.StoreFaultLemmas.{never_store, passed_cause}
use Rattle.store_queries.specs.internal.QuerySteps.{missing_card_step}
use Rattle.store_queries.proofs.NamedCardLemmas.{card_missing, live_found, removed_found}
use Rattle.store_queries.proofs.book_queries.stored_of_book.Goals as goal

pub returns-in-Some-clause-answers : goal.returns-in-Some-clause-answers
returns-in-Some-clause-answers g c rows clean holds sound =
    live_found rows c.args.name.now c.args.uid.now c.in-Ok.row c.in_ok-stored.field-0
    c.in-Some.stored sound (c.in-Ok.ensures.returns rows.books rows.members clean holds.schema
    holds.books holds.members) c.in_ok-stored.ensures.live c.in-Some.is

pub returns-clause-answers : goal.returns-clause-answers
returns-clause-answers g c rows clean holds sound =
    removed_found rows c.args.name.now c.args.uid.now c.in-Ok.row c.in_ok-stored.field-0 sound
    (c.in-Ok.ensures.returns rows.books rows.members clean holds.schema holds.books holds.members)
    c.in_ok-stored.ensures.live c.in-None.is

pub returns-in_err-stored-clause-store_fault : goal.returns-in_err-stored-clause-store_fault
returns-in_err-stored-clause-store_fault g c rows clean holds faultless =
    let found = c.in-Ok.ensures.returns rows.books rows.members clean holds.schema holds.books
    holds.members in
    let m = found.2 in
    let readable = (all_has IsFaultlessMember rows.members m.0 faultless.members
    (has_filtered _ rows.members m.0 m.1).0).readable in
    passed_cause c.from_residual.result c.in_err-stored.field-0.0 _ c.from_residual.ensures.1
    (never_store c.in_err-stored.field-0.0 _ (c.in_err-stored.ensures.memory m.0 readable m.2))

pub returns-in-Err-QueryReturnedNoRows-clause-answers :
    goal.returns-in-Err-QueryReturnedNoRows-clause-answers
returns-in-Err-QueryReturnedNoRows-clause-answers g c rows clean holds sound =
    let old = state g.S.Store c.args.conn.now in
    let mid = state g.S.Store c.find_named_member.new.conn in
    let new = state g.S.Store c.refuse_missing.new.conn in
    let name = c.args.name.now in
    let same : GivenTables old mid (IsUnchanged old mid) =
    λ early has. c.in-Err-QueryReturnedNoRows.ensures.unchanged early has
    c.in-Err-QueryReturnedNoRows.field-0-is in
    let early = clean_before _ mid new c.refuse_missing.ensures.reads_only.survives clean in
    let missing = card_missing rows name c.args.uid.now (λ b named _.
    c.in-Err-QueryReturnedNoRows.ensures.returns rows.books rows.members early holds.schema
    holds.books holds.members b named c.in-Err-QueryReturnedNoRows.field-0-is) in
    subst (FollowsStep IsExactly c.refuse_missing.result) (sym missing)
    (over_then old mid new _ (λ k. FollowsStep IsExactly c.refuse_missing.result
    (missing_card_step (books_of k) name)) same c.refuse_missing.ensures.reads_only.survives
    c.refuse_missing.ensures.answers rows clean holds sound)

pub returns-in-Err-QueryReturnedNoRows-clause-reads_only :
    goal.returns-in-Err-QueryReturnedNoRows-clause-reads_only
returns-in-Err-QueryReturnedNoRows-clause-reads_only g c =
    reads_then (state g.S.Store c.args.conn.now) (state g.S.Store c.find_named_member.new.conn)
    (state g.S.Store c.refuse_missing.new.conn) c.find_named_member.ensures.reads_only
    (λ early has. c.in-Err-QueryReturnedNoRows.ensures.unchanged early has
    c.in-Err-QueryReturnedNoRows.field-0-is) c.refuse_missing.ensures.reads_only
