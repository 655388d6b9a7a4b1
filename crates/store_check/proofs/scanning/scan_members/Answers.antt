-- The members are read one at a time, tested and counted, until one isn't good.
-- Given here: an induction over the rows so far. The invariant says that the query gave them, that
-- nothing changed, and that they are good, have rising ids and were counted. At the end they are
-- all rows of the table (`all_listed`), at a fault some of them (`first_listed`).
-- If the query gets another text than `scan_text`, the first two answers break.
use Rattle.std.proofs.Common.{rules, inl, inr, arith, refl, sym, ap, subst, ◌∙◌, ◌≡◌, [], ◌∷◌, ◌++◌}
use Rattle.std.proofs.Common.{Err, None, map, IsPermutation, true≢false}
use Rattle.sqlite.specs.Effect.{Database}
use Rattle.sqlite.specs.Held.{state}
use Rattle.sqlite.specs.State.{HasCleanDisk, IsUnchanged}
use Rattle.sqlite.proofs.Callers.{begun_plain, given_begin, unchanged_then}
use Rattle.store_tables.specs.Failures.{HasOutsideCauseOfError}
use Rattle.store_tables.specs.Members.{HoldMembers, member_cells}
use Rattle.store_tables.specs.StatementEffects.{OnlyReads}
use Rattle.store_tables.specs.Tables.{book_schema}
use Rattle.store_tables.proofs.FailureLemmas.{outside_later}
use Rattle.store_tables.proofs.Lookups.{plain_under, reads_on, moved_leaves, refused_reads}
use Rattle.store_tables.proofs.Lookups.{begun_reads}
use Rattle.store_tables.proofs.Queries.{scan_text}
use Rattle.store_tables.proofs.QueryFailures.{scan_fails}
use Rattle.store_tables.proofs.ReturningLemmas.{shown_open}
use Rattle.store_tables.proofs.Texts.{scan_is, scan_selects}
use Rattle.store_check.specs.MemberScans.{DoesTake}
use Rattle.store_check.proofs.OrderedLemmas.{rises_above, scan_rises}
use Rattle.store_check.proofs.ScanLemmas.{above_last, all_listed, first_listed, none_taken}
use Rattle.store_check.proofs.ScanLemmas.{one_more_taken, scanned_all, scanned_part}
use Rattle.store_check.proofs.scanning.scan_members.Goals as goal

pub returns-in_err-rows-clause-reads_only : goal.returns-in_err-rows-clause-reads_only
returns-in_err-rows-clause-reads_only g c =
    let held = rw c.in_err-rows.was at c.query.follows.holds-at-none in
    refused_reads scan_text _ (state g.S.Store c.args.conn.now)
    (state g.S.Store c.query.follows.lender-at-none) c.in_err-rows.field-0.0 scan_selects
    scan_is.2 held.err held.mode held.survives

pub rows-init : goal.rows-init
rows-init g c =
    let made = c.in_ok-rows.ensures in
    let old = state g.S.Store c.args.conn.now in
    let new = state g.S.Store c.in_ok-rows.rows.conn.now in
    let begun = λ (clean : HasCleanDisk new) (has : old.now.schema ≡ book_schema). begun_plain
    g.S.Store scan_text [] c.args.conn.now c.in_ok-rows.rows.conn.now
    (plain_under scan_text old book_schema has scan_is.2) (made.begun clean) in (
      refl,
      begun_reads scan_text [] old new scan_selects scan_is.2 (λ clean. elim (made.begun clean)
          [ inl h ↦ h.1.0.was_open | inr h ↦ shown_open scan_text [] old new _ h.1 ])
          (λ clean has. (begun clean has).1) made.mode made.survives,
      λ clean has. ([], (begun clean has).0, (begun clean has).1, none_taken c.args.tallies.now),
    )

pub returns-in_err-row-clause-reads_only : goal.returns-in_err-row-clause-reads_only
returns-in_err-row-clause-reads_only g c =
    let looked : OnlyReads (state g.S.Store c.args.conn.now)
    (state g.S.Store c.next.follows.lender-at-none.conn.now) =
    reads_on (state g.S.Store c.args.conn.now) (state g.S.Store c.rows.rows.conn.now)
    (state g.S.Store c.next.follows.lender-at-none.conn.now) c.rows.invariant.1
    (λ clean. moved_leaves _ _ c.next.result (c.next.follows.holds-at-none.same clean)
    (c.next.follows.holds-at-none.kept clean)) c.next.follows.holds-at-none.mode
    c.next.follows.holds-at-none.survives in
    search rules

pub returns-in_default-clause-reads_only : goal.returns-in_default-clause-reads_only
returns-in_default-clause-reads_only g c =
    let looked : OnlyReads (state g.S.Store c.args.conn.now)
    (state g.S.Store c.next.follows.lender-at-none.conn.now) =
    reads_on (state g.S.Store c.args.conn.now) (state g.S.Store c.rows.rows.conn.now)
    (state g.S.Store c.next.follows.lender-at-none.conn.now) c.rows.invariant.1
    (λ clean. moved_leaves _ _ c.next.result (c.next.follows.holds-at-none.same clean)
    (c.next.follows.holds-at-none.kept clean)) c.next.follows.holds-at-none.mode
    c.next.follows.holds-at-none.survives in
    search rules

pub returns-in_err-faulty-clause-reads_only : goal.returns-in_err-faulty-clause-reads_only
returns-in_err-faulty-clause-reads_only g c =
    let looked : OnlyReads (state g.S.Store c.args.conn.now)
    (state g.S.Store c.next.follows.lender-at-none.conn.now) =
    reads_on (state g.S.Store c.args.conn.now) (state g.S.Store c.rows.rows.conn.now)
    (state g.S.Store c.next.follows.lender-at-none.conn.now) c.rows.invariant.1
    (λ clean. moved_leaves _ _ c.next.result (c.next.follows.holds-at-none.same clean)
    (c.next.follows.holds-at-none.kept clean)) c.next.follows.holds-at-none.mode
    c.next.follows.holds-at-none.survives in
    search rules

pub returns-in-Some-2-clause-reads_only : goal.returns-in-Some-2-clause-reads_only
returns-in-Some-2-clause-reads_only g c =
    let looked : OnlyReads (state g.S.Store c.args.conn.now)
    (state g.S.Store c.next.follows.lender-at-none.conn.now) =
    reads_on (state g.S.Store c.args.conn.now) (state g.S.Store c.rows.rows.conn.now)
    (state g.S.Store c.next.follows.lender-at-none.conn.now) c.rows.invariant.1
    (λ clean. moved_leaves _ _ c.next.result (c.next.follows.holds-at-none.same clean)
    (c.next.follows.holds-at-none.kept clean)) c.next.follows.holds-at-none.mode
    c.next.follows.holds-at-none.survives in
    search rules

pub returns-in_default-clause-scans : goal.returns-in_default-clause-scans
returns-in_default-clause-scans g c clean has distinct start =
    let moved = c.next.follows.holds-at-none in
    let mid = state g.S.Store c.rows.rows.conn.now in
    let new = state g.S.Store c.next.follows.lender-at-none.conn.now in
    let late : HasCleanDisk (state g.S.Store c.next.follows.lender-at-none.conn.now) =
    search rules in
    let was = c.rows.invariant.2 (omega (arith, moved.survives.clean)) has in
    let shown = (rw (c.in_ok-row.was, c.in_default.is) at (moved.ok late)) scan_text [] was.0
    was.1 in
    let listed = all_listed mid new was.0 (ap (λ (d : Database). d.schema) was.2.0.now_is
    ∙ has) shown in
    scanned_all ((state g.S.Store c.args.conn.now).now.trees 4) c.args.books.now c.args.tallies.now
    c.rows.tallies c.rows.last was.0 was.3
    (subst (λ (d : Database). IsPermutation (map member_cells (d.trees 4)) was.0) was.2.0.now_is
    listed) distinct start

pub returns-in-Some-2-clause-scans : goal.returns-in-Some-2-clause-scans
returns-in-Some-2-clause-scans g c clean has distinct start =
    let moved = c.next.follows.holds-at-none in
    let old = state g.S.Store c.args.conn.now in
    let mid = state g.S.Store c.rows.rows.conn.now in
    let new = state g.S.Store c.next.follows.lender-at-none.conn.now in
    let late : HasCleanDisk (state g.S.Store c.next.follows.lender-at-none.conn.now) =
    search rules in
    let was = c.rows.invariant.2 (omega (arith, moved.survives.clean)) has in
    let rows = was.0 ++ c.in-Some.row.now ∷ [] in
    let given = (rw (c.in_ok-row.was, c.in-Some.is) at (moved.ok late)) scan_text [] was.0 was.1 in
    let begins = given_begin g.S.Store scan_text [] c.next.follows.lender-at-none.conn.now rows
    given in
    let same : IsUnchanged mid new = rw c.in_ok-row.was at (moved.same late) in
    let now_is : new.now ≡ old.now = same.0.now_is ∙ was.2.0.now_is in
    let got = first_listed new rows (ap (λ (d : Database). d.schema) now_is ∙ has) begins in
    let step = subst (DoesTake c.args.books.now c.rows.tallies c.take_member.new.tallies c.rows.last
    c.take_member.new.last c.in-Some.row.now) c.in-Some-2.is c.in_ok-faulty.ensures.takes in
    scanned_part (old.now.trees 4) c.args.books.now c.args.tallies.now c.rows.tallies
    c.take_member.new.tallies c.rows.last c.take_member.new.last was.0 c.in-Some.row.now
    c.in-Some-2.faulty got.0 was.3 step
    (subst (λ (d : Database). IsPermutation (map member_cells (d.trees 4)) (rows ++ got.0)) now_is
    got.1) distinct start

pub rows-preserved : goal.rows-preserved
rows-preserved g c =
    let moved = c.next.follows.holds-at-none in
    let old = state g.S.Store c.args.conn.now in
    let mid = state g.S.Store c.rows.rows.conn.now in
    let new = state g.S.Store c.next.follows.lender-at-none.conn.now in
    let looked : OnlyReads old new = reads_on (state g.S.Store c.args.conn.now)
    (state g.S.Store c.rows.rows.conn.now)
    (state g.S.Store c.next.follows.lender-at-none.conn.now) c.rows.invariant.1
    (λ clean. moved_leaves _ _ c.next.result (c.next.follows.holds-at-none.same clean)
    (c.next.follows.holds-at-none.kept clean)) c.next.follows.holds-at-none.mode
    c.next.follows.holds-at-none.survives in
    let good : c.in_ok-faulty.field-0 ≡ None = search rules in
    let step = subst (DoesTake c.args.books.now c.rows.tallies c.take_member.new.tallies c.rows.last
    c.take_member.new.last c.in-Some.row.now) good c.in_ok-faulty.ensures.takes in (
      moved.same_reference ∙ c.rows.invariant.0,
      looked,
      λ clean has.
          let was = c.rows.invariant.2 (omega (arith, moved.survives.clean)) has in
          let same : IsUnchanged mid new = rw c.in_ok-row.was at (moved.same clean) in
          let given = (rw (c.in_ok-row.was, c.in-Some.is) at (moved.ok clean)) scan_text [] was.0
          was.1 in (
            was.0 ++ c.in-Some.row.now ∷ [],
            given,
            unchanged_then old mid new was.2 same,
            one_more_taken c.args.books.now c.args.tallies.now c.rows.tallies
                c.take_member.new.tallies c.rows.last c.take_member.new.last was.0 c.in-Some.row.now
                was.3 step,
          ),
    )

pub returns-in_err-rows-clause-fails_from_outside :
    goal.returns-in_err-rows-clause-fails_from_outside
returns-in_err-rows-clause-fails_from_outside g c ms clean has there kept =
    let held = rw c.in_err-rows.was at c.query.follows.holds-at-none in
    let old = state g.S.Store c.args.conn.now in
    let new = state g.S.Store c.query.follows.lender-at-none in
    let late : HasCleanDisk (state g.S.Store c.query.follows.lender-at-none) = search rules in
    let said : c.from_residual.result ≡ Err c.in_err-rows.field-0.0 = search rules in
    subst (HasOutsideCauseOfError old new) (sym said) (scan_fails old new c.in_err-rows.field-0.0
    has (held.err late))

pub returns-in_err-row-clause-fails_from_outside : goal.returns-in_err-row-clause-fails_from_outside
returns-in_err-row-clause-fails_from_outside g c ms clean has there kept =
    let moved = c.next.follows.holds-at-none in
    let old = state g.S.Store c.args.conn.now in
    let mid = state g.S.Store c.rows.rows.conn.now in
    let new = state g.S.Store c.next.follows.lender-at-none.conn.now in
    let late : HasCleanDisk (state g.S.Store c.next.follows.lender-at-none.conn.now) =
    search rules in
    let early : HasCleanDisk mid = omega (arith, moved.survives.clean) in
    let was = c.rows.invariant.2 early has in
    let fails = (rw c.in_err-row.was at (moved.err late)) scan_text [] was.0 was.1 in
    let still : mid.now.schema ≡ book_schema = ap (λ (d : Database). d.schema) was.2.0.now_is
    ∙ has in
    let said : c.from_residual-in_err-row.result ≡ Err c.in_err-row.field-0.0 = search rules in
    let caused : HasOutsideCauseOfError (state g.S.Store c.args.conn.now)
    (state g.S.Store c.next.follows.lender-at-none.conn.now) c.from_residual-in_err-row.result =
    subst (HasOutsideCauseOfError old new) (sym said)
    (λ room. outside_later old mid new _ _ c.rows.invariant.1.survives early moved.survives
    (scan_fails mid new c.in_err-row.field-0.0 still fails room)) in
    search rules

pub returns-in_err-faulty-clause-fails_from_outside :
    goal.returns-in_err-faulty-clause-fails_from_outside
returns-in_err-faulty-clause-fails_from_outside g c ms clean has there kept =
    let moved = c.next.follows.holds-at-none in
    let old = state g.S.Store c.args.conn.now in
    let mid = state g.S.Store c.rows.rows.conn.now in
    let new = state g.S.Store c.next.follows.lender-at-none.conn.now in
    let late : HasCleanDisk (state g.S.Store c.next.follows.lender-at-none.conn.now) =
    search rules in
    let was = c.rows.invariant.2 (omega (arith, moved.survives.clean)) has in
    let rows = was.0 ++ c.in-Some.row.now ∷ [] in
    let given = (rw (c.in_ok-row.was, c.in-Some.is) at (moved.ok late)) scan_text [] was.0 was.1 in
    let begins = given_begin g.S.Store scan_text [] c.next.follows.lender-at-none.conn.now rows
    given in
    let same : IsUnchanged mid new = rw c.in_ok-row.was at (moved.same late) in
    let now_is : new.now ≡ old.now = same.0.now_is ∙ was.2.0.now_is in
    let got = scan_rises new ms rows (ap (λ (d : Database). d.schema) now_is
    ∙ has) (subst (λ (d : Database). HoldMembers (d.trees 4) ms) (sym now_is) there) kept
    begins in
    let above = above_last c.rows.last was.0 c.in-Some.row.now was.3.last_of
    (rises_above was.0 c.in-Some.row.now got.0 got.1) in
    let said : c.from_residual-in_err-faulty.result ≡ Err c.in_err-faulty.field-0.0 =
    search rules in
    let caused : HasOutsideCauseOfError (state g.S.Store c.args.conn.now)
    (state g.S.Store c.next.follows.lender-at-none.conn.now)
    c.from_residual-in_err-faulty.result =
    subst (HasOutsideCauseOfError old new) (sym said) (λ room. absurd (true≢false (sym above
    ∙ c.in_err-faulty.ensures.fails room))) in
    search rules
