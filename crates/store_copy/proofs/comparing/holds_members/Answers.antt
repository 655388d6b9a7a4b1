-- The members of a table are compared with a list, one row at a time.
-- Given here: an induction over the rows so far. The invariant says that the query gave them, that
-- nothing changed, and that they are the first `place` of the list, with their new ids. At the end
-- they are all rows of the table (`members_listed`), and all of the list if `place` is its length.
-- If the query gets another text than `all_members_text`, the first two answers break.
use Rattle.std.proofs.Common.{rules, inl, inr, arith, refl, ap, subst, ◌∙◌, ◌≡◌, [], ◌∷◌, ◌++◌, map}
use Rattle.std.proofs.Common.{take, length, IsPermutation}
use Rattle.std.proofs.Math.Seq.{take-length}
use Rattle.sqlite.specs.Effect.{Database}
use Rattle.sqlite.specs.Held.{state}
use Rattle.sqlite.specs.State.{HasCleanDisk, IsUnchanged}
use Rattle.sqlite.proofs.Callers.{begun_plain, unchanged_then}
use Rattle.store_tables.specs.Members.{member_cells}
use Rattle.store_tables.specs.StatementEffects.{OnlyReads}
use Rattle.store_tables.specs.Tables.{book_schema}
use Rattle.store_tables.proofs.Lookups.{plain_under, reads_on, moved_leaves, refused_reads}
use Rattle.store_tables.proofs.Lookups.{begun_reads}
use Rattle.store_tables.proofs.Queries.{all_members_text}
use Rattle.store_tables.proofs.ReturningLemmas.{shown_open}
use Rattle.store_tables.proofs.Texts.{all_members_is, all_members_selects}
use Rattle.store_copy.specs.RowsWithout.{HaveNewIds}
use Rattle.store_copy.proofs.CompareLemmas.{members_listed}
use Rattle.store_copy.proofs.comparing.holds_members.Goals as goal

pub returns-in_err-rows-clause-reads_only : goal.returns-in_err-rows-clause-reads_only
returns-in_err-rows-clause-reads_only g c =
    let held = rw c.in_err-rows.was at c.query.follows.holds-at-none in
    refused_reads all_members_text _ (state g.S.Store c.args.conn.now)
    (state g.S.Store c.query.follows.lender-at-none) c.in_err-rows.field-0.0 all_members_selects
    all_members_is.2 held.err held.mode held.survives

pub rows-init : goal.rows-init
rows-init g c =
    let made = c.in_ok-rows.ensures in
    let old = state g.S.Store c.args.conn.now in
    let new = state g.S.Store c.in_ok-rows.rows.conn.now in
    let begun = λ (clean : HasCleanDisk new) (has : old.now.schema ≡ book_schema). begun_plain
    g.S.Store all_members_text [] c.args.conn.now c.in_ok-rows.rows.conn.now
    (plain_under all_members_text old book_schema has all_members_is.2) (made.begun clean) in (
      refl,
      begun_reads all_members_text [] old new all_members_selects all_members_is.2
          (λ clean. elim (made.begun clean) [
            | inl h ↦ h.1.0.was_open
            | inr h ↦
                shown_open all_members_text [] old new _ h.1
          ]) (λ clean has. (begun clean has).1)
          made.mode made.survives,
      λ clean has. ([], (begun clean has).0, (begun clean has).1, tt),
    )

pub returns-in_err-row-clause-reads_only : goal.returns-in_err-row-clause-reads_only
returns-in_err-row-clause-reads_only g c =
    let looked : OnlyReads (state g.S.Store c.args.conn.now)
    (state g.S.Store c.next.follows.lender-at-none.conn.now) =
    reads_on (state g.S.Store c.args.conn.now) (state g.S.Store c.rows.rows.conn.now)
    (state g.S.Store c.next.follows.lender-at-none.conn.now) c.rows.invariant.1
    (λ clean. moved_leaves _ _ c.next.result (c.next.follows.holds-at-none.same clean)
    (c.next.follows.holds-at-none.kept clean)) c.next.follows.holds-at-none.mode
    c.next.follows.holds-at-none.survives in
    search rules

pub returns-in_default-clause-reads_only : goal.returns-in_default-clause-reads_only
returns-in_default-clause-reads_only g c =
    let looked : OnlyReads (state g.S.Store c.args.conn.now)
    (state g.S.Store c.next.follows.lender-at-none.conn.now) =
    reads_on (state g.S.Store c.args.conn.now) (state g.S.Store c.rows.rows.conn.now)
    (state g.S.Store c.next.follows.lender-at-none.conn.now) c.rows.invariant.1
    (λ clean. moved_leaves _ _ c.next.result (c.next.follows.holds-at-none.same clean)
    (c.next.follows.holds-at-none.kept clean)) c.next.follows.holds-at-none.mode
    c.next.follows.holds-at-none.survives in
    search rules

pub returns-then-not-is_new_row_at-clause-reads_only :
    goal.returns-then-not-is_new_row_at-clause-reads_only
returns-then-not-is_new_row_at-clause-reads_only g c =
    let looked : OnlyReads (state g.S.Store c.args.conn.now)
    (state g.S.Store c.next.follows.lender-at-none.conn.now) =
    reads_on (state g.S.Store c.args.conn.now) (state g.S.Store c.rows.rows.conn.now)
    (state g.S.Store c.next.follows.lender-at-none.conn.now) c.rows.invariant.1
    (λ clean. moved_leaves _ _ c.next.result (c.next.follows.holds-at-none.same clean)
    (c.next.follows.holds-at-none.kept clean)) c.next.follows.holds-at-none.mode
    c.next.follows.holds-at-none.survives in
    search rules

pub returns-in_default-clause-same : goal.returns-in_default-clause-same
returns-in_default-clause-same g c clean has ended =
    let moved = c.next.follows.holds-at-none in
    let mid = state g.S.Store c.rows.rows.conn.now in
    let new = state g.S.Store c.next.follows.lender-at-none.conn.now in
    let late : HasCleanDisk (state g.S.Store c.next.follows.lender-at-none.conn.now) =
    search rules in
    let was = c.rows.invariant.2 (omega (arith, moved.survives.clean)) has in
    let shown = (rw (c.in_ok-row.was, c.in_default.is) at (moved.ok late)) all_members_text [] was.0
    was.1 in
    let listed = members_listed mid new was.0 (ap (λ (d : Database). d.schema) was.2.0.now_is
    ∙ has) shown in
    let members = c.args.members.now in
    let whole : c.rows.place ≡ length members = search rules in
    let all : take c.rows.place members ≡ members = ap (λ n. take n members) whole
    ∙ take-length members in (
      was.0,
      subst (λ (d : Database). IsPermutation (map member_cells (d.trees 4)) was.0) was.2.0.now_is
          listed,
      subst (HaveNewIds 1 5 c.args.left.now was.0) all was.3,
    )

pub rows-preserved : goal.rows-preserved
rows-preserved g c =
    let moved = c.next.follows.holds-at-none in
    let old = state g.S.Store c.args.conn.now in
    let mid = state g.S.Store c.rows.rows.conn.now in
    let new = state g.S.Store c.next.follows.lender-at-none.conn.now in
    let looked : OnlyReads old new = reads_on (state g.S.Store c.args.conn.now)
    (state g.S.Store c.rows.rows.conn.now)
    (state g.S.Store c.next.follows.lender-at-none.conn.now) c.rows.invariant.1
    (λ clean. moved_leaves _ _ c.next.result (c.next.follows.holds-at-none.same clean)
    (c.next.follows.holds-at-none.kept clean)) c.next.follows.holds-at-none.mode
    c.next.follows.holds-at-none.survives in
    let next = c.is_new_row_at.ensures.next c.if-not-is_new_row_at.false in (
      moved.same_reference ∙ c.rows.invariant.0,
      looked,
      λ clean has.
          let was = c.rows.invariant.2 (omega (arith, moved.survives.clean)) has in
          let same : IsUnchanged mid new = rw c.in_ok-row.was at (moved.same clean) in
          let given = (rw (c.in_ok-row.was, c.in-Some.is) at (moved.ok clean)) all_members_text []
          was.0 was.1 in (
            was.0 ++ c.in-Some.row.now ∷ [],
            given,
            unchanged_then old mid new was.2 same,
            next was.0 was.3,
          ),
    )
