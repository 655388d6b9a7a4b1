use Rattle.std.proofs.Common.{rules, ◌≡◌, ◌∷◌, Err, to_z, of_z, w64, sym, ap, subst, ◌∙◌, arith}
use Rattle.sqlite.specs.Held.{state}
use Rattle.sqlite.specs.Order.{column}
use Rattle.sqlite.specs.State.{HasCleanDisk}
use Rattle.sqlite.proofs.InsideLemmas.{keeps_then}
use Rattle.sqlite_rules.specs.Edit.{id_in}
use Rattle.store_tables.specs.Acceptance.{AcceptsKeep}
use Rattle.store_tables.specs.Books.{HoldBooks}
use Rattle.store_tables.specs.Failures.{HasOutsideCauseOfError}
use Rattle.store_tables.proofs.FailureLemmas.{outside_later}
use Rattle.store_tables.proofs.SchemaCreationLemmas.{clean_before}
use Rattle.store_migration.specs.internal.MigrationWrites.{AcceptKeeps, WroteKeeps}
use Rattle.store_migration.proofs.WriteLemmas.{accepts_first, first_keep_of, one_kept}
use Rattle.store_migration.proofs.writing.+insert_keeps.Goals as goal

pub returns-in_err-insert_keeps-clause-kept : goal.returns-in_err-insert_keeps-clause-kept
returns-in_err-insert_keeps-clause-kept g t c keep_rows clean inside schema empty returned =
    let whole : c.args.keeps.now ≡ c.in-Some.keep.now ∷ c.in-Some.others.now = search rules in
    let parts = first_keep_of c.args.keeps.now c.in-Some.keep.now c.in-Some.others.now keep_rows
    whole returned in
    c.insert_keeps.ensures.kept parts.others clean inside schema empty parts.rest_is

pub returns-in_err-insert_keep-clause-kept : goal.returns-in_err-insert_keep-clause-kept
returns-in_err-insert_keep-clause-kept g t c keep_rows clean inside schema empty returned =
    let old = state g.S.Store c.args.tx.now.conn.now in
    let mid = state g.S.Store c.insert_keeps.new.tx.conn.now in
    let new = state g.S.Store c.insert_keep.new.tx.conn.now in
    let whole : c.args.keeps.now ≡ c.in-Some.keep.now ∷ c.in-Some.others.now = search rules in
    let parts = first_keep_of c.args.keeps.now c.in-Some.keep.now c.in-Some.others.now keep_rows
    whole returned in
    let early : HasCleanDisk mid = clean_before _ mid new c.insert_keep.ensures.no_commit.survives
    clean in
    let before = c.in_ok-insert_keeps.ensures.holds parts.others early inside schema empty
    parts.rest_is in
    keeps_then old mid new (c.insert_keeps.ensures.kept parts.others early inside schema empty
    parts.rest_is) (c.insert_keep.ensures.no_commit.kept clean before.wrote.inside
    before.wrote.schema)

pub returns-clause-holds : goal.returns-clause-holds
returns-clause-holds g t c keep_rows clean inside schema empty returned =
    let old = state g.S.Store c.args.tx.now.conn.now in
    let mid = state g.S.Store c.insert_keeps.new.tx.conn.now in
    let new = state g.S.Store c.insert_keep.new.tx.conn.now in
    let whole : c.args.keeps.now ≡ c.in-Some.keep.now ∷ c.in-Some.others.now = search rules in
    let parts = first_keep_of c.args.keeps.now c.in-Some.keep.now c.in-Some.others.now keep_rows
    whole returned in
    let early : HasCleanDisk mid = clean_before _ mid new c.insert_keep.ensures.no_commit.survives
    clean in
    let before = c.in_ok-insert_keeps.ensures.holds parts.others early inside schema empty
    parts.rest_is in
    let added = c.in_ok-insert_keep.ensures.changes parts.others clean before.wrote.inside
    before.wrote.schema before.apart before.hold in
    let wrote = c.in_ok-insert_keep.ensures.writes parts.others clean before.wrote.inside
    before.wrote.schema before.apart before.hold in
    let book : to_z w64 (of_z w64 c.number_or_zero_at.result) ≡ c.number_or_zero_at.result = search rules in
    let keep : to_z w64 (of_z w64 c.number_or_zero_at-2.result) ≡ c.number_or_zero_at-2.result = search rules in
    subst (λ d. WroteKeeps d old new) (sym parts.is) (one_kept old mid new parts.first parts.others
    (to_z w64 (of_z w64 c.number_or_zero_at.result)) (to_z w64 (of_z w64 c.number_or_zero_at-2.result))
    (book ∙ c.number_or_zero_at.ensures ∙ ap (λ r. id_in (column r 0)) parts.row_is) (keep
    ∙ c.number_or_zero_at-2.ensures ∙ ap (λ r. id_in (column r 1)) parts.row_is) before added wrote)

pub returns-clause-kept : goal.returns-clause-kept
returns-clause-kept g t c keep_rows clean inside schema empty returned =
    let old = state g.S.Store c.args.tx.now.conn.now in
    let mid = state g.S.Store c.insert_keeps.new.tx.conn.now in
    let new = state g.S.Store c.insert_keep.new.tx.conn.now in
    let whole : c.args.keeps.now ≡ c.in-Some.keep.now ∷ c.in-Some.others.now = search rules in
    let parts = first_keep_of c.args.keeps.now c.in-Some.keep.now c.in-Some.others.now keep_rows
    whole returned in
    let early : HasCleanDisk mid = clean_before _ mid new c.insert_keep.ensures.no_commit.survives
    clean in
    let before = c.in_ok-insert_keeps.ensures.holds parts.others early inside schema empty
    parts.rest_is in
    keeps_then old mid new (c.insert_keeps.ensures.kept parts.others early inside schema empty
    parts.rest_is) (c.insert_keep.ensures.no_commit.kept clean before.wrote.inside
    before.wrote.schema)

-- ---- the constraints, and errors

pub returns-clause-obeys : goal.returns-clause-obeys
returns-clause-obeys g t c keep_rows clean inside schema empty returned obeys =
    let mid = state g.S.Store c.insert_keeps.new.tx.conn.now in
    let new = state g.S.Store c.insert_keep.new.tx.conn.now in
    let whole : c.args.keeps.now ≡ c.in-Some.keep.now ∷ c.in-Some.others.now = search rules in
    let parts = first_keep_of c.args.keeps.now c.in-Some.keep.now c.in-Some.others.now keep_rows
    whole returned in
    let early : HasCleanDisk mid = clean_before _ mid new c.insert_keep.ensures.no_commit.survives
    clean in
    let before = c.in_ok-insert_keeps.ensures.holds parts.others early inside schema empty
    parts.rest_is in
    (c.in_ok-insert_keep.ensures.writes parts.others clean before.wrote.inside
    before.wrote.schema before.apart before.hold).obeys

pub returns-in_err-insert_keeps-clause-fails_from_outside :
    goal.returns-in_err-insert_keeps-clause-fails_from_outside
returns-in_err-insert_keeps-clause-fails_from_outside g t c keep_rows bs empty returned books accept
    clean inside schema obeys =
    let whole : c.args.keeps.now ≡ c.in-Some.keep.now ∷ c.in-Some.others.now = search rules in
    let parts = first_keep_of c.args.keeps.now c.in-Some.keep.now c.in-Some.others.now keep_rows
    whole returned in
    let rest = subst (AcceptKeeps bs) parts.is accept in
    let said : c.from_residual.result ≡ Err c.in_err-insert_keeps.field-0.0 = search rules in
    subst (λ r. HasOutsideCauseOfError (state g.S.Store c.args.tx.now.conn.now)
    (state g.S.Store c.insert_keeps.new.tx.conn.now) r) (sym said)
    (c.in_err-insert_keeps.ensures.fails_from_outside parts.others bs empty parts.rest_is books
    (record { apart = rest.apart.1; listed = rest.listed.1 }) clean inside schema obeys)

pub returns-in_err-insert_keep-clause-fails_from_outside :
    goal.returns-in_err-insert_keep-clause-fails_from_outside
returns-in_err-insert_keep-clause-fails_from_outside g t c keep_rows bs empty returned books accept
    clean inside schema obeys =
    let old = state g.S.Store c.args.tx.now.conn.now in
    let mid = state g.S.Store c.insert_keeps.new.tx.conn.now in
    let new = state g.S.Store c.insert_keep.new.tx.conn.now in
    let whole : c.args.keeps.now ≡ c.in-Some.keep.now ∷ c.in-Some.others.now = search rules in
    let parts = first_keep_of c.args.keeps.now c.in-Some.keep.now c.in-Some.others.now keep_rows
    whole returned in
    let rest = subst (AcceptKeeps bs) parts.is accept in
    let early : HasCleanDisk mid = clean_before _ mid new c.insert_keep.ensures.no_commit.survives
    clean in
    let before = c.in_ok-insert_keeps.ensures.holds parts.others early inside schema empty
    parts.rest_is in
    let kept = c.in_ok-insert_keeps.ensures.obeys parts.others early inside schema empty
    parts.rest_is obeys in
    let held : HoldBooks (mid.now.trees 2) bs = subst (λ rows. HoldBooks rows bs)
    (sym (before.wrote.other_tables.1.0 (λ e. omega (arith, e)))) books in
    let book : to_z w64 (of_z w64 c.number_or_zero_at.result) ≡ c.number_or_zero_at.result = search rules in
    let at : to_z w64 (of_z w64 c.number_or_zero_at.result) ≡ parts.first.book = book
    ∙ c.number_or_zero_at.ensures ∙ ap (λ r. id_in (column r 0)) parts.row_is in
    let accepts = subst (AcceptsKeep bs parts.others) (sym at) (accepts_first bs parts.first
    parts.others rest) in
    let said : c.from_residual-in_err-insert_keep.result ≡ Err c.in_err-insert_keep.field-0.0 =
    search rules in
    subst (λ r. HasOutsideCauseOfError old new r) (sym said)
    (λ room. outside_later old mid new _ _ c.insert_keeps.ensures.survives early
    c.insert_keep.ensures.no_commit.survives
    (c.in_err-insert_keep.ensures.fails_from_outside parts.others clean before.wrote.inside
    before.wrote.schema before.apart before.hold bs held accepts clean before.wrote.inside
    before.wrote.schema kept room))
