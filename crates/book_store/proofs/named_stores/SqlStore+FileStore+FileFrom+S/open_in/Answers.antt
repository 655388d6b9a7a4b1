use Rattle.std.proofs.Common.{inl, inr, subst, sym, ◌∙◌}
use Rattle.sqlite.specs.Files.{file_state}
use Rattle.sqlite.specs.State.{HasCleanDisk}
use Rattle.store_check.specs.OpenResults.{max_limits}
use Rattle.store_rows.specs.SoundTables.{HoldsWellFormed}
use Rattle.store_tables.proofs.SchemaCreationLemmas.{clean_before}
use Rattle.book_store.specs.Restarts.{declared_over}
use Rattle.book_store.proofs.FileLemmas.{found_in_files, found_well_formed}
use Rattle.book_store.proofs.RefusalLemmas.{opened_fault}
use Rattle.book_store.proofs.PathLemmas.{fails_with, named_apart, path_cause}
use Rattle.book_store.proofs.PathLemmas.{shown_at}
use Rattle.book_store.proofs.RestartLemmas.{clean_left, found_books, unread_fault}
use Rattle.book_store.proofs.named_stores.SqlStore+FileStore+FileFrom+S.open_in.Goals as goal

pub returns-in-Ok-try_adopt-clause-well_formed : goal.returns-in-Ok-try_adopt-clause-well_formed
returns-in-Ok-try_adopt-clause-well_formed g c =
    let e = c.in-Ok-try_adopt.ensures in
    found_well_formed (file_state c.in-Ok.connection) (file_state c.in-Ok-try_adopt.store.conn)
    e.changes_nothing c.in-Ok.ensures.opened e.premise e.well_formed

pub returns-in-Ok-try_adopt-clause-found : goal.returns-in-Ok-try_adopt-clause-found
returns-in-Ok-try_adopt-clause-found g c =
    let e = c.in-Ok-try_adopt.ensures in
    found_in_files _ (file_state c.in-Ok.connection)
    (file_state c.in-Ok-try_adopt.store.conn) e.changes_nothing c.in-Ok.ensures.opened
    c.in-Ok.ensures.found e.premise

pub returns-in-Err-try_adopt-clause-refused : goal.returns-in-Err-try_adopt-clause-refused
returns-in-Err-try_adopt-clause-refused g c =
    opened_fault _ c.in-Ok.connection c.in-Err-try_adopt.conn c.into_store.result
    c.in-Ok.ensures.opened c.in-Ok.ensures.found c.into_store.ensures.quiet
    c.in-Err-try_adopt.fault c.in-Err-try_adopt.ensures.refused

pub returns-in-Err-clause-refused : goal.returns-in-Err-clause-refused
returns-in-Err-clause-refused g c =
    c.open_refusal.ensures.right _ c.in-Err.ensures.cause

pub returns-in-Ok-try_adopt-clause-opens : goal.returns-in-Ok-try_adopt-clause-opens
returns-in-Ok-try_adopt-clause-opens g c books holds order =
    let e = c.in-Ok-try_adopt.ensures in
    let early = (e.premise order).0 in
    e.books order ∙ found_books _ books holds (file_state c.in-Ok.connection)
    (c.in-Ok.ensures.opened early).0.clean (c.in-Ok.ensures.found early)

-- ---- why a file that holds a store doesn't open

pub returns-in-Err-clause-cause : goal.returns-in-Err-clause-cause
returns-in-Err-clause-cause g c books holds =
    path_cause _ (declared_over holds.trees)
    holds.trees holds.listed.holds c.in-Err.error c.in-Err.left c.open_refusal.result.1
    c.open_refusal.result.0
    (named_apart c.in-Err.error c.in-Err.left c.in-Err.ensures.error_kind)
    (fails_with _ c.in-Err.error c.in-Err.left c.in-Err.ensures.cause)
    c.open_refusal.ensures.clean c.open_refusal.ensures.other
    (c.open_refusal.ensures.right _ c.in-Err.ensures.cause)

pub returns-in-Err-try_adopt-clause-cause : goal.returns-in-Err-try_adopt-clause-cause
returns-in-Err-try_adopt-clause-cause g c books holds clean =
    let refused = c.in-Err-try_adopt.ensures.refused in
    let late : HasCleanDisk (file_state c.in-Err-try_adopt.conn) =
    clean_left c.in-Err-try_adopt.conn c.into_store.result c.into_store.ensures.quiet clean in
    let early : HasCleanDisk (file_state c.in-Ok.connection) =
    clean_before _ (file_state c.in-Ok.connection) (file_state c.in-Err-try_adopt.conn)
    refused.left_unchanged.survives late in
    let shows = shown_at _ books holds (file_state c.in-Ok.connection)
    (c.in-Ok.ensures.opened early) (c.in-Ok.ensures.found early) in
    elim (unread_fault (declared_over holds.trees) c.in-Ok.connection c.in-Err-try_adopt.conn
    c.into_store.result c.in-Err-try_adopt.fault c.in-Ok.ensures.fresh.unlimited shows
    c.into_store.ensures.quiet (refused.from_outside late (subst (HoldsWellFormed max_limits)
    (sym shows.shows) holds.well_formed))) [
      | inl memory ↦ inl memory
      | inr (is, failed) ↦ inr (is, inr (inl failed))
    ]
