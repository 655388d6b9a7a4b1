use Rattle.std.proofs.Common.{subst, sym, ◌∙◌}
use Rattle.sqlite.specs.Files.{file_state, image_of}
use Rattle.sqlite.specs.State.{HasCleanDisk}
use Rattle.sqlite.specs.declared.file.Leftover.TheVariants as leftover
use Rattle.sqlite_store.specs.Laws.{settled_at}
use Rattle.store_check.specs.OpenResults.{max_limits}
use Rattle.store_rows.specs.SoundTables.{HoldsWellFormed}
use Rattle.store_tables.proofs.SchemaCreationLemmas.{clean_before}
use Rattle.book_store.specs.Restarts.{declared_over}
use Rattle.book_store.proofs.RestartLemmas.{cause_kind, clean_left, shown_books, unopened_cause}
use Rattle.book_store.proofs.RestartLemmas.{unread_cause, unread_files}
use Rattle.named_files.proofs.SealedLemmas.{leaves_the_same}
use Rattle.book_store.proofs.restarting.SqlStore+FileStore+D.open_again.Goals as goal

pub returns-in-Ok-try_adopt-clause-opens : goal.returns-in-Ok-try_adopt-clause-opens
returns-in-Ok-try_adopt-clause-opens g c books holds order =
    let before = c.in-Ok-try_adopt.ensures.premise order in
    c.in-Ok-try_adopt.ensures.books order
    ∙ shown_books (image_of g.D.Disk c.args.files) books holds (file_state c.in-Ok.connection)
    (c.in-Ok.ensures.opens (declared_over holds.trees) holds.listed) before.0

pub returns-in-Ok-try_adopt-clause-honest : goal.returns-in-Ok-try_adopt-clause-honest
returns-in-Ok-try_adopt-clause-honest g c clean =
    let adopted = c.in-Ok-try_adopt.ensures in
    let early = clean_before _ (file_state c.in-Ok.connection)
    (file_state c.in-Ok-try_adopt.store.conn) adopted.changes_nothing.survives clean in
    (c.in-Ok.ensures.honest early, adopted.opened clean)

pub returns-in-Err-clause-cause : goal.returns-in-Err-clause-cause
returns-in-Err-clause-cause g c books holds clean =
    unopened_cause (declared_over holds.trees) c.args.files c.in-Err.left c.in-Err.error
    c.open_fault_of.result c.open_fault_of.ensures.kind c.open_fault_of.ensures.value
    (c.in-Err.ensures.cause holds.trees holds.listed.holds clean)

pub returns-in-Err-try_adopt-clause-cause : goal.returns-in-Err-try_adopt-clause-cause
returns-in-Err-try_adopt-clause-cause g c books holds clean =
    let refused = c.in-Err-try_adopt.ensures.refused in
    let late : HasCleanDisk (file_state c.in-Err-try_adopt.connection) =
    clean_left c.in-Err-try_adopt.connection c.into_store.result c.into_store.ensures.quiet
    clean in
    let early : HasCleanDisk (file_state c.in-Ok.connection) =
    clean_before _ (file_state c.in-Ok.connection) (file_state c.in-Err-try_adopt.connection)
    refused.left_unchanged.survives late in
    let shows = c.in-Ok.ensures.opens (declared_over holds.trees) holds.listed early in
    unread_cause (declared_over holds.trees) c.args.files c.in-Ok.connection
    c.in-Err-try_adopt.connection c.into_store.result c.in-Err-try_adopt.fault
    c.in-Ok.ensures.fresh.unlimited shows c.into_store.ensures.quiet
    (refused.from_outside late (subst (HoldsWellFormed max_limits) (sym shows.shows)
    holds.well_formed))

pub returns-in-Err-try_adopt-clause-kind : goal.returns-in-Err-try_adopt-clause-kind
returns-in-Err-try_adopt-clause-kind g c books holds clean =
    cause_kind (declared_over holds.trees) c.args.files (leftover.Store c.into_store.result)
    c.in-Err-try_adopt.fault (returns-in-Err-try_adopt-clause-cause g c books holds clean)

pub returns-in-Err-try_adopt-clause-unharmed : goal.returns-in-Err-try_adopt-clause-unharmed
returns-in-Err-try_adopt-clause-unharmed g c clean =
    let refused = c.in-Err-try_adopt.ensures.refused in
    let late = clean_left c.in-Err-try_adopt.connection c.into_store.result
    c.into_store.ensures.quiet clean in
    let early = clean_before _ (file_state c.in-Ok.connection)
    (file_state c.in-Err-try_adopt.connection) refused.left_unchanged.survives late in
    unread_files c.args.files c.in-Ok.connection c.in-Err-try_adopt.connection c.into_store.result
    (λ trees may. settled_at c.in-Ok.connection.store g.met.D.Disk.seen_may_stay trees
    (c.in-Ok.ensures.opened early).0.is_open may)
    (c.in-Ok.ensures.found early) late refused.left_unchanged.survives c.into_store.ensures.quiet

pub returns-in-Err-try_adopt-clause-leaves : goal.returns-in-Err-try_adopt-clause-leaves
returns-in-Err-try_adopt-clause-leaves g c =
    leaves_the_same c.args.files (leftover.Store c.into_store.result)
    (returns-in-Err-try_adopt-clause-unharmed g c)
