-- Files that hold a store open again with its books.
use Rattle.std.proofs.Common.{◌≡◌, ◌⊎◌, inl, inr, IsTrue, None, sym, ap, subst, ◌∙◌, true≢false}
use Rattle.std.proofs.Common.{arith}
use Rattle.std.proofs.Math.Logic.{∥∥₁_elim, ∥∥₁_map}
use Rattle.sqlite.specs.Effect.{Database}
use Rattle.sqlite.specs.Files.{AreFound, Finds, HoldsDatabase, LeavesFiles, file_state, image_of}
use Rattle.sqlite.specs.Files.{IsCleanLeft, over_files}
use Rattle.sqlite.specs.Held.{Held}
use Rattle.sqlite.specs.Recovery.{Image}
use Rattle.sqlite.specs.Start.{FindsIn}
use Rattle.sqlite.specs.State.{State, HasCleanDisk, Survives}
use Rattle.sqlite.specs.Tree.{Trees}
use Rattle.sqlite.specs.WalFiles.{outcomes}
use Rattle.sqlite.specs.WalReads.{AreClean}
use Rattle.sqlite.specs.declared.error.Error.{Error}
use Rattle.sqlite.specs.declared.file.Leftover.{Leftover}
use Rattle.sqlite.specs.declared.file.Leftover.TheVariants as leftover
use Rattle.book_model.specs.WellFormed.{IsWellFormed}
use Rattle.book_model.specs.Bounds.{Bounds}
use Rattle.book_model.specs.Books.{Books}
use Rattle.named_files.specs.Leftovers.{IsTold, LeavesTheSame, MayLeaveOf}
use Rattle.named_files.specs.Restarts.{HasOpenCause, HoldsSealed, LeaveSealedOneOf, ShowsOpened}
use Rattle.named_files.proofs.SealedLemmas.{sealed_holds}
use Rattle.store_check.specs.OpenResults.{max_limits}
use Rattle.store_lookups.specs.StoredBooks.{IsOpenOnHonestDisk, stored_books}
use Rattle.store_rows.specs.TableBooks.{books_in}
use Rattle.store_rows.proofs.HeldRows.{books_held}
use Rattle.store_schema.specs.OpenFaults.{ComesFromOutside, IsErrorFault, open_fault_of_error}
use Rattle.store_schema.specs.declared.open_fault.OpenFault.{OpenFault}
use Rattle.store_schema.specs.declared.open_fault.OpenFault.TheVariants.{Memory, Store}
use Rattle.sqlite_disk.specs.declared.Disk.{Ghosts}
use Rattle.sqlite_disk.specs.declared.Files.{Files}
use Rattle.sqlite_store.specs.FileStore as store
use Rattle.sqlite_store.specs.declared.store.FileStore.{FileStore}
use Rattle.sqlite_trees.specs.View.{IsQuiet}
use Rattle.sqlite_trees.proofs.Doubt.{no_doubt}
use Rattle.store_writes.specs.TableChanges.{TreesHold}
use Rattle.book_store.specs.Crashes.{StoresSurviveCrashes}
use Rattle.book_store.specs.Restarts.{FailsAgain, FailsOnceOpened, HasRestartCause, HoldsStore}
use Rattle.book_store.specs.Restarts.{LeaveStores, LeftStore, OpensLeft, StillLeaves}
use Rattle.book_store.specs.Restarts.{declared_over}
use Rattle.book_store.specs.StoreViews.{IsStore, LeftTrees, MayLeaveBooks, StoreView, StoredTrees}
use Rattle.book_store.specs.StoreViews.{table_model}
use Rattle.sync_core.specs.StoreCrashes.{IsSettled, RestartsFrom}

module _ (image : Image) (books : Books) (holds : HoldsStore image books) (s : State) (shows :
    HasCleanDisk s → ShowsOpened s (declared_over holds.trees)) where
  -- a connection that shows them has these books
  pub shown_books : HasCleanDisk s → stored_books s ≡ books
  shown_books clean = ap (λ (d : Database). books_in d.trees) (shows clean).shows ∙ holds.books_are

-- so has one that was opened at a path
pub found_books : (image : Image) (books : Books) → HoldsStore image books → (s : State)
    → s.now ≡ s.committed → FindsIn image s → stored_books s ≡ books
found_books image books holds s settled found =
    ap (λ (d : Database). books_in d.trees) settled
    ∙ ap books_in (found.holds holds.trees holds.listed.holds) ∙ holds.books_are

-- what a crash leaves of the files of a store holds its books
pub left_books : {D : Type 0} {g : Ghosts D} (c : Held (FileStore D g)) (limits : Bounds) (files :
    Files D) → StoresSurviveCrashes (over_files {g = g}) → IsStore (file_state c) limits
    → LeaveSealedOneOf g files (file_state c).may_leave
    → IsOpenOnHonestDisk (file_state c)
    → LeaveSealedOneOf g files (TreesHold (stored_books (file_state c)))
left_books c limits files law is left order clean image may =
    ∥∥₁_map (left clean image may) (λ db. (
      db.0,
      (law (record { conn = c; limits = limits }) is order).only_these db.0 db.1,
      db.2,
    ))

-- what a crash leaves of them is a store's, also if the connection was closed
pub left_stores : {D : Type 0} {g : Ghosts D} (c : Held (FileStore D g)) (limits : Bounds) (files :
    Files D) → IsStore (file_state c) limits → (AreClean g files.log files.db
    → HasCleanDisk (file_state c)) → LeaveSealedOneOf g files (file_state c).may_leave
    → LeaveSealedOneOf g files (LeftTrees (file_state c))
left_stores c limits files is was left clean image may =
    ∥∥₁_map (left clean image may) (λ db. (
      db.0,
      record {
        may_be_left = db.1;
        stored = is.leaves_stores (was clean) db.0 db.1;
      },
      db.2,
    ))

-- the tables of a store's trees are listed, and their rows are those of well-formed books
pub trees_hold_store : (image : Image) (trees : Trees) → HoldsDatabase image trees
    → (stored : StoredTrees trees) → HoldsStore image stored.books
trees_hold_store image trees held stored =
    let sound = stored.holds.sound in
    let books = books_held (declared_over trees) sound.rows sound.holds sound.sound in
    record {
      trees = trees;
      listed = record { holds = held; lists = sound.holds.obeys.lists };
      well_formed = record {
        rows = sound.rows;
        holds = sound.holds;
        well_formed = record {
          sound = sound.sound;
          books = subst (IsWellFormed max_limits) (sym stored.holds.books_are
              ∙ books) stored.well_formed;
        };
      };
      books_are = stored.holds.books_are;
    }

-- bytes with the trees of a store, which the connection allowed
left_store : (s : State) (image : Image) (trees : Trees) → HasCleanDisk s → LeftTrees s trees
    → HoldsSealed image trees → LeftStore s image
unfolding trees_hold_store
left_store s image trees clean left held =
    let stored = left.stored in
    record {
      books = stored.books;
      may_be_left = record {
        clean = clean;
        trees = trees;
        may_be_left = left.may_be_left;
        holds = stored.holds;
      };
      holds = trees_hold_store image trees (sealed_holds image trees held) stored;
      whole = held;
    }

-- whatever a crash leaves of the files of a store is one of these stores
pub crashed_store : {D : Type 0} {g : Ghosts D} (c : Held (FileStore D g)) (left : Files D)
    → LeaveSealedOneOf g left (LeftTrees (file_state c)) → (AreClean g left.log left.db
    → HasCleanDisk (file_state c)) → LeaveStores g (file_state c) left
crashed_store {g = g} c left leaves was clean image may =
    ∥∥₁_map (leaves clean image may) (λ db.
    left_store (file_state c) image db.0 (was clean) db.1 db.2)

-- and so of the files after a crash
pub crashed_again : {D : Type 0} (g : Ghosts D) (s : State) (left files : Files D)
    → LeaveStores g s left → (AreClean g files.log files.db → AreClean g left.log left.db)
    → ((image : Image) → outcomes g files.log files.db image
    → outcomes g left.log left.db image) → LeaveStores g s files
crashed_again g s left files leaves before again clean image may =
    leaves (before clean) image (again image may)

-- ---- after an opening that failed

-- other bytes with the same database
moved : (s : State) (old new : Image) (left : LeftStore s old)
    → HoldsSealed new left.holds.trees → LeftStore s new
moved s old new left whole = record {
  books = left.books;
  may_be_left = left.may_be_left;
  holds = record {
    trees = left.holds.trees;
    listed = record {
      holds = sealed_holds new left.holds.trees whole;
      lists = left.holds.listed.lists;
    };
    well_formed = left.holds.well_formed;
    books_are = left.holds.books_are;
  };
  whole = whole;
}

-- what is left of such files still leaves one of these stores
pub still_leaves : {D : Type 0} {g : Ghosts D} (s : State) (files : Files D) (left : Leftover D g)
    → (AreClean g files.log files.db → ∥ LeftStore s (image_of g files) ∥₁)
    → LeaveStores g s files → LeavesTheSame files left → IsTold files left → StillLeaves s left
still_leaves {g = g} s files left holds leaves same told clean image may =
    let honest = told.honest clean in
    ∥∥₁_elim (holds honest) squash₁ (λ store.
    elim (same clean told.numbered store.holds.trees store.whole image may) [
      | inl before ↦ leaves honest image before
      | inr held ↦ ∥∥₁_map held (λ whole. moved s (image_of g files) image store whole)
    ])

-- the same after one more crash, and for each store of which the files leave books
pub fails_again : {D : Type 0} {g : Ghosts D} (before : Leftover D g) (files : Files D)
    (after : Leftover D g) (fault : OpenFault) → MayLeaveOf before (image_of g files)
    → ((image : Image) → outcomes g files.log files.db image → MayLeaveOf before image)
    → (AreClean g files.log files.db → IsCleanLeft before)
    → ((books : Books) → (stored : HoldsStore (image_of g files) books) → IsCleanLeft after
    → HasRestartCause (declared_over stored.trees) files after fault)
    → LeavesTheSame files after → FailsAgain before after fault
fails_again {g = g} before files after fault crash again was cause same = record {
  files = files;
  crash = crash;
  cause = cause;
  still = λ told old leaves. still_leaves (file_state old.conn) files after
      (λ clean. leaves (was clean) (image_of g files) crash)
      (λ clean image may. leaves (was clean) image (again image may)) same told;
}

-- the store that was opened over them has books that the crash may leave
pub restarted : {D : Type 0} {g : Ghosts D} (old new : StoreView (FileStore D g)) (files : Files D)
    → new.limits ≡ old.limits → (AreClean g files.log files.db
    → ∥ LeftStore (file_state old.conn) (image_of g files) ∥₁)
    → (HasCleanDisk (file_state new.conn) → AreClean g files.log files.db
    × IsTrue (file_state new.conn).is_open)
    → ((books : Books) → HoldsStore (image_of g files) books
    → IsOpenOnHonestDisk (file_state new.conn) → stored_books (file_state new.conn) ≡ books)
    → IsSettled (table_model over_files) new → RestartsFrom (table_model over_files) old new
restarted old new files limits left honest opens settled = record {
  limits = limits;
  finds = λ order. ∥∥₁_map (left (honest order.0).0)
      (λ it. subst (MayLeaveBooks (file_state old.conn)) (sym (opens it.books it.holds order))
      it.may_be_left);
  settled = settled;
  opened = λ books may. (may.clean, (honest may.clean).1);
}

-- if the disk has returned what was written until a connection ends, it had before
pub clean_left : {D : Type 0} {g : Ghosts D} (c : Held (FileStore D g)) (it : FileStore D g)
    → IsQuiet store.view store.faults store.recovers store.is_shielded c.store it
    → IsTrue (store.view it).is_clean → HasCleanDisk (file_state c)
clean_left c it quiet clean =
    let honest = no_doubt _ clean in
    let fewer = quiet.clean in
    omega (arith, fewer, honest)

-- it was opened after a crash of what an opening that failed left
pub opens_left : {D : Type 0} {g : Ghosts D} (before : Leftover D g) (new :
    StoreView (FileStore D g)) (files : Files D) (limits : Bounds) → new.limits ≡ limits
    → MayLeaveOf before (image_of g files)
    → (AreClean g files.log files.db → IsCleanLeft before)
    → (HasCleanDisk (file_state new.conn) → AreClean g files.log files.db
    × IsTrue (file_state new.conn).is_open)
    → ((books : Books) → HoldsStore (image_of g files) books
    → IsOpenOnHonestDisk (file_state new.conn) → stored_books (file_state new.conn) ≡ books)
    → IsSettled (table_model over_files) new → OpensLeft before limits new
opens_left {g = g} before new files limits is crash was honest opens settled old same leaves =
    restarted old new files (is ∙ sym same) (λ clean. leaves (was clean) (image_of g files) crash)
    honest opens settled

-- ---- why files that hold a store don't open

-- a connection that showed it was opened, and its rows were not read
pub unread_fault : {D : Type 0} {g : Ghosts D} (db : Database) (old new : Held (FileStore D g))
    (it : FileStore D g) (fault : OpenFault) → old.step_limit ≡ None
    → ShowsOpened (file_state old) db
    → IsQuiet store.view store.faults store.recovers store.is_shielded new.store it
    → ComesFromOutside (file_state old) (file_state new) fault
    → (fault ≡ Memory) ⊎ ((fault ≡ Store) × FailsOnceOpened db (leftover.Store it))
unread_fault db old new it fault unlimited shows quiet (inl memory) = inl memory
unread_fault db old new it fault unlimited shows quiet (inr (is, inl shut)) =
    absurd (true≢false (sym shows.opened.is_open ∙ shut))
unread_fault db old new it fault unlimited shows quiet (inr (is, inr (inl failed))) =
    inr (is, record { opened = old; shows = shows; failed = omega (arith, failed, quiet.counts) })
unread_fault db old new it fault unlimited shows quiet (inr (is, inr (inr limited))) =
    absurd (let some = rw unlimited at limited in cc)

module _ {D : Type 0} {g : Ghosts D} (db : Database) (files : Files D) where
  pub cause_kind : (left : Leftover D g) (fault : OpenFault) → HasRestartCause db files left fault
      → IsErrorFault fault
  cause_kind left fault (inl memory) = inr memory
  cause_kind left fault (inr (store, cause)) = inl store

  -- no connection was opened over them
  pub unopened_cause : (left : Leftover D g) (e : Error) (fault : OpenFault) → IsErrorFault fault
      → fault ≡ open_fault_of_error e → HasOpenCause files left e
      → HasRestartCause db files left fault
  unopened_cause left e fault kind is (inl memory) = inl (is ∙ ap open_fault_of_error memory)
  unopened_cause left e fault (inr memory) is (inr cause) = inl memory
  unopened_cause left e fault (inl other) is (inr (inl failed)) = inr (other, inl failed)
  unopened_cause left e fault (inl other) is (inr (inr full)) = inr (other, inr (inr full.1))

  -- a connection was opened, and its rows were not read
  pub unread_cause : (old new : Held (FileStore D g)) (it : FileStore D g) (fault : OpenFault)
      → old.step_limit ≡ None → ShowsOpened (file_state old) db
      → IsQuiet store.view store.faults store.recovers store.is_shielded new.store it
      → ComesFromOutside (file_state old) (file_state new) fault
      → HasRestartCause db files (leftover.Store it) fault
  unread_cause old new it fault unlimited shows quiet outside =
      elim (unread_fault db old new it fault unlimited shows quiet outside) [
        | inl memory ↦ inl memory
        | inr (is, failed) ↦ inr (is, inr (inl failed))
      ]

-- ---- what an opening leaves that read no rows

-- a connection that changed nothing, and then ended, leaves what was opened
pub unread_files : {D : Type 0} {g : Ghosts D} (files : Files D) (old new : Held (FileStore D g))
    (it : FileStore D g) → ((trees : Trees) → (file_state old).may_leave trees
    → trees ≡ (file_state old).committed.trees) → Finds files old
    → HasCleanDisk (file_state new) → Survives (file_state old) (file_state new) (λ _. ⊥)
    → IsQuiet store.view store.faults store.recovers store.is_shielded new.store it
    → LeavesFiles files (leftover.Store it)
unread_files {g = g} files old new it settled found clean survives quiet trees may =
    let before : (file_state old).may_leave trees =
    elim (survives.crash clean trees (quiet.outcomes trees may)) [
      | inl before ↦ before
      | inr none ↦ absurd none
    ] in
    let same = settled trees before in (
      subst (AreFound g files) (sym same) found.reads,
      λ db holds. same ∙ found.holds db holds,
    )
