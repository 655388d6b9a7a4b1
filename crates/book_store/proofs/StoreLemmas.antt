-- The state of a store after calls that only read.
use Rattle.std.proofs.Common.{◌≡◌, inl, inr, false, IsTrue, Result, Ok, Err, refl, sym, ap, subst}
use Rattle.std.proofs.Common.{◌∙◌, arith}
use Rattle.std.proofs.lemmas.Bool.{cases_Bool}
use Rattle.sqlite.specs.Effect.{Database}
use Rattle.sqlite.specs.Held.{state}
use Rattle.sqlite.specs.State.{State, HasCleanDisk, Survives}
use Rattle.sqlite.specs.Tree.{Trees}
use Rattle.sqlite_trees.specs.declared.store.Store.{Ghosts}
use Rattle.sync_core.specs.StoreCrashes.{IsAfterStep, LeavesNoMore, LeavesStep, UnlessFault}
use Rattle.book_model.specs.declared.denied.Denied.{Denied}
use Rattle.book_model.specs.declared.denied.Denied.TheVariants.{Refused, Fault}
use Rattle.book_model.specs.declared.refusal.Refusal.{Refusal}
use Rattle.book_model.specs.Books.{Books}
use Rattle.book_model.specs.Bounds.{Bounds, IsInRange}
use Rattle.book_model.specs.CallOutcomes.{MatchesQuery}
use Rattle.book_model.specs.WellFormed.{IsWellFormed}
use Rattle.book_laws.specs.WellFormedLaws.{AreWithin, LeavesWellFormed}
use Rattle.book_laws.proofs.WellFormedBooks.{well_none}
use Rattle.store_check.specs.OpenResults.{max_limits}
use Rattle.store_tables.specs.StatementEffects.{OnlyReads}
use Rattle.store_tables.proofs.SchemaCreationLemmas.{clean_before}
use Rattle.store_rows.specs.SoundTables.{AreWellFormed, HoldsSoundRows}
use Rattle.store_rows.specs.TableBooks.{books_of, books_in}
use Rattle.store_rows.specs.TableRows.{no_rows}
use Rattle.store_rows.proofs.HeldRows.{books_held, nothing_held, no_rows_sound}
use Rattle.store_rows.proofs.OpenLemmas.{new_tables_empty}
use Rattle.book_model.specs.Counts.{AreCountsOf, CountsByName}
use Rattle.store_lookups.specs.CallResults.{FollowsStep, GivenCounts, GivenSoundRows}
use Rattle.store_lookups.specs.ChangeFaults.{ChangeFaultsFromOutside, HaveFreeIds}
use Rattle.store_lookups.specs.StoreFaults.{FaultsFromOutside, HasOutsideCauseOfFault}
use Rattle.book_store.specs.OpenOutcomes.{IsNewStoreCommitted}
use Rattle.book_store.specs.Answering.{IsOpenUnlessFault}
use Rattle.book_store.specs.StoreViews.{ChangesStore, IsStore, MayLeaveBooks, ReadsStore, StoreView}
use Rattle.book_store.specs.StoreViews.{StoredTrees, table_model}
use Rattle.store_writes.specs.TableChanges.{AppliesStep, CommitsOnce, CommitsStep, HoldBooksAfter}
use Rattle.store_writes.specs.TableChanges.{TreesHold}
use Rattle.store_lookups.specs.StoredBooks.{HoldCounts, IsOpenOnHonestDisk, IsCommittedAndSound}
use Rattle.store_lookups.specs.StoredBooks.{stored_books}
use Rattle.store_writes.proofs.CallLemmas.{read_before}
use Rattle.store_writes.proofs.HeldLemmas.{trees_held}
use Rattle.book_store.proofs.ChangeableLemmas.{changeable_rows}
use Rattle.book_store.proofs.CountLemmas.{matched}
use Rattle.book_store.proofs.FaultlessLemmas.{faultless_rows}

-- the answer of a call that changed nothing
pub reads_of : {T A S : Type 0} (allows : T → A → Type 0) (r : Result A Denied) (due :
    Result T Refusal) (old new : S) → FollowsStep allows r due → new ≡ old
    → MatchesQuery allows r due old new
reads_of allows (Ok answer) (Ok asked) old new returned same = (returned, same)
reads_of allows (Ok answer) (Err refusal) old new returned same = returned
reads_of allows (Err (Refused refusal)) (Ok asked) old new returned same = returned
reads_of allows (Err (Refused refusal)) (Err wanted) old new returned same = (returned, same)
reads_of allows (Err (Fault fault)) due old new returned same = same

-- a read keeps the invariant of the store
pub still_store : (old new : State) (limits : Bounds) → IsStore old limits → OnlyReads old new
    → IsStore new limits
still_store old new limits store left = record {
  settled = left.mode store.settled;
  stays_sound = λ order.
      let was = store.stays_sound (read_before old new left order) in
      let here = left.same order.0 was.sound.holds.schema order.1 (λ _. was.committed) in
      record {
        committed = here.now_is ∙ was.committed ∙ sym here.committed_is;
        sound = subst HoldsSoundRows (sym here.now_is) was.sound;
      };
  stays_well_formed = λ order.
      let before = read_before old new left order in
      let was = store.stays_sound before in
      let here = left.same order.0 was.sound.holds.schema order.1 (λ _. was.committed) in
      subst (λ (d : Database). IsWellFormed max_limits (books_in d.trees)) (sym here.now_is)
      (store.stays_well_formed before);
  leaves_stores = λ clean trees may. elim (left.survives.crash clean trees may) [
    | inl before ↦ store.leaves_stores (clean_before _ old new left.survives clean) trees before
    | inr none ↦ absurd none
  ];
  range = store.range;
}

-- ---- what a crash may leave of the books

-- all that a crash may leave of an open connection is what is committed
abbrev pub LeavesCommitted : State → Type 0
LeavesCommitted s = (trees : Trees) → IsTrue s.is_open → s.may_leave trees
    → trees ≡ s.committed.trees

pub settled_books : (s : State) → LeavesCommitted s → (IsOpenOnHonestDisk s → IsCommittedAndSound s)
    → IsOpenOnHonestDisk s → (books : Books) → MayLeaveBooks s books → books ≡ stored_books s
settled_books s alone sound order books left =
    sym left.holds.books_are ∙ ap books_in (alone left.trees order.1 left.may_be_left)
    ∙ ap (λ (d : Database). books_in d.trees) (sym (sound order).committed)

left_before : (old new : State) (P : Trees → Type 0) (books : Books) → Survives old new P
    → (left : MayLeaveBooks new books) → old.may_leave left.trees → MayLeaveBooks old books
left_before old new P books survives left may =
    record {
      clean = clean_before P old new survives left.clean;
      trees = left.trees;
      may_be_left = may;
      holds = left.holds;
    }

unless_fault : {A : Type 0} (r : Result A Denied) (P Q : Type 0) → (P → Q) → UnlessFault r P
    → UnlessFault r Q
unless_fault (Ok x) P Q f h = f h
unless_fault (Err (Refused refusal)) P Q f h = f h
unless_fault (Err (Fault fault)) P Q f h = tt

-- the books of the trees that the one commit left
made_books : {A : Type 0} (due : Result (A × Books) Refusal) (trees : Trees) (books : Books)
    → HoldBooksAfter due trees → TreesHold books trees → IsAfterStep due books
made_books (Ok done) trees books made holds = sym holds.books_are ∙ made.books_are
made_books (Err refusal) trees books made holds = absurd made

module _ {S A : Type 0} (g : Ghosts S) (old new : StoreView S) (r : Result A Denied) (alone :
    LeavesCommitted (state g new.conn)) (sound : IsOpenOnHonestDisk (state g new.conn)
    → IsCommittedAndSound (state g new.conn))
    (opened : IsOpenUnlessFault (state g new.conn) r) where
  answered_open : (books : Books) → MayLeaveBooks (state g new.conn) books
      → UnlessFault r (IsOpenOnHonestDisk (state g new.conn))
  answered_open books left = unless_fault r _ _ (λ up. (left.clean, up)) (opened left.clean)

  pub leaves_no_more : OnlyReads (state g old.conn) (state g new.conn)
      → LeavesNoMore (table_model g) old new r
  leaves_no_more reads = record {
    only = λ books left. elim (reads.survives.crash left.clean left.trees left.may_be_left) [
      | inl before ↦ inl (left_before (state g old.conn) (state g new.conn) _ books reads.survives
          left before)
      | inr none ↦ absurd none
    ];
    settled = settled_books (state g new.conn) alone sound;
    answered = answered_open;
  }

  pub leaves_step : (step : Bounds → Books → Result (A × Books) Refusal)
      → Survives (state g old.conn) (state g new.conn) (CommitsStep (state g old.conn)
      (step old.limits)) → LeavesStep (table_model g) old new r step
  leaves_step step survives = record {
    only = λ books left. elim (survives.crash left.clean left.trees left.may_be_left) [
      | inl before ↦ inl (left_before (state g old.conn) (state g new.conn) _ books survives left
          before)
      | inr done ↦ inr (
        done.0,
        made_books (step old.limits (stored_books (state g old.conn)))
            left.trees books done.1 left.holds,
      )
    ];
    settled = settled_books (state g new.conn) alone sound;
    answered = answered_open;
  }

-- ---- the cause of a fault

outside_if_shut : {A : Type 0} (old new : State) (r : Result A Denied) → old.is_open ≡ false
    → HasOutsideCauseOfFault old new r
outside_if_shut old new (Ok x) shut = tt
outside_if_shut old new (Err denied) shut = λ is. inl shut

-- the rows of a store that is open on an honest disk are those of well-formed books
well_rows : (s : State) (limits : Bounds) (store : IsStore s limits) (order : IsOpenOnHonestDisk s)
    → AreWellFormed max_limits (store.stays_sound order).sound.rows
well_rows s limits store order =
    let was = (store.stays_sound order).sound in
    record {
      sound = was.sound;
      books = subst (IsWellFormed max_limits)
          (books_held s.now was.rows was.holds was.sound) (store.stays_well_formed order);
    }

pub reads_outside : {A : Type 0} (old new : State) (limits : Bounds) (r : Result A Denied) (P :
    Trees → Type 0) → IsStore old limits → Survives old new P → FaultsFromOutside old new r
    → HasCleanDisk new → HasOutsideCauseOfFault old new r
reads_outside old new limits r P store survives causes clean = elim (cases_Bool old.is_open) [
  | inl up ↦
      let order : IsOpenOnHonestDisk old = (clean_before P old new survives clean, up) in
      let was = (store.stays_sound order).sound in
      causes was.rows clean was.holds (faultless_rows max_limits was.rows (omega arith)
      (omega arith) (omega arith) (well_rows old limits store order))
  | inr shut ↦ outside_if_shut old new r shut
]

pub changes_outside : {A : Type 0} (old new : State) (limits : Bounds) (r : Result A Denied) (P :
    Trees → Type 0) → IsStore old limits → Survives old new P → ChangeFaultsFromOutside old new r
    → HasCleanDisk new → HaveFreeIds old.now.trees → HasOutsideCauseOfFault old new r
changes_outside old new limits r P store survives causes clean ids = elim (cases_Bool old.is_open) [
  | inl up ↦
      let order : IsOpenOnHonestDisk old = (clean_before P old new survives clean, up) in
      let was = (store.stays_sound order).sound in
      causes was.rows clean was.holds (changeable_rows max_limits was.rows (omega arith)
      (omega arith) (omega arith) (well_rows old limits store order)) ids
  | inr shut ↦ outside_if_shut old new r shut
]

-- ---- the contracts of calls

-- a call that reads the tables of a store returns what its books contain
pub reads_store : {T A : Type 0} (allows : T → A → Type 0) (r : Result A Denied) (step : Books
    → Result T Refusal) (old new : State) (limits : Bounds)
    → IsStore old limits → OnlyReads old new
    → GivenSoundRows old new (λ rows. FollowsStep allows r (step (books_of rows)))
    → IsOpenOnHonestDisk new
    → MatchesQuery allows r (step (stored_books old)) (stored_books old) (stored_books new)
reads_store allows r step old new limits store left returned order =
    let was = store.stays_sound (read_before old new left order) in
    let here = left.same order.0 was.sound.holds.schema order.1 (λ _. was.committed) in
    let books : stored_books old ≡ books_of was.sound.rows =
    books_held old.now was.sound.rows was.sound.holds was.sound.sound in
    reads_of allows r (step (stored_books old)) (stored_books old) (stored_books new)
    (subst (λ (b : Books). FollowsStep allows r (step b)) (sym books)
    (returned was.sound.rows order.0 was.sound.holds was.sound.sound))
    (ap (λ (d : Database). books_in d.trees) here.now_is)

pub only_reads_store : {S T A : Type 0} (g : Ghosts S) (allows : T → A → Type 0) (old new :
    StoreView S) (r : Result A Denied) (query : Bounds → Books → Result T Refusal)
    → IsStore (state g old.conn) old.limits → LeavesCommitted (state g new.conn)
    → new.limits ≡ old.limits
    → OnlyReads (state g old.conn) (state g new.conn)
    → GivenSoundRows (state g old.conn) (state g new.conn) (λ rows. FollowsStep allows r
    (query old.limits (books_of rows))) → IsOpenUnlessFault (state g new.conn) r
    → (HasCleanDisk (state g new.conn)
    → HasOutsideCauseOfFault (state g old.conn) (state g new.conn) r)
    → ReadsStore g allows old new r query
only_reads_store g allows old new r query store alone same left returned opened causes = record {
  keeps_terms = record {
    premise = read_before (state g old.conn) (state g new.conn) left;
    limits = same;
    range = subst IsInRange (sym same) store.range;
  };
  matches_query = reads_store allows r (query old.limits) (state g old.conn) (state g new.conn)
      old.limits store left returned;
  leaves_no_more = leaves_no_more g old new r alone (still_store (state g old.conn)
      (state g new.conn) old.limits store left).stays_sound opened left;
  only_reads = left;
  store_fault = causes;
}

-- the same for a call whose answer depends on the numbers that the store keeps
pub counted_reads_store : {S T A : Type 0} (g : Ghosts S) (allows : T → A → Type 0) (old new :
    StoreView S) (counts : CountsByName) (r : Result A Denied) (query : Bounds → Books
    → Result T Refusal) → IsStore (state g old.conn) old.limits
    → HoldCounts (state g old.conn) counts → LeavesCommitted (state g new.conn)
    → new.limits ≡ old.limits
    → OnlyReads (state g old.conn) (state g new.conn)
    → GivenCounts (state g old.conn) (state g new.conn) counts (λ rows. FollowsStep allows r
    (query old.limits (books_of rows))) → IsOpenUnlessFault (state g new.conn) r
    → (HasCleanDisk (state g new.conn)
    → HasOutsideCauseOfFault (state g old.conn) (state g new.conn) r)
    → ReadsStore g allows old new r query
counted_reads_store g allows old new counts r query store right alone same left returned opened
    causes =
    let before = state g old.conn in
    let after = state g new.conn in
    record {
      keeps_terms = record {
        premise = read_before before after left;
        limits = same;
        range = subst IsInRange (sym same) store.range;
      };
      matches_query = λ order.
          let was = store.stays_sound (read_before before after left order) in
          let here = left.same order.0 was.sound.holds.schema order.1 (λ _. was.committed) in
          let held : stored_books before ≡ books_of was.sound.rows =
          books_held before.now was.sound.rows was.sound.holds was.sound.sound in
          reads_of allows r (query old.limits (stored_books before)) (stored_books before)
          (stored_books after)
          (subst (λ (b : Books). FollowsStep allows r (query old.limits b)) (sym held)
          (returned was.sound.rows order.0 was.sound.holds was.sound.sound
          (subst (AreCountsOf counts) held (right (read_before before after left order) was))))
          (ap (λ (d : Database). books_in d.trees) here.now_is);
      leaves_no_more = leaves_no_more g old new r alone (still_store before after old.limits store
          left).stays_sound opened left;
      only_reads = left;
      store_fault = causes;
    }

-- ---- created tables

pub new_store_is_sound : (s : State) → IsNewStoreCommitted s → IsCommittedAndSound s
new_store_is_sound s h = record {
  committed = h.committed;
  sound = record {
    rows = no_rows;
    holds = new_tables_empty s.now h.created;
    sound = no_rows_sound;
  };
}

pub new_store_is_formed : (s : State) → IsNewStoreCommitted s
    → IsWellFormed max_limits (stored_books s)
new_store_is_formed s h = subst (IsWellFormed max_limits)
    (sym (nothing_held s.now (new_tables_empty s.now h.created)).books) (well_none max_limits)

pub new_store_leaves : (s : State) → LeavesCommitted s → IsNewStoreCommitted s → (trees : Trees)
    → s.may_leave trees → StoredTrees trees
new_store_leaves s alone h trees may = record {
  books = stored_books s;
  holds = subst (TreesHold (stored_books s)) (ap (λ (d : Database). d.trees) h.committed
      ∙ sym (alone trees h.is_open may)) (trees_held s.now (stored_books s)
      (record { sound = (new_store_is_sound s h).sound; books_are = refl }));
  well_formed = new_store_is_formed s h;
}

-- a call that changed the tables of a store
pub changes_store : {S A : Type 0} (g : Ghosts S) (old new : StoreView S) (r : Result A Denied)
    (step : Bounds → Books → Result (A × Books) Refusal) → IsStore (state g old.conn) old.limits
    → LeavesCommitted (state g new.conn) → new.limits ≡ old.limits
    → AppliesStep (state g old.conn) (state g new.conn) r (step old.limits)
    → CommitsOnce (state g old.conn) (state g new.conn) (step old.limits)
    → IsOpenUnlessFault (state g new.conn) r → (HasCleanDisk (state g new.conn)
    → HaveFreeIds (state g old.conn).now.trees
    → HasOutsideCauseOfFault (state g old.conn) (state g new.conn) r)
    → ChangesStore g old new r step
changes_store g old new r step store alone same changed commits opened causes = record {
  keeps_terms = record {
    premise = changed.was_open_on_honest_disk;
    limits = same;
    range = subst IsInRange (sym same) store.range;
  };
  matches_step = λ order. changed.matches_step order
      (store.stays_sound (changed.was_open_on_honest_disk order));
  leaves_step = leaves_step g old new r alone (λ order. changed.stays_sound order
      (store.stays_sound (changed.was_open_on_honest_disk order))) opened step
      (commits store.stays_sound);
  crash = commits store.stays_sound;
  store_fault = causes;
}

pub max_in_range : IsInRange max_limits
max_in_range = record {
  page_least = omega arith;
  page_most = omega arith;
  cards_least = omega arith;
  cards_most = omega arith;
  changes_least = omega arith;
  changes_most = omega arith;
  books_least = omega arith;
  books_most = omega arith;
  keep_least = omega arith;
  keep_most = omega arith;
}

-- limits in range are within those that an opening tests
pub within_max : (limits : Bounds) → IsInRange limits → AreWithin limits max_limits
within_max limits range = record { changes = range.changes_most; books = range.books_most }

-- the books after the whole step are those of a store
stored_after : {A : Type 0} (due : Result (A × Books) Refusal) (trees : Trees)
    → LeavesWellFormed max_limits due → HoldBooksAfter due trees → StoredTrees trees
stored_after (Ok done) trees well holds = record {
  books = done.1;
  holds = holds;
  well_formed = well;
}
stored_after (Err refusal) trees well holds = absurd holds

-- a change keeps the invariant of the store
pub changed_store : {A : Type 0} (old new : State) (limits : Bounds) (r : Result A Denied) (step :
    Books → Result (A × Books) Refusal) → IsStore old limits
    → (AreWithin limits max_limits → (books : Books) → IsWellFormed max_limits books
    → LeavesWellFormed max_limits (step books)) → AppliesStep old new r step
    → CommitsOnce old new step → IsStore new limits
changed_store old new limits r step store leaves changed commits = record {
  settled = changed.settled;
  stays_sound = λ order. changed.stays_sound order
      (store.stays_sound (changed.was_open_on_honest_disk order));
  stays_well_formed = λ order.
      let before = changed.was_open_on_honest_disk order in
      let was = store.stays_well_formed before in
      matched (IsWellFormed max_limits) r (step (stored_books old)) (stored_books old)
      (stored_books new) (leaves (within_max limits store.range) (stored_books old) was) was
      (changed.matches_step order (store.stays_sound before));
  leaves_stores = λ clean trees may.
      let survives = commits store.stays_sound in
      elim (survives.crash clean trees may) [
        | inl before ↦ store.leaves_stores (clean_before _ old new survives clean) trees before
        | inr done ↦ stored_after (step (stored_books old)) trees
            (leaves (within_max limits store.range) (stored_books old)
            (store.stays_well_formed done.0)) done.1
      ];
  range = store.range;
}
