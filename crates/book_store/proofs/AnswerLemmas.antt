-- A call of a store whose connection is tested afterwards: the state before the call (`old`), after
-- it (`mid`), and after the test (`new`), with the answers `r` of the call and `s` of both.
use Rattle.std.proofs.Common.{◌≡◌, inl, inr, IsTrue, IfErr, IfOk, OnOk, Result, Ok, Err, sym, ap}
use Rattle.std.proofs.Common.{subst, ◌∙◌}
use Rattle.sqlite.specs.Effect.{Database}
use Rattle.sqlite.specs.Held.{state}
use Rattle.sqlite.specs.State.{State, HasCleanDisk, Survives}
use Rattle.sqlite.specs.Tree.{Trees}
use Rattle.sqlite.proofs.StateLemmas.{survives_then}
use Rattle.sqlite_trees.specs.declared.store.Store.{Ghosts}
use Rattle.sync_core.specs.StoreCrashes.{UnlessFault}
use Rattle.book_model.specs.declared.denied.Denied.{Denied}
use Rattle.book_model.specs.declared.denied.Denied.TheVariants.{Refused, Fault}
use Rattle.book_model.specs.declared.refusal.Refusal.{Refusal}
use Rattle.book_model.specs.Books.{Books}
use Rattle.book_model.specs.Bounds.{Bounds}
use Rattle.book_model.specs.CallOutcomes.{MatchesStep}
use Rattle.book_model.specs.Counts.{CountsByName}
use Rattle.book_laws.specs.WellFormedLaws.{AreWithin, LeavesWellFormed}
use Rattle.book_model.specs.WellFormed.{IsWellFormed}
use Rattle.store_check.specs.OpenResults.{max_limits}
use Rattle.store_tables.specs.Failures.{HasOutsideCause}
use Rattle.store_tables.specs.StatementEffects.{OnlyReads}
use Rattle.store_tables.proofs.FailureLemmas.{outside_later}
use Rattle.store_tables.proofs.SchemaCreationLemmas.{clean_before}
use Rattle.store_rows.specs.TableBooks.{books_in, books_of}
use Rattle.store_lookups.specs.CallResults.{FollowsStep, GivenCounts, GivenSoundRows}
use Rattle.store_lookups.specs.ChangeFaults.{ChangeFaultsFromOutside}
use Rattle.store_lookups.specs.StoreFaults.{FaultsFromOutside, HasOutsideCauseOfFault}
use Rattle.store_lookups.specs.StoredBooks.{HoldCounts}
use Rattle.store_lookups.specs.StoredBooks.{KeepsCounts, stored_books}
use Rattle.store_writes.specs.TableChanges.{AppliesStep, CommitsOnce, CommitsStep}
use Rattle.store_writes.proofs.CallLemmas.{fault_does, read_before, read_keeps_sound}
use Rattle.store_writes.proofs.TransactionFaults.{outside_sooner}
use Rattle.book_store.specs.Answering.{IsOpenUnlessFault, StandsOrFaults}
use Rattle.book_store.specs.StoreViews.{ChangesStore, IsStore, ReadsStore, StoreView}
use Rattle.book_store.proofs.CountLemmas.{kept_counts, still_counts}
use Rattle.book_store.proofs.StoreLemmas.{LeavesCommitted, changed_store, changes_outside}
use Rattle.book_store.proofs.StoreLemmas.{changes_store, counted_reads_store, only_reads_store}
use Rattle.book_store.proofs.StoreLemmas.{reads_outside, still_store}

-- ---- two reads

-- a read and the test are one read
pub both_read : (a b c : State) → OnlyReads a b → OnlyReads b c → OnlyReads a c
both_read a b c before after = record {
  mode = λ h. after.mode (before.mode h);
  was_open = λ clean up. before.was_open (clean_before _ b c after.survives clean)
      (after.was_open clean up);
  survives = survives_then a b c _ _ _ (λ _ db none. none) (λ _ db none. none) before.survives
      after.survives;
  same = λ clean has up settled.
      let kept = before.same (clean_before _ b c after.survives clean) has (after.was_open clean up)
      settled in
      let later = after.same clean (ap (λ (d : Database). d.schema) kept.now_is
      ∙ has) up (λ _. kept.now_is ∙ settled kept.was_open ∙ sym kept.committed_is) in
      record {
        was_open = kept.was_open;
        now_is = later.now_is ∙ kept.now_is;
        committed_is = later.committed_is ∙ kept.committed_is;
      };
}

-- ---- the cause of a fault

outside_if : {A : Type 0} (a b c d : State) (r : Result A Denied)
    → (HasOutsideCause a b → HasOutsideCause c d) → HasOutsideCauseOfFault a b r
    → HasOutsideCauseOfFault c d r
outside_if a b c d (Ok x) f h = tt
outside_if a b c d (Err denied) f h = λ is. f (h is)

pub tested_cause : {A : Type 0} (old mid new : State) (limits : Bounds) (r s : Result A Denied) (P :
    Trees → Type 0) → IsStore mid limits → Survives old mid P → OnlyReads mid new
    → StandsOrFaults mid new r s
    → (HasCleanDisk mid → HasOutsideCauseOfFault old mid r) → HasCleanDisk new
    → HasOutsideCauseOfFault old new s
tested_cause old mid new limits r s P stored before after stands causes clean =
    let early = clean_before _ mid new after.survives clean in
    elim stands [
      | inl same ↦ subst (HasOutsideCauseOfFault old new) (sym same) (outside_if old mid old new r
          (outside_sooner old mid new _ after.survives) (causes early))
      | inr fault ↦ outside_if mid new old new s (outside_later old mid new _ _ before early
          after.survives) (reads_outside mid new limits s _ stored after.survives fault.from_outside
          clean)
    ]

-- ---- a call that reads

-- the answer still follows the step
pub tested_follows : {T A : Type 0} (allows : T → A → Type 0) (a b : State) (r s : Result A Denied)
    (due : Result T Refusal) → StandsOrFaults a b r s → FollowsStep allows r due
    → FollowsStep allows s due
tested_follows allows a b r s due (inl same) follows =
    subst (λ t. FollowsStep allows t due) (sym same) follows
tested_follows allows a b r s due (inr fault) follows =
    subst (λ t. FollowsStep allows t due) (sym (fault.result_is ∙ ap Err fault.is_fault.1))
    (faults due)
  where
    faults : (due : Result _ Refusal) → FollowsStep allows (Err (Fault fault.is_fault.0)) due
    faults (Ok asked) = tt
    faults (Err refusal) = tt

module _ {S T A : Type 0} (g : Ghosts S) (allows : T → A → Type 0) (old mid new : StoreView S)
    (r s : Result A Denied) (query : Bounds → Books → Result T Refusal) (store :
    IsStore (state g old.conn) old.limits)
    (alone : LeavesCommitted (state g new.conn)) (limits : new.limits ≡ old.limits) (reads :
    OnlyReads (state g old.conn) (state g mid.conn)) (causes :
    FaultsFromOutside (state g old.conn) (state g mid.conn) r)
    (after : OnlyReads (state g mid.conn) (state g new.conn)) (stands :
    StandsOrFaults (state g mid.conn) (state g new.conn) r s) (opened :
    IsOpenUnlessFault (state g new.conn) s) where
  left : OnlyReads (state g old.conn) (state g new.conn)
  left = both_read (state g old.conn) (state g mid.conn) (state g new.conn) reads after

  cause : HasCleanDisk (state g new.conn)
      → HasOutsideCauseOfFault (state g old.conn) (state g new.conn) s
  cause =
      tested_cause (state g old.conn) (state g mid.conn) (state g new.conn) old.limits r s _
      (still_store (state g old.conn) (state g mid.conn) old.limits store reads) reads.survives
      after stands
      (reads_outside (state g old.conn) (state g mid.conn) old.limits r _ store reads.survives
      causes)

  pub tested_reads_store : GivenSoundRows (state g old.conn) (state g mid.conn)
      (λ rows. FollowsStep allows r (query old.limits (books_of rows)))
      → ReadsStore g allows old new s query
  tested_reads_store returned =
      only_reads_store g allows old new s query store alone limits left
      (λ rows clean holds sound. tested_follows allows (state g mid.conn) (state g new.conn) r s
      (query old.limits (books_of rows)) stands
      (returned rows (clean_before _ (state g mid.conn) (state g new.conn) after.survives clean)
      holds sound)) opened cause

  -- the same for a call whose answer depends on the numbers that the store keeps
  pub tested_counted_reads : (counts : CountsByName) → HoldCounts (state g old.conn) counts
      → GivenCounts (state g old.conn) (state g mid.conn) counts (λ rows. FollowsStep allows r
      (query old.limits (books_of rows))) → ReadsStore g allows old new s query
  tested_counted_reads counts right returned =
      counted_reads_store g allows old new counts s query store right alone limits left
      (λ rows clean holds sound are. tested_follows allows (state g mid.conn) (state g new.conn) r s
      (query old.limits (books_of rows)) stands
      (returned rows (clean_before _ (state g mid.conn) (state g new.conn) after.survives clean)
      holds sound are)) opened cause

-- ---- a call that changes books

-- a call that is denied changes nothing
denied_keeps : {A : Type 0} (due : Result (A × Books) Refusal) (denied : Denied) (old new : Books)
    → MatchesStep (Err denied) due old new → new ≡ old
denied_keeps (Ok done) (Refused refusal) old new m = absurd m
denied_keeps (Err wanted) (Refused refusal) old new m = m.1
denied_keeps (Ok done) (Fault fault) old new m = m
denied_keeps (Err wanted) (Fault fault) old new m = m

-- a success stays as it is, and so does its connection
abbrev pub StaysDone : {A : Type 0} → State → State → Result A Denied → Result A Denied → Type 0
StaysDone mid new r s = IfOk r (λ _. (s ≡ r) × (IsTrue mid.is_open → IsTrue new.is_open))

tested_matches : {A : Type 0} (a b : State) (r s : Result A Denied) (due :
    Result (A × Books) Refusal) (old mid new : Books) → StaysDone a b r s → StandsOrFaults a b r s
    → new ≡ mid → MatchesStep r due old mid → MatchesStep s due old new
tested_matches a b r s due old mid new done (inl is) same m =
    subst (λ t. MatchesStep t due old new) (sym is) (subst (λ (x : Books). MatchesStep r due old x)
    (sym same) m)
tested_matches a b (Ok x) s due old mid new done (inr fault) same m =
    absurd (let x = sym done.0 ∙ fault.result_is in cc)
tested_matches a b (Err e) s due old mid new done (inr fault) same m =
    subst (λ t. MatchesStep t due old new) (sym fault.result_is) (fault_does due fault.denied old
    new fault.is_fault (same ∙ denied_keeps due e old mid m))

tested_open : {A : Type 0} (a b : State) (r s : Result A Denied) → StaysDone a b r s
    → StandsOrFaults a b r s → OnOk r (IsTrue a.is_open) → OnOk s (IsTrue b.is_open)
tested_open a b (Ok x) s done stands up =
    subst (λ t. OnOk t (IsTrue b.is_open)) (sym done.0) (done.1 up)
tested_open a b (Err e) s done (inl is) up = subst (λ t. OnOk t (IsTrue b.is_open)) (sym is) tt
tested_open a b (Err e) s done (inr fault) up =
    subst (λ t. OnOk t (IsTrue b.is_open)) (sym fault.result_is) tt

tested_unless : {A : Type 0} (a b : State) (r s : Result A Denied) (P : Type 0) → StaysDone a b r s
    → OnOk r P → IfErr r (λ _. UnlessFault s P) → UnlessFault s P
tested_unless a b (Ok x) s P done up shut = subst (λ t. UnlessFault t P) (sym done.0) up
tested_unless a b (Err e) s P done up shut = shut

err_given : {A : Type 0} (r : Result A Denied) (P Q : Type 0) → (P → Q) → IfErr r (λ _. P)
    → IfErr r (λ _. Q)
err_given (Ok x) P Q f h = tt
err_given (Err e) P Q f h = f h

done_open : {A : Type 0} (a b : State) (r s : Result A Denied) → StaysDone a b r s
    → OnOk r (IsTrue a.is_open) → OnOk r (IsTrue b.is_open)
done_open a b (Ok x) s done up = done.1 up
done_open a b (Err e) s done up = tt

module _ {S A : Type 0} (g : Ghosts S) (old mid new : StoreView S) (before after : CountsByName)
    (r s : Result A Denied) (step : Bounds → Books → Result (A × Books) Refusal) (store :
    IsStore (state g old.conn) old.limits)
    (right : HoldCounts (state g old.conn) before) (alone : LeavesCommitted (state g new.conn))
    (limits : new.limits ≡ old.limits)
    (keeps : AreWithin old.limits max_limits → (books : Books) → IsWellFormed max_limits books
    → LeavesWellFormed max_limits (step old.limits books))
    (changed : AppliesStep (state g old.conn) (state g mid.conn) r (step old.limits)) (commits :
    CommitsOnce (state g old.conn) (state g mid.conn) (step old.limits))
    (counts : KeepsCounts (state g old.conn) (state g mid.conn) before after)
    (left : OnlyReads (state g mid.conn) (state g new.conn)) (stands :
    StandsOrFaults (state g mid.conn) (state g new.conn) r s) (done : IfOk r (λ _. (s ≡ r)
    × (new.conn ≡ mid.conn)))
    (opened : IfErr r (λ _. IsOpenUnlessFault (state g new.conn) s)) where
  abbrev a : State
  a = state g old.conn

  abbrev b : State
  b = state g mid.conn

  abbrev c : State
  c = state g new.conn

  stays : StaysDone b c r s
  stays = by r done
    where
      by : (t : Result A Denied) → IfOk t (λ _. (s ≡ r) × (new.conn ≡ mid.conn))
          → IfOk t (λ _. (s ≡ r) × (IsTrue b.is_open → IsTrue c.is_open))
      by (Ok x) h = (h.0, λ up. subst (λ k. IsTrue (state g k).is_open) (sym h.1) up)
      by (Err e) h = tt

  -- the store after the call
  stored : IsStore b old.limits
  stored = changed_store a b old.limits r (step old.limits) store keeps changed commits

  was_open : HasCleanDisk c → OnOk r (IsTrue b.is_open)
  was_open clean = changed.stays_open (clean_before _ b c left.survives clean) store.stays_sound

  pub tested_changes : AppliesStep a c s (step old.limits)
  tested_changes = record {
    settled = left.mode changed.settled;
    was_open_on_honest_disk = λ order. changed.was_open_on_honest_disk (read_before b c left order);
    stays_sound = λ order was. (read_keeps_sound b c left order
        (changed.stays_sound (read_before b c left order) was)).1;
    matches_step = λ order was.
        let early = read_before b c left order in
        let kept = (read_keeps_sound b c left order (changed.stays_sound early was)).0 in
        tested_matches b c r s (step old.limits (stored_books a)) (stored_books a) (stored_books b)
        (stored_books c) stays stands (ap (λ (d : Database). books_in d.trees) kept)
        (changed.matches_step early was);
    stays_open = λ clean was. tested_open b c r s stays stands
        (changed.stays_open (clean_before _ b c left.survives clean) was);
  }

  pub tested_commits : CommitsOnce a c (step old.limits)
  tested_commits was = survives_then a b c _ _ (CommitsStep a (step old.limits)) (λ _ db made. made)
      (λ _ db none. absurd none) (commits was) left.survives

  pub open_unless_fault : IsOpenUnlessFault c s
  open_unless_fault clean =
      tested_unless b c r s (IsTrue c.is_open) stays (done_open b c r s stays (was_open clean))
      (err_given r (IsOpenUnlessFault c s) (UnlessFault s (IsTrue c.is_open)) (λ h. h clean) opened)

  pub tested_changes_store : ChangeFaultsFromOutside a b r → ChangesStore g old new s step
  tested_changes_store causes =
      changes_store g old new s step store alone limits tested_changes tested_commits
      open_unless_fault
      (λ clean ids. tested_cause a b c old.limits r s _ stored (commits store.stays_sound) left
      stands (λ early. changes_outside a b old.limits r _ store (commits store.stays_sound)
      causes early ids) clean)

  pub still_stored : IsStore c old.limits × HoldCounts c after
  still_stored = (
    still_store b c old.limits stored left,
    still_counts b c old.limits after stored left (kept_counts a b old.limits before after r
        (step old.limits) store changed right counts),
  )
