-- The numbers of tombstones after a call that changes books.
use Rattle.std.proofs.Common.{ap, ◌∙◌, ◌≡◌, inl, inr, IsTrue, ℕ, Bool, true, false, not, List, None}
use Rattle.std.proofs.Common.{nat_lt, Result, Ok, Err, refl, sym, subst}
use Rattle.std.specs.Result.{IfOk}
use Rattle.std.specs.FinMap as finite
use Rattle.std.proofs.lemmas.Bool.{not-true}
use Rattle.book_model.specs.declared.denied.Denied.{Denied}
use Rattle.book_model.specs.declared.denied.Denied.TheVariants.{Refused, Fault}
use Rattle.book_model.specs.declared.refusal.Refusal.{Refusal}
use Rattle.book_model.specs.declared.refusal.Refusal.TheVariants.{BadBookName, BookExists}
use Rattle.book_model.specs.declared.refusal.Refusal.TheVariants.{TooManyBooks}
use Rattle.book_model.specs.Bounds.{Bounds}
use Rattle.book_model.specs.BookNames.{is_legal_name}
use Rattle.book_model.specs.Books.{Books, fresh_book}
use Rattle.book_model.specs.CallOutcomes.{◌>>=◌, MatchesStep, refuse_unless}
use Rattle.book_model.specs.Creating.{create_step, new_id}
use Rattle.book_model.specs.WellFormed.{IsWellFormed}
use Rattle.book_model.proofs.BasicLemmas.{is_some-false}
use Rattle.sqlite.specs.Effect.{Database}
use Rattle.sqlite.specs.State.{State, HasCleanDisk}
use Rattle.sqlite.specs.Tree.{Trees}
use Rattle.store_tables.specs.StatementEffects.{HasNoPendingWrites, OnlyReads}
use Rattle.store_schema.specs.StoredSchema.{ChangesNothing}
use Rattle.store_rows.specs.SoundTables.{HoldsSoundRows, HoldsWellFormed}
use Rattle.store_rows.specs.TableBooks.{books_in, books_of}
use Rattle.store_rows.proofs.HeldRows.{books_held}
use Rattle.store_lookups.specs.CallResults.{GivenCounts}
use Rattle.store_lookups.specs.StoredBooks.{HoldCounts, IsCommittedAndSound, IsOpenOnHonestDisk}
use Rattle.store_lookups.specs.StoredBooks.{KeepsCounts, stored_books}
use Rattle.store_writes.specs.TableChanges.{AppliesStep, TreesHold}
use Rattle.store_writes.proofs.CallLemmas.{read_before}
use Rattle.store_writes.proofs.HeldLemmas.{trees_held}
use Rattle.book_store.specs.StoreViews.{IsStore}
use Rattle.book_model.specs.Counts.{AreCountsOf, CountsByName}
use Rattle.book_model.proofs.EntryLemmas.{right_created}

-- ---- what holds of the books after a step

-- of the books before it, and of those of its success
pub matched : {A : Type 0} (Q : Books → Type 0) (r : Result A Denied) (step :
    Result (A × Books) Refusal) (old new : Books) → IfOk step (λ done. Q done.1) → Q old
    → MatchesStep r step old new → Q new
matched Q (Ok answer) (Ok done) old new after before m = subst Q (sym m.1) after
matched Q (Ok answer) (Err refusal) old new after before m = absurd m
matched Q (Err (Refused refusal)) (Ok done) old new after before m = absurd m
matched Q (Err (Refused refusal)) (Err wanted) old new after before m = subst Q (sym m.1) before
matched Q (Err (Fault fault)) step old new after before m = subst Q (sym m) before

module _ {B : Type 0} (P : B → Type 0) where
  tested : (test : Bool) (refusal : Refusal) (rest : Result B Refusal) → (test ≡ true → IfOk rest P)
      → IfOk (refuse_unless test refusal >>= λ _. rest) P
  tested true refusal rest h = h refl
  tested false refusal rest h = tt

  followed : {A : Type 0} (given : Result A Refusal) (rest : A → Result B Refusal) (Q : A → Type 0)
      → IfOk given Q → ((x : A) → Q x → IfOk (rest x) P) → IfOk (given >>= rest) P
  followed (Ok x) rest Q known h = h x known
  followed (Err refusal) rest Q known h = tt

-- ---- a book is created

free_name : (limits : Bounds) (books : Books) (name : List ℕ)
    → IfOk (new_id limits name (finite.contains_key books name) (finite.len books))
    (λ _. finite.get books name ≡ None)
free_name limits books name =
    let P : ℕ → Type 0 = λ _. finite.get books name ≡ None in
    tested P (is_legal_name name) BadBookName _ (λ legal.
    tested P (not (finite.contains_key books name)) BookExists _ (λ free.
    tested P (nat_lt (finite.len books) limits.books_max) TooManyBooks _ (λ room.
    is_some-false (finite.get books name) (not-true (finite.contains_key books name) free))))

pub created_counts : (counts : CountsByName) (limits : Bounds) (name : List ℕ) (r : Result ℕ Denied)
    (old new : Books) → MatchesStep r (create_step limits old name) old new → AreCountsOf counts old
    → AreCountsOf counts new
created_counts counts limits name r old new m right =
    matched (AreCountsOf counts) r (create_step limits old name) old new
    (followed (λ (done : ℕ × Books). AreCountsOf counts done.1)
    (new_id limits name (finite.contains_key old name) (finite.len old)) _
    (λ _. finite.get old name ≡ None) (free_name limits old name)
    (λ id free. right_created counts old name (fresh_book id limits.keep) right free))
    right m

-- ---- the numbers that a store keeps

-- they stay right where nothing is written
pub still_counts : (old new : State) (limits : Bounds) (counts : CountsByName) → IsStore old limits
    → OnlyReads old new → HoldCounts old counts → HoldCounts new counts
still_counts old new limits counts store left right order sound =
    let before = read_before old new left order in
    let was = store.stays_sound before in
    let here = left.same order.0 was.sound.holds.schema order.1 (λ _. was.committed) in
    subst (AreCountsOf counts) (ap (λ (d : Database). books_in d.trees) (sym here.now_is))
    (right before was)

-- they are right after a change that keeps them right
pub kept_counts : {A : Type 0} (old new : State) (limits : Bounds) (before after : CountsByName)
    (r : Result A Denied) (step : Books → Result (A × Books) Refusal) → IsStore old limits
    → AppliesStep old new r step → HoldCounts old before → KeepsCounts old new before after
    → HoldCounts new after
kept_counts old new limits before after r step store changed right keeps order sound =
    let open_before = changed.was_open_on_honest_disk order in
    let was = store.stays_sound open_before in
    keeps order was (right open_before was)

-- and after one whose step keeps them right
pub stepped_counts : {A : Type 0} (old new : State) (limits : Bounds) (before after : CountsByName)
    (r : Result A Denied) (step : Books → Result (A × Books) Refusal) → IsStore old limits
    → AppliesStep old new r step → HoldCounts old before
    → ((from to : Books) → MatchesStep r (step from) from to → AreCountsOf before from
    → AreCountsOf after to) → HoldCounts new after
stepped_counts old new limits before after r step store changed right follows =
    kept_counts old new limits before after r step store changed right
    (λ order was held. follows (stored_books old) (stored_books new) (changed.matches_step order
    was) held)

-- they are right after a tally, which may count a book
pub tallied_counts : (old new : State) (limits : Bounds) (before after : CountsByName)
    → IsStore old limits → OnlyReads old new → HoldCounts old before
    → GivenCounts old new before (λ rows. AreCountsOf after (books_of rows)) → HoldCounts new after
tallied_counts old new limits before after store left right counted order sound =
    let open_before = read_before old new left order in
    let was = store.stays_sound open_before in
    let here = left.same order.0 was.sound.holds.schema order.1 (λ _. was.committed) in
    let rows = was.sound.rows in
    let held : stored_books old ≡ books_of rows =
    books_held old.now rows was.sound.holds was.sound.sound in
    let now : books_of rows ≡ stored_books new =
    sym held ∙ ap (λ (d : Database). books_in d.trees) (sym here.now_is) in
    subst (AreCountsOf after) now (counted rows order.0 was.sound.holds was.sound.sound
    (subst (AreCountsOf before) held (right open_before was)))

-- ---- a store that was opened: its tables were only tested

pub opened_sound : (limits : Bounds) (old new : State) → ChangesNothing old new
    → HasNoPendingWrites old → (HasCleanDisk new → HoldsWellFormed limits old.now)
    → IsOpenOnHonestDisk new → IsCommittedAndSound new
opened_sound limits old new left settled formed order =
    let kept = left.same order.0 order.1 settled in
    let held = formed order.0 in
    record {
      committed = kept.now_is ∙ settled kept.was_open ∙ sym kept.committed_is;
      sound = subst HoldsSoundRows (sym kept.now_is) (record {
        rows = held.rows;
        holds = held.holds;
        sound = held.well_formed.sound;
      });
    }

pub opened_formed : (limits : Bounds) (old new : State) → ChangesNothing old new
    → HasNoPendingWrites old → (HasCleanDisk new → HoldsWellFormed limits old.now)
    → IsOpenOnHonestDisk new → IsWellFormed limits (stored_books new)
opened_formed limits old new left settled formed order =
    let kept = left.same order.0 order.1 settled in
    let held = formed order.0 in
    subst (IsWellFormed limits) (sym (books_held old.now held.rows held.holds
    held.well_formed.sound) ∙ sym (ap (λ (d : Database). books_in d.trees) kept.now_is))
    held.well_formed.books

-- All that a crash may leave of the connection before is what was committed. So it may leave only
-- the
-- tables that were tested.
pub opened_leaves : (limits : Bounds) (old new : State) → ((trees : Trees) → IsTrue old.is_open
    → old.may_leave trees → trees ≡ old.committed.trees) → ChangesNothing old new
    → HasNoPendingWrites old → (HasCleanDisk new → HoldsWellFormed limits old.now)
    → (HasCleanDisk new → IsTrue old.is_open)
    → HasCleanDisk new → (trees : Trees) → new.may_leave trees → (books : Books)
    × TreesHold books trees × IsWellFormed limits books
opened_leaves limits old new alone left settled formed was_open clean trees may =
    let up = was_open clean in
    let held = formed clean in
    let before : old.may_leave trees = elim (left.survives.crash clean trees may) [
      | inl before ↦
          before
      | inr none ↦ absurd none
    ] in
    let whole = trees_held old.now (books_of held.rows) (record {
      sound = record {
        rows = held.rows;
        holds = held.holds;
        sound = held.well_formed.sound;
      };
      books_are = books_held old.now held.rows held.holds held.well_formed.sound;
    }) in (
      books_of held.rows,
      subst (TreesHold (books_of held.rows)) (ap (λ (d : Database). d.trees)
          (settled up) ∙ sym (alone trees up before)) whole,
      held.well_formed.books,
    )

pub opened_counts : (old new : State) (counts : CountsByName) → ChangesNothing old new
    → HasNoPendingWrites old → (HasCleanDisk new → AreCountsOf counts (stored_books old))
    → HoldCounts new counts
opened_counts old new counts left settled right order sound =
    let kept = left.same order.0 order.1 settled in
    subst (AreCountsOf counts) (ap (λ (d : Database). books_in d.trees) (sym kept.now_is))
    (right order.0)
