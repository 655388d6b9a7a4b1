-- The state of a store after a call that changes its tables.
use Rattle.std.proofs.Common.{◌≡◌, false, IsTrue, List, ℕ, OnOk, Result, Ok, Err, sym, ap, subst}
use Rattle.std.proofs.Common.{◌∙◌}
use Rattle.std.specs.Prelude.{⊤}
use Rattle.std.specs.Option.{option_map_or}
use Rattle.sqlite.specs.Effect.{Database}
use Rattle.sqlite.specs.State.{State, HasCleanDisk, IsUnchanged, Survives}
use Rattle.sqlite.specs.Tree.{Trees}
use Rattle.sqlite.proofs.StateLemmas.{survives_then, survives_weaker}
use Rattle.book_model.specs.declared.denied.Denied.{Denied}
use Rattle.book_model.specs.declared.denied.Denied.TheVariants.{Refused, Fault}
use Rattle.book_model.specs.declared.refusal.Refusal.{Refusal}
use Rattle.book_model.specs.declared.refusal.Refusal.TheVariants.{NoSuchBook}
use Rattle.book_model.specs.Books.{Book, Books, book_named}
use Rattle.book_model.specs.CallOutcomes.{MatchesStep, ◌>>=◌}
use Rattle.book_model.specs.Counts.{AreCountsOf, CountsByName}
use Rattle.store_tables.specs.StatementEffects.{HasNoPendingWrites, OnlyReads, GivenTables}
use Rattle.store_tables.proofs.SchemaCreationLemmas.{clean_before}
use Rattle.store_rows.specs.LookupLaws.{IsBookNamed}
use Rattle.store_rows.specs.SoundTables.{AreSoundRows, HoldsSoundRows}
use Rattle.store_rows.specs.TableBooks.{HeaderRow, line_row, row_book, books_of, books_in}
use Rattle.store_rows.specs.TableRows.{TableRows, HoldsRows}
use Rattle.store_rows.proofs.HeldRows.{books_held}
use Rattle.store_lookups.specs.CallResults.{FollowsStep, FindsHeader, IsExactly, GivenCounts}
use Rattle.store_lookups.specs.CallResults.{GivenSoundRows}
use Rattle.store_lookups.specs.Faults.{IsDeniedFault}
use Rattle.store_writes.specs.TableChanges.{AppliesStep, CommitsOnce, CommitsStep, HasBookRow}
use Rattle.store_writes.specs.TableChanges.{HoldBooksAfter, IsAtomic, StaysOpenOnOk}
use Rattle.store_lookups.specs.StoredBooks.{HoldCounts, IsOpenOnHonestDisk, IsCommittedAndSound}
use Rattle.store_lookups.specs.StoredBooks.{KeepsCounts, stored_books}

-- ---- the step of a book

-- for the book that was found
pub named_does : {A : Type 0} (rows : TableRows) (name : List ℕ) (header : HeaderRow) (f : Book
    → Result (A × Books) Refusal) (r : Result A Denied) (old new : Books)
    → IsBookNamed rows name header
    → MatchesStep r (f (row_book rows (line_row name header))) old new
    → MatchesStep r (book_named (books_of rows) name >>= f) old new
named_does rows name header f r old new named done =
    subst (λ found. MatchesStep r (option_map_or Ok found (Err NoSuchBook) >>= f) old new)
    (sym named.book) done

-- if there is no such book, or it was not read
pub unnamed_does : {A : Type 0} (rows : TableRows) (name : List ℕ) (f : Book
    → Result (A × Books) Refusal) (denied : Denied) (old new : Books)
    → FindsHeader rows name (Err denied) → new ≡ old
    → MatchesStep (Err denied) (book_named (books_of rows) name >>= f) old new
unnamed_does rows name f (Refused refusal) old new is same =
    subst (λ found. MatchesStep (Err (Refused refusal)) (option_map_or Ok found (Err NoSuchBook) >>=
    f) old new) (sym is.1.book) (is.0, same)
unnamed_does rows name f (Fault fault) old new is same = same

-- the call failed: with the model's refusal, or with a fault
pub denied_does : {T A : Type 0} (due : Result T Refusal) (f : T → A × Books) (denied : Denied)
    (old new : Books) → FollowsStep {T = T} {A = T} IsExactly (Err denied) due → new ≡ old
    → MatchesStep (Err denied) (due >>= λ answer. Ok (f answer)) old new
denied_does (Ok asked) f (Refused refusal) old new returned same = absurd returned
denied_does (Err wanted) f (Refused refusal) old new returned same = (returned, same)
denied_does due f (Fault fault) old new returned same = same

-- a fault leaves the books unchanged
pub fault_does : {A : Type 0} (step : Result (A × Books) Refusal) (denied : Denied) (old new :
    Books) → IsDeniedFault denied → new ≡ old → MatchesStep (Err denied) step old new
fault_does step denied old new fault same =
    subst (λ d. MatchesStep (Err d) step old new) (sym fault.1) same

-- ---- the state after the call

-- nothing was written
pub read_keeps_sound : (old new : State) → OnlyReads old new → IsOpenOnHonestDisk new
    → IsCommittedAndSound old → (new.now ≡ old.now) × IsCommittedAndSound new
read_keeps_sound old new left order was =
    let here = left.same order.0 was.sound.holds.schema order.1 (λ _. was.committed) in (
      here.now_is,
      record {
        committed = here.now_is ∙ was.committed ∙ sym here.committed_is;
        sound = subst HoldsSoundRows (sym here.now_is) was.sound;
      },
    )

pub read_before : (old new : State) → OnlyReads old new → IsOpenOnHonestDisk new
    → IsOpenOnHonestDisk old
read_before old new left order = (
  clean_before _ old new left.survives order.0,
  left.was_open order.0 order.1,
)

-- crash statements hold only over a clean disk
pub survives_if : (a b : State) (P : Trees → Type 0) → Survives a b (λ _. ⊤)
    → (HasCleanDisk b → Survives a b P) → Survives a b P
survives_if a b P all some = record {
  clean = all.clean;
  shield = all.shield;
  counts = all.counts;
  limit = all.limit;
  closes = all.closes;
  crash = λ clean. (some clean).crash clean;
}

-- a call that only reads leaves the rows in the tables
pub holds_still : (old mid new : State) → GivenTables old mid (IsUnchanged old mid)
    → Survives mid new (λ _. ⊤) → HasCleanDisk new → (was : IsCommittedAndSound old)
    → HoldsRows mid.now was.sound.rows
holds_still old mid new same survives clean was =
    let kept = same (clean_before _ mid new survives clean) was.sound.holds.schema in
    subst (λ (d : Database). HoldsRows d was.sound.rows) (sym kept.0.now_is) was.sound.holds

-- the transaction's outcome, for the whole call
pub outcome_then : {A E : Type 0} (H : A → Database → Type 0) (old mid new : State) (r : Result A E)
    → mid.now ≡ old.now → IsAtomic mid new r H → IsAtomic old new r H
outcome_then H old mid new (Ok answer) same done = done
outcome_then H old mid new (Err e) same done = λ up. ((done up).0 ∙ same, (done up).1)

pub done_is_sound : {A E : Type 0} (H : A → Database → Type 0) (old new : State) (r : Result A E)
    → ((a : A) → H a new.now → HoldsSoundRows new.now) → IsCommittedAndSound old
    → IsOpenOnHonestDisk new → IsAtomic old new r H → IsCommittedAndSound new
done_is_sound H old new (Ok answer) sound was order done =
    record { committed = done.1; sound = sound answer done.0 }
done_is_sound H old new (Err e) sound was order done = record {
  committed = (done order.1).1;
  sound = subst HoldsSoundRows (sym (done order.1).0) was.sound;
}

-- ---- the numbers of tombstones that are kept

-- nothing was written, and a book may have been counted
pub read_counted : (old new : State) (before after : CountsByName) → OnlyReads old new
    → GivenCounts old new before (λ rows. AreCountsOf after (books_of rows))
    → KeepsCounts old new before after
read_counted old new before after left right order was had =
    let rows = was.sound in
    let books : stored_books old ≡ books_of rows.rows =
    books_held old.now rows.rows rows.holds rows.sound in
    let kept = read_keeps_sound old new left order was in
    let now = right rows.rows order.0 rows.holds rows.sound
    (subst (λ (b : Books). AreCountsOf before b) books had) in
    subst (λ (b : Books). AreCountsOf after b) (sym books
    ∙ ap (λ (d : Database). books_in d.trees) (sym kept.0)) now

-- nothing was written or counted
pub read_counts : (old new : State) (counts : CountsByName) → OnlyReads old new
    → KeepsCounts old new counts counts
read_counts old new counts left = read_counted old new counts counts left
    (λ rows clean holds sound right. right)

-- what a call finds over right numbers
pub found_over_counts : (old mid : State) (counts : CountsByName) (Q : TableRows → Type 0)
    → HoldCounts old counts → HasNoPendingWrites old → OnlyReads old mid
    → (HasCleanDisk mid → IsTrue old.is_open) → GivenCounts old mid counts Q
    → GivenSoundRows old mid Q
found_over_counts old mid counts Q held settled left opened found rows clean holds sound =
    let up = opened clean in
    let had = held (
      clean_before _ old mid left.survives clean,
      up,
    ) (record {
      committed = settled up;
      sound = record {
        rows = rows;
        holds = holds;
        sound = sound;
      };
    }) in
    found rows clean holds sound (subst (λ (b : Books). AreCountsOf counts b)
    (books_held old.now rows holds sound) had)

-- ---- the connection after a success

-- a transaction that succeeded leaves it open
committed_open : {A E : Type 0} (H : A → Database → Type 0) (old new : State) (r : Result A E)
    → IsAtomic old new r H → OnOk r (IsTrue new.is_open)
committed_open H old new (Ok answer) done = done.2
committed_open H old new (Err e) done = tt

-- so does a success that wrote nothing
pub read_stays_open : (old new : State) → OnlyReads old new
    → (HasCleanDisk new → IsTrue old.is_open) → GivenTables old new (IsUnchanged old new)
    → HasCleanDisk new → (IsOpenOnHonestDisk old → IsCommittedAndSound old) → IsTrue new.is_open
read_stays_open old new left opened same clean stays =
    (same clean (stays (
      clean_before _ old new left.survives clean,
      opened clean,
    )).sound.holds.schema).0.is_open

-- ---- whole calls

-- a call that wrote nothing
pub reads_changes : {A : Type 0} (step : Books → Result (A × Books) Refusal) (old new : State) (r :
    Result A Denied) → old.in_transaction ≡ false → OnlyReads old new
    → ((rows : TableRows) → HasCleanDisk new → HoldsRows old.now rows → AreSoundRows rows
    → stored_books new ≡ stored_books old
    → MatchesStep r (step (books_of rows)) (stored_books old) (stored_books new))
    → StaysOpenOnOk old new r → AppliesStep old new r step
reads_changes step old new r settled left matches_step opened = record {
  settled = left.mode settled;
  was_open_on_honest_disk = read_before old new left;
  stays_sound = λ order was. (read_keeps_sound old new left order was).1;
  matches_step = λ order was.
      let held : stored_books old ≡ books_of was.sound.rows =
      books_held old.now was.sound.rows was.sound.holds was.sound.sound in
      subst (λ (books : Books). MatchesStep r (step books) (stored_books old) (stored_books new))
      (sym held)
      (matches_step was.sound.rows order.0 was.sound.holds was.sound.sound
      (ap (λ (d : Database). books_in d.trees) (read_keeps_sound old new left order was).0));
  stays_open = opened;
}

-- a call that reads and then writes
module _ {A : Type 0} (H : TableRows → A → Database → Type 0) (step : Books
    → Result (A × Books) Refusal) (old mid new : State) (r : Result A Denied)
    (same : GivenTables old mid (IsUnchanged old mid)) (left : OnlyReads old mid) (Q : TableRows
    → Type 0) (found : GivenSoundRows old mid Q) (survives : Survives mid new (λ _. ⊤)) where
  pub wrote_changes : new.in_transaction ≡ false → (HasCleanDisk mid → IsTrue old.is_open)
      → ((rows : TableRows) → HasCleanDisk new → HoldsRows mid.now rows → AreSoundRows rows → Q rows
      → IsAtomic mid new r (H rows))
      → ((rows : TableRows) (a : A) → H rows a new.now → HoldsSoundRows new.now)
      → ((rows : TableRows) → Q rows → IsAtomic old new r (H rows) → IsTrue new.is_open
      → MatchesStep r (step (books_of rows)) (stored_books old) (stored_books new))
      → AppliesStep old new r step
  wrote_changes settled opened done sound matches_step =
      let early = λ (order : IsOpenOnHonestDisk new). clean_before _ mid new survives order.0 in
      let returned = λ (order : IsOpenOnHonestDisk new) (was : IsCommittedAndSound old). found
      was.sound.rows (early order) was.sound.holds was.sound.sound in
      let whole = λ (order : IsOpenOnHonestDisk new) (was : IsCommittedAndSound old). outcome_then
      (H was.sound.rows) old mid new r (same (early order) was.sound.holds.schema).0.now_is
      (done was.sound.rows order.0 (holds_still old mid new same survives order.0 was)
      was.sound.sound (returned order was)) in
      record {
        settled = settled;
        was_open_on_honest_disk = λ order. (
          clean_before _ old mid left.survives (early order),
          opened (early order),
        );
        stays_sound = λ order was. done_is_sound (H was.sound.rows) old new r (sound was.sound.rows)
            was order (whole order was);
        matches_step = λ order was.
            let held : stored_books old ≡ books_of was.sound.rows =
            books_held old.now was.sound.rows was.sound.holds was.sound.sound in
            subst (λ (books : Books). MatchesStep r (step books) (stored_books old)
            (stored_books new)) (sym held)
            (matches_step was.sound.rows (returned order was) (whole order was) order.1);
        stays_open = λ clean stays.
            let first = clean_before _ mid new survives clean in
            let was = stays (clean_before _ old mid left.survives first, opened first) in
            committed_open (H was.sound.rows) mid new r
            (done was.sound.rows clean (holds_still old mid new same survives clean was)
            was.sound.sound (found was.sound.rows first was.sound.holds was.sound.sound));
      }

  -- the numbers of tombstones afterwards
  pub wrote_counts : ((rows : TableRows) → HasCleanDisk new → HoldsRows mid.now rows
      → AreSoundRows rows → Q rows → IsAtomic mid new r (H rows)) → (before after : CountsByName)
      → ((rows : TableRows) → Q rows → IsAtomic old new r (H rows) → IsTrue new.is_open
      → AreCountsOf before (stored_books old) → stored_books old ≡ books_of rows
      → AreCountsOf after (stored_books new)) → KeepsCounts old new before after
  wrote_counts done before after right order was had =
      let early = clean_before _ mid new survives order.0 in
      let rows = was.sound in
      let returned = found rows.rows early rows.holds rows.sound in
      let whole = outcome_then (H rows.rows) old mid new r (same early rows.holds.schema).0.now_is
      (done rows.rows order.0 (holds_still old mid new same survives order.0 was) rows.sound
      returned) in
      right rows.rows returned whole order.1 had (books_held old.now rows.rows rows.holds
      rows.sound)

  -- the same after a crash
  pub wrote_commits : (HasCleanDisk mid → IsTrue old.is_open) → (P : TableRows → Trees → Type 0)
      → ((rows : TableRows) → HoldsRows mid.now rows → AreSoundRows rows → Q rows
      → Survives mid new (P rows))
      → ((rows : TableRows) → Q rows → (db : Trees) → P rows db
      → HoldBooksAfter (step (books_of rows)) db) → CommitsOnce old new step
  wrote_commits opened P crash holds stays =
      survives_if old new (CommitsStep old step) (survives_then old mid new _ _ (λ _. ⊤)
      (λ _ db none. tt) (λ _ db none. tt) left.survives survives)
      (λ clean.
      let early = clean_before _ mid new survives clean in
      let order : IsOpenOnHonestDisk old =
      (clean_before _ old mid left.survives early, opened early) in
      let was = stays order in
      let rows = was.sound.rows in
      let held : stored_books old ≡ books_of rows =
      books_held old.now rows was.sound.holds was.sound.sound in
      let returned = found rows early was.sound.holds was.sound.sound in
      survives_then old mid new _ _ (CommitsStep old step) (λ _ db none. absurd none)
      (λ _ db made. (
        order,
        subst (λ (books : Books). HoldBooksAfter (step books) db) (sym held)
            (holds rows returned db made),
      ))
      left.survives (crash rows (holds_still old mid new same survives clean was) was.sound.sound
      returned))

-- a call that looks up a book and then writes
module _ {A : Type 0} (H : TableRows → A → Database → Type 0) (step : Books
    → Result (A × Books) Refusal) (old mid new : State) (name : List ℕ) (header : HeaderRow) (r :
    Result A Denied)
    (same : GivenTables old mid (IsUnchanged old mid)) (left : OnlyReads old mid) (Q : TableRows
    → Type 0) (found : GivenSoundRows old mid Q) (is_named : (rows : TableRows) → Q rows
    → IsBookNamed rows name header) (survives : Survives mid new (λ _. ⊤)) where
  line_found : (rows : TableRows) → HoldsRows mid.now rows → AreSoundRows rows → Q rows
      → HasBookRow mid.now rows name header
  line_found rows holds sound returned = record {
    holds = holds;
    sound = sound;
    there = (is_named rows returned).there;
  }

  pub written_changes : new.in_transaction ≡ false → (HasCleanDisk mid → IsTrue old.is_open)
      → ((rows : TableRows) → HasCleanDisk new → HasBookRow mid.now rows name header
      → IsAtomic mid new r (H rows))
      → ((rows : TableRows) (a : A) → H rows a new.now → HoldsSoundRows new.now)
      → ((rows : TableRows) → Q rows → IsAtomic old new r (H rows) → IsTrue new.is_open
      → MatchesStep r (step (books_of rows)) (stored_books old) (stored_books new))
      → AppliesStep old new r step
  written_changes settled opened done sound matches_step =
      wrote_changes H step old mid new r same left Q found survives settled opened
      (λ rows clean holds kept returned. done rows clean (line_found rows holds kept returned))
      sound matches_step

  pub written_counts : ((rows : TableRows) → HasCleanDisk new → HasBookRow mid.now rows name header
      → IsAtomic mid new r (H rows)) → (before after : CountsByName)
      → ((rows : TableRows) → Q rows → IsAtomic old new r (H rows) → IsTrue new.is_open
      → AreCountsOf before (stored_books old) → stored_books old ≡ books_of rows
      → AreCountsOf after (stored_books new)) → KeepsCounts old new before after
  written_counts done before after right =
      wrote_counts H step old mid new r same left Q found survives
      (λ rows clean holds kept returned. done rows clean (line_found rows holds kept returned))
      before after right

  -- the same after a crash
  pub written_commits : (HasCleanDisk mid → IsTrue old.is_open) → (P : TableRows → Trees → Type 0)
      → ((rows : TableRows) → HasBookRow mid.now rows name header → Survives mid new (P rows))
      → ((rows : TableRows) → Q rows → (db : Trees) → P rows db
      → HoldBooksAfter (step (books_of rows)) db) → CommitsOnce old new step
  written_commits opened P crash holds =
      wrote_commits H step old mid new r same left Q found survives opened P
      (λ rows kept sound returned. crash rows (line_found rows kept sound returned)) holds

-- a failed write leaves the books, and so the numbers are right as they were
pub failed_counts : {A E : Type 0} (H : A → Database → Type 0) (old new : State) (e : E) (counts :
    CountsByName) → IsAtomic old new (Err e) H → IsTrue new.is_open
    → AreCountsOf counts (stored_books old) → AreCountsOf counts (stored_books new)
failed_counts H old new e counts done up right =
    subst (λ (d : Database). AreCountsOf counts (books_in d.trees)) (sym (done up).0) right

pub named_row_held : {A : Type 0} (rows : TableRows) (name : List ℕ) (header : HeaderRow) (f : Book
    → Result (A × Books) Refusal) (db : Trees) → IsBookNamed rows name header
    → HoldBooksAfter (f (row_book rows (line_row name header))) db
    → HoldBooksAfter (book_named (books_of rows) name >>= f) db
named_row_held rows name header f db named done =
    subst (λ found. HoldBooksAfter (option_map_or Ok found (Err NoSuchBook) >>= f) db)
    (sym named.book) done
