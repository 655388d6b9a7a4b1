-- The books of a copy, also without some of them, and of the files of a store that was closed.
use Rattle.std.proofs.Common.{◌≡◌, ◌<◌, ◌≤◌, ◌*◌, map, ℕ, ℤ, [], List, Bool, IsTrue}
use Rattle.std.proofs.Common.{Result, Ok, Err, IfOk, OnOk, refl, ap, sym, subst, ◌∙◌}
use Rattle.std.specs.FinMap as finite
use Rattle.std.specs.List.{AllByRecursion}
use Rattle.sqlite.specs.declared.error.Error.{Error}
use Rattle.sqlite.specs.Closing.{IsCopied}
use Rattle.sqlite.specs.Effect.{Database}
use Rattle.sqlite.specs.Files.{file_state}
use Rattle.sqlite.specs.Held.{Held}
use Rattle.sqlite.specs.State.{State, Survives}
use Rattle.sqlite.proofs.StateLemmas.{survives_then}
use Rattle.sqlite_disk.specs.declared.Disk.{Ghosts}
use Rattle.sqlite_disk.specs.declared.Files.{Files}
use Rattle.sqlite_store.specs.declared.store.FileStore.{FileStore}
use Rattle.book_model.specs.declared.refusal.Refusal.{Refusal}
use Rattle.book_model.specs.Books.{Books}
use Rattle.book_model.specs.Bounds.{Bounds}
use Rattle.book_model.specs.CallOutcomes.{◌>>=◌, MatchesStep}
use Rattle.book_resync.specs.Resyncing.{accept_books, books_after_resync, resync_step}
use Rattle.book_resync.specs.ResyncLaws.{IsResync}
use Rattle.store_tables.specs.StatementEffects.{GivenTables, HasNoPendingWrites, OnlyReads}
use Rattle.store_schema.specs.StoredSchema.{ChangesNothing}
use Rattle.store_rows.specs.TableBooks.{books_in}
use Rattle.store_check.specs.RowChecks.{decode_book}
use Rattle.store_rows.specs.Values.{natural}
use Rattle.store_copy.specs.BooksWithout.{AreBooksWithout}
use Rattle.store_copy.specs.CopiedRows.{HasRows}
use Rattle.store_copy.specs.RowsWithout.{HasNewRows, LeavesOut, ids_named}
use Rattle.store_copy.specs.declared.reading.StoredRows.{StoredRows}
use Rattle.store_copy.proofs.RestLemmas.{copies_hold_rest, numbers_below}
use Rattle.store_copy.proofs.WithoutLemmas.{nothing_left_out}
use Rattle.store_lookups.specs.StoredBooks.{IsOpenOnHonestDisk, stored_books}
use Rattle.store_writes.proofs.CallLemmas.{read_before, read_keeps_sound}
use Rattle.store_writes.proofs.HeldLemmas.{trees_held}
use Rattle.book_store.specs.ClosedFiles.{AreBooksAlone, AreTreesAlone}
use Rattle.book_store.specs.Copies.{AreMade, AreMadeWithout, AreRestarted, AreRestWithout}
use Rattle.book_store.specs.Copies.{AreStoreRows}
use Rattle.book_store.specs.StoreViews.{IsStore}

-- ---- the rows of a store

-- the listed rows are those of its tables
pub listed_rows : (old new : State) (limits : Bounds) (rows : StoredRows) → IsStore old limits
    → OnlyReads old new → GivenTables old new (HasRows old.now rows) → IsOpenOnHonestDisk new
    → AreStoreRows old rows
listed_rows old new limits rows store left listed order =
    let was = store.stays_sound (read_before old new left order) in
    record { has = listed order.0 was.sound.holds.schema; sound = was.sound }

-- the tables of a store hold these rows
pub confirmed : (old new : State) (limits : Bounds) (ids : List ℤ) (rows : StoredRows)
    → IsStore old limits → OnlyReads old new → GivenTables old new (HasNewRows ids old.now rows)
    → IsOpenOnHonestDisk new → AreMade new ids rows
confirmed old new limits ids rows store left listed order =
    let was = store.stays_sound (read_before old new left order) in
    let last = read_keeps_sound old new left order was in
    record {
      has = subst (λ db. HasNewRows ids db rows) (sym last.0)
          (listed order.0 was.sound.holds.schema);
      sound = last.1;
    }

-- the same of the result of comparing them
pub confirmed_if : (old new : State) (limits : Bounds) (ids : List ℤ) (rows : StoredRows) (r :
    Result Bool Error) → IsStore old limits → OnlyReads old new
    → GivenTables old new (IfOk r (λ same. IsTrue same → HasNewRows ids old.now rows))
    → IfOk r (λ same. IsTrue same → IsOpenOnHonestDisk new → AreMade new ids rows)
confirmed_if old new limits ids rows (Ok same) store left listed =
    λ yes. confirmed old new limits ids rows store left (λ clean has. listed clean has yes)
confirmed_if old new limits ids rows (Err e) store left listed = tt

-- a store that was only read shows what it showed, and a crash leaves what it could leave
pub confirmed_shows : (old new : State) (limits : Bounds) → IsStore old limits → OnlyReads old new
    → IsOpenOnHonestDisk new → new.now ≡ old.now
confirmed_shows old new limits store left order =
    let was = store.stays_sound (read_before old new left order) in
    (left.same order.0 was.sound.holds.schema order.1 (λ _. was.committed)).now_is

-- the tables were written, opened and read
pub opened_shows : (old mid new : State) → HasNoPendingWrites old → ChangesNothing old mid
    → IsOpenOnHonestDisk mid → new.now ≡ mid.now → new.now ≡ old.now
opened_shows old mid new settled left order same = same ∙ (left.same order.0 order.1 settled).now_is

pub copied_whole : (old mid new : State) → Survives old mid (λ trees. trees ≡ mid.now.trees)
    → Survives mid new (λ _. ⊥) → new.now ≡ mid.now
    → Survives old new (λ trees. trees ≡ new.now.trees)
copied_whole old mid new wrote read same =
    survives_then old mid new _ _ (λ trees. trees ≡ new.now.trees) (λ _ db made. made
    ∙ ap (λ (d : Database). d.trees) (sym same)) (λ _ db none. absurd none) wrote read

-- ---- the books of a copy

-- a copy was made of rows without those of some books
pub made_without : (s : State) (names : List (List ℕ)) (all kept : StoredRows) (one two : List ℤ)
    → one ≡ ids_named names all → two ≡ ids_named names all → LeavesOut one all kept
    → AreMade s two kept → AreMadeWithout s names all
made_without s names all kept one two p q leaves made = record {
  kept = kept;
  leaves = subst (λ ids. LeavesOut ids all kept) p leaves;
  made = subst (λ ids. AreMade s ids kept) q made;
}

-- a copy of all rows but those of some books has the other books
pub rest_books : (old copy : State) (names : List (List ℕ)) (all : StoredRows)
    → AreStoreRows old all → AreMadeWithout copy names all
    → AreBooksWithout names (stored_books old) (stored_books copy)
rest_books old copy names all listed h =
    copies_hold_rest names old.now copy.now all h.kept listed.has h.leaves h.made.has listed.sound
    h.made.sound.sound

-- its file holds them after a resync past all numbers
pub restarted_rest : {D : Type 0} {g : Ghosts D} (files : Files D) (limits : Bounds) (old copy :
    State) (names : List (List ℕ)) (all : StoredRows) (pairs : ℕ) → AreStoreRows old all
    → AreMadeWithout copy names all
    → AllByRecursion (λ book. natural book.numbers.number < 2 * pairs)
    (map decode_book all.others.books.items) → AreRestarted g files limits (stored_books copy)
    pairs → AreRestWithout g files limits names (stored_books old)
restarted_rest files limits old copy names all pairs listed h below done = record {
  rest = stored_books copy;
  without = rest_books old copy names all listed h;
  pairs = pairs;
  above = numbers_below old.now all (2 * pairs) listed.has listed.sound below;
  restarted = done;
}

-- a copy of all rows has all books
pub copied_books : (old copy : State) (all : StoredRows) → AreStoreRows old all
    → AreMadeWithout copy [] all → stored_books copy ≡ stored_books old
copied_books old copy all listed h =
    nothing_left_out (stored_books old) (stored_books copy) (rest_books old copy [] all listed h)

-- a store that was only read has its books
pub still_books : (old new : State) (limits : Bounds) → IsStore old limits → OnlyReads old new
    → IsOpenOnHonestDisk new → stored_books new ≡ stored_books old
still_books old new limits store left order =
    let was = store.stays_sound (read_before old new left order) in
    ap (λ (d : Database). books_in d.trees) (left.same order.0 was.sound.holds.schema order.1
    (λ _. was.committed)).now_is

-- the file of a store that was closed holds what its tables held
pub closed_trees : {D : Type 0} {g : Ghosts D} (c : Held (FileStore D g)) (files : Files D)
    (limits : Bounds) → IsStore (file_state c) limits → IsCopied c files
    → AreTreesAlone g files (file_state c).now.trees
closed_trees c files limits store h =
    let sound = store.stays_sound (h.was_clean, h.was_open) in
    subst (AreTreesAlone _ files) (ap (λ (d : Database). d.trees) (sym sound.committed))
    (record { seen = h.seen; left = h.left })

-- so it has its books
pub closed_alone : {D : Type 0} {g : Ghosts D} (c : Held (FileStore D g)) (files : Files D)
    (limits : Bounds) → IsStore (file_state c) limits → IsCopied c files
    → AreBooksAlone g files (stored_books (file_state c))
closed_alone c files limits store h =
    let sound = store.stays_sound (h.was_clean, h.was_open) in
    record {
      trees = (file_state c).now.trees;
      alone = closed_trees c files limits store h;
      hold = trees_held (file_state c).now (stored_books (file_state c))
          (record { sound = sound.sound; books_are = refl });
    }

-- ---- a resync of a copy

pub is_resync : (limits : Bounds) (pairs answer : ℕ) (old new : Books) → 1 ≤ pairs
    → MatchesStep (Ok answer) (resync_step limits old pairs) old new → IsResync limits old pairs new
is_resync limits pairs answer old new some m =
    go (accept_books limits pairs (finite.entries old)) refl m
  where
    go : (a : Result (Unit {0}) Refusal) → accept_books limits pairs (finite.entries old) ≡ a
        → MatchesStep (Ok answer) (a >>= λ _. Ok (
          finite.len old,
          books_after_resync limits old pairs,
        )) old new → IsResync limits old pairs new
    go (Ok done) e h = record {
      some = some;
      accepted = rw e (ap (λ b. Ok (finite.len old, b)) (sym h.1));
    }
    go (Err refusal) e h = absurd h

-- two facts of a success give a third
pub both : {T E : Type 0} (r : Result T E) (P Q R : T → Type 0) → ((x : T) → P x → Q x → R x)
    → IfOk r P → IfOk r Q → IfOk r R
both (Ok x) P Q R f p q = f x p q
both (Err e) P Q R f p q = tt

-- what holds anyway holds of a success
pub always : {T E P : Type 0} (r : Result T E) → P → OnOk r P
always (Ok x) p = p
always (Err e) p = tt
