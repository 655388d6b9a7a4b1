-- The rows after a removal, and the removal against the model.
use Rattle.std.proofs.Common.{◌≡◌, ◌+◌, ◌≤◌, ℕ, pos, true, false, min, nat_le, nat_lt, List, Option}
use Rattle.std.proofs.Common.{Some, None, IfSome, Result, Ok, Err, filter, add-one, refl, sym, ap}
use Rattle.std.proofs.Common.{subst, ◌∙◌}
use Rattle.std.specs.Option.{option_map_or}
use Rattle.std.specs.FinMap as finite
use Rattle.sqlite.specs.declared.error.Error.TheVariants.{QueryReturnedNoRows}
use Rattle.sqlite.specs.Effect.{Database}
use Rattle.sqlite.specs.Order.{Row}
use Rattle.sqlite.specs.State.{State, HasCleanDisk, IsUnchanged, Survives}
use Rattle.sqlite.specs.Tree.{Trees}
use Rattle.sqlite.proofs.Callers.{unchanged_then}
use Rattle.book_model.specs.declared.answers.Stored.{Stored}
use Rattle.book_model.specs.declared.change.Change.TheVariants.{TakesAway}
use Rattle.book_model.specs.declared.change.RemovalReason.{RemovalReason}
use Rattle.book_model.specs.declared.change.RemovalReason.TheVariants.{Deletion}
use Rattle.book_model.specs.declared.denied.Denied.{Denied}
use Rattle.book_model.specs.declared.denied.Denied.TheVariants.{Refused, Fault}
use Rattle.book_model.specs.declared.refusal.Refusal.{Refusal}
use Rattle.book_model.specs.declared.refusal.Refusal.TheVariants.{NoSuchCard}
use Rattle.book_model.specs.Books.{Book, Books, live_at}
use Rattle.book_model.specs.Bounds.{Bounds}
use Rattle.book_model.specs.BookChanges.{book_after_drop, forced_horizon, oldest_tombstone}
use Rattle.book_model.specs.BookChanges.{book_after_change, book_with_row}
use Rattle.book_model.specs.Counting.{counts_after_change, live_count}
use Rattle.book_model.specs.Forgetting.{book_after_forget}
use Rattle.book_model.specs.CallOutcomes.{MatchesStep, ◌>>=◌}
use Rattle.book_model.specs.BookQueries.{tombstone_count}
use Rattle.book_model.specs.Counts.{AreCountsOf, CountsByName}
use Rattle.book_model.specs.Removing.{remove_number}
use Rattle.store_tables.specs.QueryResults.{FindsFirstRow}
use Rattle.store_tables.specs.Books.{HasBooks, with_book_numbers}
use Rattle.store_tables.specs.SchemaCreation.{HoldsInTx}
use Rattle.store_tables.specs.Members.{HasMembers, by_changed, number_shown, is_removed_above}
use Rattle.store_tables.specs.Members.{upsert_member, without_removed}
use Rattle.store_tables.specs.StatementEffects.{GivenTables, OnlyReads, WritesOnly}
use Rattle.store_tables.proofs.SchemaCreationLemmas.{clean_before}
use Rattle.store_rows.specs.ChangeLaws.{HoldsPut, header_after}
use Rattle.store_rows.specs.ShownRows.{ShowsNumber}
use Rattle.store_rows.specs.SoundTables.{AreSoundRows}
use Rattle.store_rows.specs.TableBooks.{HeaderRow, line_row, numbers_row, row_book, books_in}
use Rattle.store_rows.specs.TableBooks.{books_of}
use Rattle.store_rows.specs.TableRows.{TableRows, HoldsRows, forgotten_rows, put_rows}
use Rattle.store_rows.specs.TableRows.{renumbered_rows}
use Rattle.store_rows.proofs.HeldRows.{books_held}
use Rattle.store_rows.proofs.BookLemmas.{changes_one, naturals_row, renumbering_held}
use Rattle.store_rows.proofs.FirstLemmas.{first_is_first, none_is_none, removals_remembered}
use Rattle.store_rows.proofs.RemovedLemmas.{forgetting_forgets, forgetting_held}
use Rattle.store_rows.proofs.WriteLemmas.{go_on, put_is_row}
use Rattle.store_lookups.specs.CallResults.{FollowsStep, IsExactly}
use Rattle.store_lookups.specs.Faults.{IsDeniedFault}
use Rattle.store_writes.specs.TableChanges.{AppliesStep, HasBookRow, HoldBooksAfter, HoldsBooks}
use Rattle.store_writes.specs.TableChanges.{HoldsChange, TreesHold}
use Rattle.store_removals.specs.internal.Removals.{IsRemovalPlanned, drop_by_next_removal}
use Rattle.store_removals.specs.internal.Removals.{removal_number_in}
use Rattle.store_lookups.specs.StoredBooks.{HoldCounts, stored_books}
use Rattle.store_writes.proofs.CallLemmas.{denied_does, read_before, read_keeps_sound}
use Rattle.store_writes.proofs.ForgetLemmas.{writes_table}
use Rattle.store_writes.proofs.HeldLemmas.{row_remains}
use Rattle.store_writes.proofs.PlanLemmas.{lookup_of}

-- ---- the rows after a removal that forgets tombstones

module _ (old a b new : State) (rows : TableRows) (name : List ℕ) (header : HeaderRow) (uid :
    List ℕ) (why : RemovalReason) (upto : ℕ) where
  pub row_dropped : HasBookRow old.now rows name header
      → (one : HoldsPut a.now rows (line_row name header) uid (pos (header.number + 1)) None)
      → HasMembers b (without_removed (pos header.id) (pos upto)
      (upsert_member one.id (pos header.id) uid (pos (header.number + 1)) None rows.members))
      → WritesOnly 4 a b
      → HasBooks new (with_book_numbers (pos header.id) (numbers_row (header.number + 1) upto
      (counts_after_change (TakesAway why) header.counts)) rows.books) → WritesOnly 2 b new
      → HoldsInTx new (λ db. HoldsChange db rows (pos header.id) (finite.insert (books_of rows) name
      (book_after_forget (book_with_row (row_book rows (line_row name header)) uid
      (TakesAway why)) upto)))
  row_dropped line one members second books third =
      let with_it = put_rows one.id (pos header.id) uid (pos (header.number + 1)) None rows in
      let two = forgetting_held a.now b.now with_it (line_row name header) upto one.holds
      one.within.sound members (writes_table 4 a b second) in
      let left = forgotten_rows (pos header.id) (pos upto) with_it in
      let numbers = numbers_row (header.number + 1) upto (counts_after_change (TakesAway why)
      header.counts) in
      let three = renumbering_held b.now new.now left (pos header.id) numbers two.holds
      two.within.sound (naturals_row (header.number + 1) upto
      (counts_after_change (TakesAway why) header.counts)) books (writes_table 2 b new third) in
      record {
        holds = record {
          rows_after = renumbered_rows (pos header.id) numbers left;
          holds = three.holds;
          sound = three.sound;
          books_are = changes_one rows left (line_row name header) numbers line.sound line.there
              (go_on (pos header.id) rows with_it left one.within two.within)
              ∙ ap (finite.insert (books_of rows) name)
              (forgetting_forgets with_it name (header_after (TakesAway why) header) upto
              one.within.sound
              ∙ ap (λ k. book_after_forget k upto) (put_is_row rows name header one.id uid None
              (TakesAway why) line.sound refl));
          others = λ b there apart. (
            row_remains (pos header.id) numbers rows.books b there apart,
            two.within.others b apart ∙ one.within.others b apart,
          );
        };
        inside = third.inside;
      }

-- ---- one look-up after another

-- one call that changed nothing, and then another
pub same_then : (old mid new : State) (P : Trees → Type 0)
    → GivenTables old mid (IsUnchanged old mid) → Survives mid new P
    → GivenTables mid new (IsUnchanged mid new) → GivenTables old new (IsUnchanged old new)
same_then old mid new P one survives two clean has =
    let first = one (clean_before P mid new survives clean) has in
    unchanged_then old mid new first (two clean (ap (λ (d : Database). d.schema) first.0.now_is
    ∙ has))

-- ---- the plan

pub one_more_fits : (n k : ℕ) → nat_lt n k ≡ nat_le (n + 1) k
one_more_fits n k = sym (ap (λ m. nat_le m k) (add-one n))

pub first_found : (rows : TableRows) (name : List ℕ) (header : HeaderRow) (row : Row) (n : ℕ)
    → AreSoundRows rows
    → FindsFirstRow by_changed number_shown
    (filter (is_removed_above (pos header.id) (pos header.horizon)) rows.members) (Ok row)
    → ShowsNumber row n → oldest_tombstone (row_book rows (line_row name header)) ≡ Some n
first_found rows name header row n sound finds shows =
    first_is_first rows name header row n sound finds shows

pub first_missing : (rows : TableRows) (name : List ℕ) (header : HeaderRow) → AreSoundRows rows
    → FindsFirstRow by_changed number_shown
    (filter (is_removed_above (pos header.id) (pos header.horizon)) rows.members)
    (Err QueryReturnedNoRows) → oldest_tombstone (row_book rows (line_row name header)) ≡ None
first_missing rows name header sound finds = none_is_none rows name header sound finds

-- how far the book forgets, by whether there is room and by the oldest tombstone
pub no_drop : (book : Book) → nat_le (tombstone_count book + 1) book.keep ≡ true
    → drop_by_next_removal book ≡ None
no_drop book room = rw room refl

pub some_drop : (book : Book) (first : Option ℕ) (upto : ℕ)
    → nat_le (tombstone_count book + 1) book.keep ≡ false → oldest_tombstone book ≡ first
    → upto ≡ option_map_or (min (book.number + 1)) first (book.number + 1)
    → drop_by_next_removal book ≡ Some upto
some_drop book first upto full is value =
    rw full (ap Some (ap (λ f. option_map_or (min (book.number + 1)) f (book.number + 1)) is
    ∙ sym value))

pub removal_live : (limits : Bounds) (live : Option Stored) (cards number n : ℕ) (expect : Option ℕ)
    → remove_number limits (lookup_of live cards number) expect ≡ Ok n → (stored : Stored)
    × (live ≡ Some stored)
removal_live limits None cards number n expect is =
    absurd (let k : ◌≡◌ {A = Result ℕ Refusal} (Err NoSuchCard) (Ok n) = is in cc)
removal_live limits (Some stored) cards number n expect is = (stored, refl)

-- the forgetting that was planned before the removal is the one after it
pub drop_is : (rows : TableRows) (name : List ℕ) (header : HeaderRow) (uid : List ℕ) (limits :
    Bounds) (expect : Option ℕ) (n : ℕ) (drop : Option ℕ) → AreSoundRows rows
    → header.horizon ≤ header.number
    → removal_number_in limits uid expect (row_book rows (line_row name header)) ≡ Ok n
    → drop_by_next_removal (row_book rows (line_row name header)) ≡ drop
    → forced_horizon (TakesAway Deletion) (book_with_row (row_book rows (line_row name header)) uid
    (TakesAway Deletion)) ≡ drop
drop_is rows name header uid limits expect n drop sound low number returned =
    let book = row_book rows (line_row name header) in
    let live = removal_live limits (live_at book uid) (live_count book.counts) book.number n expect
    number in
    (removals_remembered rows name header uid live.0 Deletion sound live.1 low).drop ∙ returned

-- a number that is known
pub if_known : (X : ℕ → Type 0) (number planned : Option ℕ) → planned ≡ number
    → ((n : ℕ) → planned ≡ Some n → X n) → IfSome number X
if_known X None planned is each = tt
if_known X (Some n) planned is each = each n is

-- ---- a call that wrote nothing, over right numbers

pub reads_over_counts : {A : Type 0} (step : Books → Result (A × Books) Refusal) (old new : State)
    (counts : CountsByName) (denied : Denied) → old.in_transaction ≡ false → OnlyReads old new
    → HoldCounts old counts
    → ((rows : TableRows) → HasCleanDisk new → HoldsRows old.now rows → AreSoundRows rows
    → AreCountsOf counts (books_of rows) → stored_books new ≡ stored_books old
    → MatchesStep (Err denied) (step (books_of rows)) (stored_books old) (stored_books new))
    → AppliesStep old new (Err denied) step
reads_over_counts step old new counts denied settled left held matches_step = record {
  settled = left.mode settled;
  was_open_on_honest_disk = read_before old new left;
  stays_sound = λ order was. (read_keeps_sound old new left order was).1;
  matches_step = λ order was.
      let rows = was.sound in
      let books : stored_books old ≡ books_of rows.rows =
      books_held old.now rows.rows rows.holds rows.sound in
      let right = subst (λ (b : Books). AreCountsOf counts b) books
      (held (read_before old new left order) was) in
      subst (λ (b : Books). MatchesStep (Err denied) (step b) (stored_books old) (stored_books new))
      (sym books)
      (matches_step rows.rows order.0 rows.holds rows.sound right
      (ap (λ (d : Database). books_in d.trees) (read_keeps_sound old new left order was).0));
  stays_open = λ clean stays. tt;
}

-- ---- the step of the book

abbrev pub remove_of : Bounds → Books → List ℕ → List ℕ → Option ℕ → Book
    → Result (ℕ × Books) Refusal
remove_of limits books name uid expect book =
    removal_number_in limits uid expect book >>= λ number. Ok (
      number,
      finite.insert books name (book_after_change book uid (TakesAway Deletion)),
    )

-- nothing was removed: refused, or a fault
pub denied_remove : (limits : Bounds) (books : Books) (name uid : List ℕ) (expect : Option ℕ)
    (found : Result Book Refusal) (denied : Denied) (old new : Books)
    → FollowsStep {T = ℕ} {A = ℕ} IsExactly (Err denied) (found >>= removal_number_in limits uid
    expect) → new ≡ old
    → MatchesStep (Err denied) (found >>= remove_of limits books name uid expect) old new
denied_remove limits books name uid expect (Ok book) denied old new returned same =
    denied_does (removal_number_in limits uid expect book) (λ number. (
      number,
      finite.insert books name (book_after_change book uid (TakesAway Deletion)),
    )) denied old new
    returned same
denied_remove limits books name uid expect (Err wanted) (Refused refusal) old new returned same =
    (returned, same)
denied_remove limits books name uid expect (Err wanted) (Fault fault) old new returned same = same

pub fault_removes : (limits : Bounds) (rows : TableRows) (name uid : List ℕ) (expect : Option ℕ)
    (denied : Denied) → IsDeniedFault denied
    → IsRemovalPlanned limits rows name uid expect (Err denied)
fault_removes limits rows name uid expect denied fault =
    subst (λ d. IsRemovalPlanned limits rows name uid expect (Err d)) (sym fault.1) tt

module _ (rows : TableRows) (name : List ℕ) (header : HeaderRow) (uid : List ℕ) (limits : Bounds)
    (expect : Option ℕ) (number : ℕ) (drop : Option ℕ)
    (is : removal_number_in limits uid expect (row_book rows (line_row name header)) ≡ Ok number)
    (dropped : forced_horizon (TakesAway Deletion)
    (book_with_row (row_book rows (line_row name header)) uid (TakesAway Deletion)) ≡ drop)
  where
    made : finite.insert (books_of rows) name
        (book_after_drop (book_with_row (row_book rows (line_row name header)) uid
        (TakesAway Deletion)) drop) ≡ finite.insert (books_of rows) name
        (book_after_change (row_book rows (line_row name header)) uid (TakesAway Deletion))
    made = ap (λ d. finite.insert (books_of rows) name
        (book_after_drop (book_with_row (row_book rows (line_row name header)) uid
        (TakesAway Deletion)) d)) (sym dropped)

    pub removed_does : (new : State) (old : Books)
        → HoldsBooks new.now (finite.insert (books_of rows) name
        (book_after_drop (book_with_row (row_book rows (line_row name header)) uid
        (TakesAway Deletion)) drop))
        → MatchesStep (Ok number) (remove_of limits (books_of rows) name uid expect
        (row_book rows (line_row name header))) old (stored_books new)
    removed_does new old held = rw is (refl, held.books_are ∙ made)

    pub removed_holds : (db : Trees) → TreesHold (finite.insert (books_of rows) name
        (book_after_drop (book_with_row (row_book rows (line_row name header)) uid
        (TakesAway Deletion)) drop)) db
        → HoldBooksAfter (remove_of limits (books_of rows) name uid expect
        (row_book rows (line_row name header))) db
    removed_holds db held = rw is (subst (λ books. TreesHold books db) made held)
