-- What the tests of all rows say of the tables.
use Rattle.std.proofs.Common.{◌≡◌, ◌↔◌, Bool, true, false, true≢false, List, Ok, Err, Vec, map}
use Rattle.std.proofs.Common.{IsTrue, IsPermutation, sym, ◌∙◌}
use Rattle.std.specs.declared.alloc.Global.{Global}
use Rattle.std.proofs.lemmas.List.Sorted.{IsPermutation-refl}
use Rattle.std.specs.List.{AllByRecursion}
use Rattle.sqlite.specs.Effect.{Database}
use Rattle.sqlite.specs.Order.{Row}
use Rattle.sqlite_trees.proofs.ListLemmas.{all-map, all_both, all_from_map, all_weaker}
use Rattle.book_model.specs.BookNames.{is_legal_name}
use Rattle.book_model.specs.Bounds.{Bounds}
use Rattle.store_tables.specs.Tables.{ObeyTables}
use Rattle.store_tables.specs.Members.{MemberRow, member_cells}
use Rattle.store_rows.specs.SoundTables.{HoldsWellFormed}
use Rattle.store_rows.specs.TableBooks.{books_in}
use Rattle.store_rows.specs.TableRows.{load_member}
use Rattle.store_schema.specs.StoredSchema.{IsCurrentSchema}
use Rattle.store_check.specs.BookChecks.{IsCheckedBook}
use Rattle.store_check.specs.declared.counts.TombstoneCount.{TombstoneCount}
use Rattle.store_check.specs.declared.faults.FaultyRow.{FaultyRow}
use Rattle.store_check.specs.FaultSearches.{AreFaulty, FaultyAreNotStored}
use Rattle.store_check.specs.declared.tallies.BookTally.{BookTally}
use Rattle.store_check.specs.ListedRows.{AreBookRows, AreListedRows}
use Rattle.store_check.specs.MemberScans.{TestedMembers}
use Rattle.store_check.specs.MemberTallies.{AreCounted, IsGoodMember}
use Rattle.store_check.specs.RowChecks.{AreWellStored, IsBookAnd, IsMemberRow, IsValidMember}
use Rattle.store_check.specs.RowChecks.{decode_book}
use Rattle.store_check.specs.RowFaults.{IsFaultyRow}
use Rattle.store_check.specs.StoredTests.{HaveMemberKeys, PassAllTests, PassBookTests}
use Rattle.store_check.specs.StoredTests.{PassMemberTests}
use Rattle.store_check.specs.TombstoneCounts.{AreTombstoneCounts, count_entry, removed_entry}
use Rattle.store_check.proofs.CountLemmas.{counts_held}
use Rattle.store_check.proofs.FaultLemmas.{faulty_fails}
use Rattle.store_check.proofs.ListedLemmas.{rows_are_held, well_stored_held}
use Rattle.store_check.proofs.MemberKeyLemmas.{keys_hold}
use Rattle.store_check.proofs.StoredLemmas.{good_of_stored, keys_of_stored, well_stored}

-- ---- rows pass all tests exactly if they are well stored

module _ (limits : Bounds) (books members imports keeps : List Row) where
  abbrev GoodRow : Row → Type 0
  GoodRow = IsGoodMember (map decode_book books)

  abbrev BookOf : Row → Type 0
  BookOf r = IsBookAnd (map decode_book books) (load_member r).book (IsValidMember (load_member r))

  tests_stored : PassAllTests limits books members imports keeps
      → AreWellStored limits books members imports keeps
  tests_stored t = well_stored limits books members imports keeps
      (record {
        each_book = t.own.each_book;
        each_member = all_weaker GoodRow IsMemberRow (λ r h. h.0) members t.passed.good;
        each_import = t.own.each_import;
        each_keep = t.own.each_keep;
      })
      (record {
        books = t.own.book_keys;
        members = t.keys.keys;
        apart = t.keys.apart;
        imports = t.own.import_keys;
        keeps = t.own.keep_keys;
      })
      (record {
        few = t.own.few;
        books = t.passed.checked;
        members = all-map (λ (m : MemberRow). IsBookAnd (map decode_book books) m.book
            (IsValidMember m)) load_member members (all_weaker GoodRow BookOf (λ r h. h.1) members
            t.passed.good);
        imports = t.own.valid_imports;
        keeps = t.own.listed_keeps;
      })

  stored_tests : AreWellStored limits books members imports keeps
      → PassAllTests limits books members imports keeps
  stored_tests w =
      let keys = keys_of_stored limits books members imports keeps w in
      let good = good_of_stored limits books members imports keeps w in
      record {
        own = record {
          each_book = w.shown.each_book;
          each_import = w.shown.each_import;
          each_keep = w.shown.each_keep;
          book_keys = keys.books;
          import_keys = keys.imports;
          keep_keys = keys.keeps;
          few = good.few;
          valid_imports = good.imports;
          listed_keeps = good.keeps;
        };
        keys = record { keys = keys.members; apart = keys.apart };
        passed = record {
          good = all_both IsMemberRow BookOf GoodRow (λ r h k. (h, k)) members w.shown.each_member
              (all_from_map (λ (m : MemberRow). IsBookAnd (map decode_book books) m.book
              (IsValidMember m)) load_member members good.members);
          checked = good.books;
        };
      }

  -- rows that fail one of the tests
  pub fails_one : (P : Type 0) (passes : Bool) → (IsTrue passes ↔ P) → passes ≡ false
      → (PassAllTests limits books members imports keeps → P)
      → IsTrue false ↔ AreWellStored limits books members imports keeps
  fails_one P passes h none wanted = (
    λ t. absurd (true≢false (sym t)),
    λ w. sym none
        ∙ h.1 (wanted (stored_tests w)),
  )

  -- rows that pass all but the last
  pub last_decides : (passes : Bool) → PassBookTests limits books imports keeps
      → HaveMemberKeys members → (IsTrue passes ↔ PassMemberTests limits books members keeps)
      → IsTrue passes ↔ AreWellStored limits books members imports keeps
  last_decides passes own keys h = (
    λ t. tests_stored (record {
      own = own;
      keys = keys;
      passed = h.0 t;
    }),
    λ w. h.1 (stored_tests w).passed,
  )

-- ---- the tables

module _ (limits : Bounds) (db : Database) (books imports keeps : List Row) (ours :
    IsCurrentSchema db) (listed : AreBookRows db books imports keeps) where
  with_members : (rows : List Row) → IsPermutation (map member_cells (db.trees 4)) rows
      → AreListedRows db books rows imports keeps
  with_members rows all = record {
    all_books = listed.all_books;
    all_members = all;
    all_imports = listed.all_imports;
    all_keeps = listed.all_keeps;
  }

  all_tests : (rows : List Row) → IsPermutation (map member_cells (db.trees 4)) rows
      → HoldsWellFormed limits db → PassAllTests limits books rows imports keeps
  all_tests rows all held = stored_tests limits books rows imports keeps
      ((well_stored_held limits db books rows imports keeps ours (with_members rows all)).1 held).1

  -- the rows of books, imports and keeps of well-formed books pass their tests
  pub own_of_held : HoldsWellFormed limits db → PassBookTests limits books imports keeps
  own_of_held held = (all_tests (map member_cells (db.trees 4)) (IsPermutation-refl _) held).own

  -- the names of well-formed books are legal
  pub legal_names : HoldsWellFormed limits db → AllByRecursion (λ b. is_legal_name b.name ≡ true)
      (map decode_book books)
  legal_names held =
      all_weaker (IsCheckedBook limits _ _ _) (λ b. is_legal_name b.name ≡ true) (λ b h. h.legal)
      (map decode_book books)
      (all_tests (map member_cells (db.trees 4)) (IsPermutation-refl _) held).passed.checked

  -- one of the rows is faulty
  are_faulty : (f : FaultyRow) (rows : List Row)
      → IsPermutation (map member_cells (db.trees 4)) rows
      → IsFaultyRow limits books rows imports keeps f → AreFaulty limits db f
  are_faulty f rows all faulty = record {
    ours = ours;
    damaged = λ held. faulty_fails limits books rows imports keeps (all_tests rows all held) f
        faulty;
    held = record {
      books = books;
      members = rows;
      imports = imports;
      keeps = keeps;
      listed = with_members rows all;
      faulty = faulty;
    };
  }

  pub listed_faulty : (f : FaultyRow)
      → ((members : List Row) → IsFaultyRow limits books members imports keeps f)
      → AreFaulty limits db f
  listed_faulty f h = are_faulty f (map member_cells (db.trees 4)) (IsPermutation-refl _)
      (h (map member_cells (db.trees 4)))

  pub tested_faulty : (f : FaultyRow) → TestedMembers (db.trees 4) limits books keeps (Err f)
      → AreFaulty limits db f
  tested_faulty f t = are_faulty f t.rows t.all (t.faulty imports)

  module _ (obeys : ObeyTables db.trees) (own : PassBookTests limits books imports keeps) where
    -- the rows that were counted are well stored
    stored_rows : (tallies : Vec BookTally Global) (t : TestedMembers (db.trees 4) limits books
        keeps (Ok tallies)) → AreWellStored limits books t.rows imports keeps
    stored_rows tallies t =
        let passed = t.passed.0 in
        let keys = keys_hold db.trees obeys.obeys t.rows t.all t.passed.1.rising
        (all_weaker (IsGoodMember (map decode_book books)) IsMemberRow (λ r h. h.0) t.rows
        passed.good) in
        tests_stored limits books t.rows imports keeps (record {
          own = own;
          keys = keys;
          passed = passed;
        })

    -- the counts were listed from the tallies
    abbrev pub IsListing : List BookTally → List TombstoneCount → Type 0
    IsListing tallies counts = (ms : List MemberRow) → AreCounted ms (map decode_book books) tallies
        → map count_entry counts ≡ map (removed_entry ms) (map decode_book books)

    pub tests_pass : (tallies : Vec BookTally Global) (counts : List TombstoneCount)
        → TestedMembers (db.trees 4) limits books keeps (Ok tallies)
        → IsListing tallies.items counts
        → HoldsWellFormed limits db × AreTombstoneCounts (books_in db.trees) counts
    tests_pass tallies counts t listing =
        let stored = stored_rows tallies t in
        let all = with_members t.rows t.all in
        let holds = rows_are_held limits db books t.rows imports keeps ours all obeys stored in (
          (well_stored_held limits db books t.rows imports keeps ours all).0 (obeys, stored),
          counts_held limits db books t.rows imports keeps counts holds stored
              (listing (map load_member t.rows) t.passed.1.counted),
        )

-- ---- a faulty row

pub faulty_not_stored : FaultyAreNotStored
faulty_not_stored limits books members imports keeps f faulty w =
    faulty_fails limits books members imports keeps (stored_tests limits books members imports keeps
    w) f faulty
