-- The rows of the first schema against the migrated tables.
use Rattle.std.proofs.Common.{◌≡◌, inl, inr, ℤ, pos, max, List, [], ◌∷◌, map, length, Ok, Err, IsTrue}
use Rattle.std.proofs.Common.{Result, IfOk, IfErr, IsPermutation, refl, sym, ap, subst, ◌∙◌}
use Rattle.std.specs.Int.{w64}
use Rattle.std.specs.Prelude.{FitsSigned, Vec}
use Rattle.std.specs.declared.alloc.Global.{Global}
use Rattle.std.proofs.lemmas.List.{length-map}
use Rattle.std.proofs.lemmas.List.Sorted.{length_permutation, IsPermutation-map, IsPermutation-sym}
use Rattle.std.proofs.lemmas.List.Sorted.{IsPermutation-trans}
use Rattle.sqlite.specs.declared.types.Value.{Value}
use Rattle.sqlite.specs.declared.types.Value.TheVariants.{Null, Int, Real, Text, Blob}
use Rattle.sqlite.specs.Effect.{Database}
use Rattle.sqlite.specs.Order.{Row, column}
use Rattle.sqlite.specs.State.{State, HasCleanDisk, Survives}
use Rattle.sqlite.specs.Tree.{Trees}
use Rattle.sqlite.proofs.Callers.{one_permutation}
use Rattle.sqlite_rules.specs.Edit.{id_in}
use Rattle.sqlite_trees.proofs.ListLemmas.{map-map, IsPermutation-filter}
use Rattle.sqlite_trees.specs.View.{is_int}
use Rattle.book_model.specs.Bounds.{Bounds}
use Rattle.store_tables.specs.Books.{BookRow, book_listed}
use Rattle.store_tables.specs.Imports.{import_cells}
use Rattle.store_tables.specs.Keeps.{keep_cells, keep_listed, keep_row, keep_row_of}
use Rattle.store_tables.specs.Members.{MemberRow, is_removed_above, member_cells}
use Rattle.store_rows.specs.TableRows.{load_book, load_member, rows_in}
use Rattle.store_check.specs.OpenResults.{IsRowCheckResult}
use Rattle.store_check.specs.RowChecks.{AreWellStored, HasNumber, decode_book}
use Rattle.store_check.specs.ListedRows.{AreListedRows, WellStoredAreHeld}
use Rattle.store_schema.specs.FirstSchema.{IsFirstSchema, first_number}
use Rattle.store_schema.specs.OpenFaults.{ComesFromOutside}
use Rattle.store_schema.specs.declared.open_fault.OpenFault.{OpenFault}
use Rattle.store_schema.specs.declared.open_fault.OpenFault.TheVariants.{Store, NotOurs}
use Rattle.store_schema.specs.declared.open_fault.OpenFault.TheVariants.{OtherSchema, Damaged}
use Rattle.store_schema.specs.declared.open_fault.OpenFault.TheVariants.{NotEmpty, Memory}
use Rattle.store_tables.specs.Meta.{meta_listed, schema_row}
use Rattle.store_tables.proofs.FailureLemmas.{outside_later}
use Rattle.store_migration.specs.internal.FirstRows.{AreListedFirstRows, id_cell, meta_cells}
use Rattle.store_migration.specs.Migration.{HaveRowIds, IsMigrationRefusal, IsMigrated}
use Rattle.store_migration.specs.Migration.{MigratesWellFormed}
use Rattle.store_migration.specs.internal.MigrationPlans.{HasMetaId, IsMigrationPlan}
use Rattle.store_migration.specs.internal.MigrationPlans.{IsKeepsCheckResult}
use Rattle.store_migration.specs.InitialKeeps.{initial_keep_from, initial_keep, cells_of_keep}
use Rattle.store_migration.specs.InitialKeeps.{initial_keeps, initial_keep_rows, book_tombstones}

-- ---- the keeps

module _ (db : Database) (books members imports : List Row) (listed :
    AreListedFirstRows db books members imports) where
  abbrev stored_members : List MemberRow
  stored_members = map load_member (db.trees 4)

  abbrev shown_members : List MemberRow
  shown_members = map load_member members

  same_books : IsPermutation (map load_book (db.trees 2)) (map decode_book books)
  same_books = subst (λ l. IsPermutation l (map decode_book books)) (map-map decode_book book_listed
      (db.trees 2)) (IsPermutation-map decode_book _ _ listed.all_books)

  same_members : IsPermutation stored_members shown_members
  same_members = subst (λ l. IsPermutation l shown_members) (map-map load_member member_cells
      (db.trees 4)) (IsPermutation-map load_member _ _ listed.all_members)

  same_remembered : (b : BookRow) → book_tombstones stored_members b ≡ book_tombstones shown_members
      b
  same_remembered b =
      sym (length_permutation _ _ (IsPermutation-filter (is_removed_above b.id b.numbers.horizon)
      stored_members shown_members same_members))

  pub same_keeps : IsPermutation (initial_keeps (rows_in db.trees)) (map (initial_keep_from members)
      books)
  same_keeps =
      let one : map (initial_keep stored_members) (map load_book (db.trees 2))
      ≡ map (initial_keep shown_members) (map load_book (db.trees 2)) =
      λ i. map (λ (b : BookRow). keep_row_of b.id (pos (max 10000 (same_remembered b i))))
      (map load_book (db.trees 2)) in
      let two = IsPermutation-map (initial_keep shown_members) _ _ same_books in
      subst (λ l. IsPermutation l (map (initial_keep_from members) books)) (sym one)
      (subst (IsPermutation (map (initial_keep shown_members) (map load_book (db.trees 2))))
      (map-map (initial_keep shown_members) decode_book books) two)

  returned_of : initial_keep_rows books members ≡ map cells_of_keep (map (initial_keep_from members)
      books)
  returned_of = sym (map-map cells_of_keep (initial_keep_from members) books)

  -- the rows of the migrated tables
  pub listed_after : (new : Database) → IsMigrated db new
      → AreListedRows new books members imports (initial_keep_rows books members)
  listed_after new made =
      let shown = subst (λ l. IsPermutation l (map keep_listed (map keep_cells (new.trees 9))))
      (map-map keep_listed keep_row (initial_keeps (rows_in db.trees)))
      (IsPermutation-map keep_listed _ _ made.keeps_are) in
      let stored : IsPermutation (map cells_of_keep (initial_keeps (rows_in db.trees)))
      (map keep_listed (new.trees 9)) =
      subst (IsPermutation (map cells_of_keep (initial_keeps (rows_in db.trees))))
      (map-map keep_listed keep_cells (new.trees 9)) shown in
      let keep_rows = subst (IsPermutation (map cells_of_keep (initial_keeps (rows_in db.trees))))
      (sym returned_of) (IsPermutation-map cells_of_keep _ _ same_keeps) in
      record {
        all_books = subst (λ rows. IsPermutation (map book_listed rows) books) (sym made.books)
            listed.all_books;
        all_members = subst (λ rows. IsPermutation (map member_cells rows) members)
            (sym made.members) listed.all_members;
        all_imports = subst (λ rows. IsPermutation (map import_cells rows) imports)
            (sym made.imports) listed.all_imports;
        all_keeps = IsPermutation-trans _ _ _ (IsPermutation-sym _ _ stored) keep_rows;
      }

  module _ (limits : Bounds) (law : WellStoredAreHeld) (first : IsFirstSchema db) where
    pub planned : HasMetaId db → (keeps : List Row) → keeps ≡ initial_keep_rows books members
        → AreWellStored limits books members imports (initial_keep_rows books members)
        → IsMigrationPlan limits db keeps
    planned numbered keeps returned well = record {
      first = first;
      numbered = numbered;
      keep_rows = map (initial_keep_from members) books;
      returned = returned ∙ returned_of;
      same = same_keeps;
      count = ap length returned ∙ length-map books _ ∙ length_permutation _ _ listed.all_books
          ∙ length-map (db.trees 2) book_listed;
      makes_well_formed = λ new made. (law limits new books members imports
          (initial_keep_rows books members) (record { schema = made.schema; meta = made.meta })
          (listed_after new made)).0 (made.obeys, well);
    }

    pub due_of : (fault : OpenFault) → IsRowCheckResult limits books members imports
        (initial_keep_rows books members) (Err fault) → IsMigrationRefusal limits db fault
    due_of Store h = absurd h
    due_of NotOurs h = absurd h
    due_of (OtherSchema has) h = absurd h
    due_of Damaged h = (
      first,
      λ new made held. h ((law limits new books members imports
          (initial_keep_rows books members) (record { schema = made.schema; meta = made.meta })
          (listed_after new made)).1 held).1,
    )
    due_of NotEmpty h = absurd h
    due_of Memory h = tt

    -- the result of testing the keeps
    pub keeps_planned : HasMetaId db → (r : Result (Vec Row Global) OpenFault)
        → IsKeepsCheckResult limits books members imports r
        → IfOk r (λ keeps. IsMigrationPlan limits db keeps.items)
    keeps_planned numbered (Ok keeps) returned = planned numbered keeps.items returned.0 returned.1
    keeps_planned numbered (Err fault) returned = tt

    pub keeps_refused : (r : Result (Vec Row Global) OpenFault)
        → IsKeepsCheckResult limits books members imports r → IfErr r (IsMigrationRefusal limits db)
    keeps_refused (Ok keeps) returned = tt
    keeps_refused (Err fault) returned = due_of fault returned

    -- tables that can be migrated are refused only for lack of memory
    pub keeps_outside : MigratesWellFormed limits db → (r : Result (Vec Row Global) OpenFault)
        → IsKeepsCheckResult limits books members imports r → IfErr r (λ fault. fault ≡ Memory)
    keeps_outside can (Ok keeps) returned = tt
    keeps_outside can (Err Store) returned = absurd returned
    keeps_outside can (Err NotOurs) returned = absurd returned
    keeps_outside can (Err (OtherSchema has)) returned = absurd returned
    keeps_outside can (Err Damaged) returned =
        absurd ((due_of Damaged returned).1 can.0 can.1 can.2)
    keeps_outside can (Err NotEmpty) returned = absurd returned
    keeps_outside can (Err Memory) returned = refl

-- ---- faults

-- the fault of a later read
pub later_fault : (a b c : State) (P Q : Trees → Type 0) (fault : OpenFault) → Survives a b P
    → HasCleanDisk b → Survives b c Q → ComesFromOutside b c fault → ComesFromOutside a c fault
later_fault a b c P Q fault before clean after (inl memory) = inl memory
later_fault a b c P Q fault before clean after (inr (is, cause)) =
    inr (is, outside_later a b c P Q before clean after cause)

pub later_faults : {T : Type 0} (a b c : State) (P Q : Trees → Type 0) (r : Result T OpenFault)
    → Survives a b P → HasCleanDisk b → Survives b c Q → IfErr r (ComesFromOutside b c)
    → IfErr r (ComesFromOutside a c)
later_faults a b c P Q (Ok x) before clean after h = tt
later_faults a b c P Q (Err fault) before clean after h =
    later_fault a b c P Q fault before clean after h

-- ---- the row of the table `meta`

int_of : (v : Value) → IsTrue (is_int v) → v ≡ Int (id_in v)
int_of Null h = absurd (let e = h in cc)
int_of (Int n) h = refl
int_of (Real x) h = absurd (let e = h in cc)
int_of (Text t) h = absurd (let e = h in cc)
int_of (Blob b) h = absurd (let e = h in cc)

-- it is one, with a number as its id
pub meta_row : (db : Database) (rows : List Row) → IsFirstSchema db → HaveRowIds (db.trees 0)
    → IsPermutation (map id_cell (db.trees 0)) rows
    → (row : Row) × (rows ≡ row ∷ []) × HasNumber 0 row
meta_row db rows first ids same = go (db.trees 0) first.meta ids same
  where
    go : (stored : List Row) → map meta_listed stored ≡ schema_row first_number ∷ []
        → HaveRowIds stored → IsPermutation (map id_cell stored) rows
        → (row : Row) × (rows ≡ row ∷ []) × HasNumber 0 row
    go [] e ids same = absurd cc
    go (r ∷ []) e ids same = (
      id_cell r,
      one_permutation (id_cell r) rows same,
      int_of (column r 0)
          ids.0,
    )
    go (r ∷ q ∷ qs) e ids same = absurd cc

-- the one row, with its id
one_row : (number : ℤ) (id : ℤ) (rows : List Row) → map meta_listed rows ≡ schema_row number ∷ []
    → map id_cell rows ≡ (Int id ∷ []) ∷ [] → map meta_cells rows ≡ (Int id ∷ schema_row number) ∷
    []
one_row number id [] says ids = absurd cc
one_row number id (r ∷ []) says ids =
    let first : id_cell r ≡ Int id ∷ [] = cc in
    let rest : meta_listed r ≡ schema_row number = cc in
    let at : column r 0 ≡ Int id = ap (λ cells. column cells 0) first in
    λ i. (at i ∷ rest i) ∷ []
one_row number id (r ∷ q ∷ qs) says ids = absurd cc

pub has_id : (db : Database) (rows : List Row) (row : Row) (id : ℤ) → IsFirstSchema db
    → IsPermutation (map id_cell (db.trees 0)) rows → rows ≡ row ∷ [] → column row 0 ≡ Int id
    → FitsSigned w64 id → HasMetaId db
has_id db rows row id first same is number fits =
    let alone : map id_cell (db.trees 0) ≡ row ∷ [] =
    one_permutation row (map id_cell (db.trees 0))
    (IsPermutation-sym _ _ (subst (IsPermutation (map id_cell (db.trees 0))) is same)) in
    record {
      id = id;
      one = one_row first_number id (db.trees 0) first.meta
          (ids (db.trees 0) row alone number);
      fits = fits;
    }
  where
    ids : (rows : List Row) (row : Row) → map id_cell rows ≡ row ∷ [] → column row 0 ≡ Int id
        → map id_cell rows ≡ (Int id ∷ []) ∷ []
    ids [] row e number = absurd cc
    ids (r ∷ []) row e number =
        let first : id_cell r ≡ row = cc in
        let at : column r 0 ≡ Int id = ap (λ cells. column cells 0) first ∙ number in
        λ i. (at i ∷ []) ∷ []
    ids (r ∷ q ∷ qs) row e number = absurd cc
