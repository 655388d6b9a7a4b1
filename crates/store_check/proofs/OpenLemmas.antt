-- The result of opening stored tables.
use Rattle.std.proofs.Common.{◌≡◌, ◌≢◌, inl, inr, IsTrue, IfErr, List, map, OnOk, Ok, Err, Result}
use Rattle.std.proofs.Common.{IsPermutation, sym, ap, subst, ◌∙◌}
use Rattle.sqlite.specs.Effect.{Database}
use Rattle.sqlite.specs.Order.{Row}
use Rattle.sqlite.specs.State.{State, HasCleanDisk, IsUnchanged, Survives}
use Rattle.sqlite.specs.Tree.{Trees}
use Rattle.sqlite.specs.declared.error.Error.{Error}
use Rattle.sqlite.specs.declared.error.Error.TheVariants.{SqliteFailure}
use Rattle.sqlite.specs.declared.error.ErrorCode.TheVariants.{OutOfMemory}
use Rattle.sqlite.proofs.StateLemmas.{survives_then}
use Rattle.book_model.specs.Bounds.{Bounds}
use Rattle.store_tables.specs.Books.{book_listed}
use Rattle.store_tables.specs.Failures.{HasOutsideCause}
use Rattle.store_tables.specs.Imports.{import_cells}
use Rattle.store_tables.specs.Keeps.{keep_listed}
use Rattle.store_tables.specs.StatementEffects.{OnlyReads, GivenTables}
use Rattle.store_tables.specs.Tables.{book_schema}
use Rattle.store_tables.proofs.FailureLemmas.{outside_later}
use Rattle.store_tables.proofs.SchemaCreationLemmas.{clean_before}
use Rattle.store_tables.proofs.Lookups.{reads_then}
use Rattle.store_rows.specs.SoundTables.{HoldsWellFormed}
use Rattle.store_schema.specs.OpenFaults.{ComesFromOutside, IsErrorFault}
use Rattle.store_schema.specs.StoredSchema.{ChangesNothing, IsCurrentSchema, ClassifiesSchema}
use Rattle.store_schema.specs.declared.open_fault.OpenFault.{OpenFault}
use Rattle.store_schema.specs.declared.open_fault.OpenFault.TheVariants.{Store, NotOurs}
use Rattle.store_schema.specs.declared.open_fault.OpenFault.TheVariants.{OtherSchema, Damaged}
use Rattle.store_schema.specs.declared.open_fault.OpenFault.TheVariants.{NotEmpty, Memory}
use Rattle.store_check.specs.FaultSearches.{IsSearchFault}
use Rattle.store_check.specs.OpenResults.{OpensWellFormed}
use Rattle.store_check.specs.ListedRows.{AreBookRows}

-- ---- faults of the search

-- an error of the schema test is the result for the tables
pub schema_searched : (db : Database) (fault : OpenFault) → ClassifiesSchema db (Err fault)
    → IsSearchFault db fault
schema_searched db Store h = tt
schema_searched db NotOurs h = h
schema_searched db (OtherSchema has) h = h
schema_searched db Damaged h = absurd h
schema_searched db NotEmpty h = absurd h
schema_searched db Memory h = tt

pub error_searched : (db : Database) (fault : OpenFault) → IsErrorFault fault
    → IsSearchFault db fault
error_searched db fault (inl h) = subst (IsSearchFault db) (sym h) tt
error_searched db fault (inr h) = subst (IsSearchFault db) (sym h) tt

-- ---- the cause of a fault

if_err : {T E : Type 0} (r : Result T E) (P Q : E → Type 0) → ((e : E) → P e → Q e) → IfErr r P
    → IfErr r Q
if_err (Ok x) P Q f h = tt
if_err (Err e) P Q f h = f e h

-- tables that hold well-formed books are a store's
pub ours_of_held : (limits : Bounds) (db : Database) → HoldsWellFormed limits db
    → IsCurrentSchema db
ours_of_held limits db held = record { schema = held.holds.schema; meta = held.holds.meta }

pub only_memory : {T : Type 0} (old new : State) (r : Result T OpenFault)
    → IfErr r (λ fault. fault ≡ Memory) → IfErr r (ComesFromOutside old new)
only_memory old new r = if_err r (λ fault. fault ≡ Memory) (ComesFromOutside old new)
    (λ fault memory. inl memory)

-- a fault of a later read
later_fault : (a b c : State) (P Q : Trees → Type 0) (fault : OpenFault) → Survives a b P
    → HasCleanDisk b → Survives b c Q → ComesFromOutside b c fault → ComesFromOutside a c fault
later_fault a b c P Q fault before clean after (inl memory) = inl memory
later_fault a b c P Q fault before clean after (inr (is, cause)) =
    inr (is, outside_later a b c P Q before clean after cause)

-- a read that follows one that changed nothing
pub fails_after : (a b c : State) (e : Error) → GivenTables a b (IsUnchanged a b) → OnlyReads a b
    → OnlyReads b c → GivenTables b c (e ≢ SqliteFailure OutOfMemory → HasOutsideCause b c)
    → GivenTables a c (e ≢ SqliteFailure OutOfMemory → HasOutsideCause a c)
fails_after a b c e same first next fails clean has room =
    let early = clean_before _ b c next.survives clean in
    let still = ap (λ (d : Database). d.schema) (same early has).0.now_is ∙ has in
    outside_later a b c _ _ first.survives early next.survives (fails clean still room)

-- the rows were listed, and then tested
pub opens_listed : {T : Type 0} (a b c : State) (limits : Bounds) (books imports keeps : List Row)
    (r : Result T OpenFault) → GivenTables a b (IsUnchanged a b) → OnlyReads a b → OnlyReads b c
    → GivenTables a b (AreBookRows a.now books imports keeps)
    → (HasCleanDisk c → HoldsWellFormed limits b.now → AreBookRows b.now books imports keeps
    → IfErr r (ComesFromOutside b c)) → OpensWellFormed limits a c r
opens_listed a b c limits books imports keeps r same first left listed opens clean held =
    let early = clean_before _ b c left.survives clean in
    let now = sym (same early held.holds.schema).0.now_is in
    if_err r _ _ (λ fault. later_fault a b c _ _ fault first.survives early left.survives)
    (opens clean (subst (HoldsWellFormed limits) now held)
    (subst (λ (db : Database). AreBookRows db books imports keeps) now
    (listed early held.holds.schema)))

-- the schema was tested, and then the rows
pub opens_tested : {T : Type 0} (a b c : State) (limits : Bounds) (r : Result T OpenFault)
    → (HasCleanDisk b → IsUnchanged a b) → ChangesNothing a b → OnlyReads b c
    → OpensWellFormed limits b c r → OpensWellFormed limits a c r
opens_tested a b c limits r kept before after opens clean held =
    let early = clean_before _ b c after.survives clean in
    if_err r _ _ (λ fault. later_fault a b c _ _ fault before.survives early after.survives)
    (opens clean (subst (HoldsWellFormed limits) (sym (kept early).0.now_is) held))

-- ---- reads

-- one read after another that changed nothing
pub unchanged_then : (a b c : State) → GivenTables a b (IsUnchanged a b)
    → GivenTables b c (IsUnchanged b c) → OnlyReads b c → GivenTables a c (IsUnchanged a c)
unchanged_then a b c first next left clean has =
    let before = first (clean_before _ b c left.survives clean) has in
    let after = next clean (ap (λ (d : Database). d.schema) before.0.now_is ∙ has) in (
      record {
        was_open = before.0.was_open;
        is_open = after.0.is_open;
        now_is = after.0.now_is ∙ before.0.now_is;
        committed_is = after.0.committed_is ∙ before.0.committed_is;
        mode = after.0.mode ∙ before.0.mode;
      },
      record {
        changes = after.1.changes ∙ before.1.changes;
        last_rowid = after.1.last_rowid
            ∙ before.1.last_rowid;
      },
      after.2 ∙ before.2,
    )

-- a read that follows one that changed nothing: the connection was open
pub answered_open : {A E : Type 0} (a b c : State) (r : Result A E)
    → (HasCleanDisk b → IsUnchanged a b) → OnlyReads b c → HasCleanDisk c
    → OnOk r (IsTrue a.is_open)
answered_open a b c (Ok x) first left clean =
    (first (clean_before _ b c left.survives clean)).0.was_open
answered_open a b c (Err e) first left clean = tt

-- a property of the database after such a read holds of it before
pub over_then : (a b c : State) (P : Database → Type 0) → GivenTables a b (IsUnchanged a b)
    → OnlyReads b c → GivenTables b c (P b.now) → GivenTables a c (P a.now)
over_then a b c P first left returned clean has =
    let before = first (clean_before _ b c left.survives clean) has in
    subst P before.0.now_is (returned clean (ap (λ (d : Database). d.schema) before.0.now_is ∙ has))

-- ---- the four tables, one after another

-- the third, whether it succeeds or fails
pub reads_third : (a b c d : State) → GivenTables a b (IsUnchanged a b)
    → GivenTables b c (IsUnchanged b c) → OnlyReads a b → OnlyReads b c → OnlyReads c d
    → OnlyReads a d
reads_third a b c d ab bc left_ab left_bc left_cd =
    reads_then a c d (reads_then a b c left_ab ab left_bc) (unchanged_then a b c ab bc left_bc)
    left_cd

module _ (a b c d : State) (ab : GivenTables a b (IsUnchanged a b)) (bc :
    GivenTables b c (IsUnchanged b c)) (left_ab : OnlyReads a b) (left_bc : OnlyReads b c)
    (left_cd : OnlyReads c d) where
  ac : GivenTables a c (IsUnchanged a c)
  ac = unchanged_then a b c ab bc left_bc

  pub all_unchanged : GivenTables c d (IsUnchanged c d) → GivenTables a d (IsUnchanged a d)
  all_unchanged cd = unchanged_then a c d ac cd left_cd

  pub lists_three : (books imports keeps : List Row)
      → GivenTables a b (IsPermutation (map book_listed (a.now.trees 2)) books)
      → GivenTables b c (IsPermutation (map import_cells (b.now.trees 7)) imports)
      → GivenTables c d (IsPermutation (map keep_listed (c.now.trees 9)) keeps)
      → GivenTables a d (AreBookRows a.now books imports keeps)
  lists_three books imports keeps first second third clean has =
      let clean_c = clean_before _ c d left_cd.survives clean in
      let clean_b = clean_before _ b c left_bc.survives clean_c in
      record {
        all_books = first clean_b has;
        all_imports = over_then a b c (λ db. IsPermutation (map import_cells (db.trees 7)) imports)
            ab left_bc second clean_c has;
        all_keeps = over_then a c d (λ db. IsPermutation (map keep_listed (db.trees 9)) keeps) ac
            left_cd third clean has;
      }

-- the rows were listed, and then tested
pub opened_later : (a b c : State) (Opens : Database → Type 0) (books imports keeps : List Row)
    → GivenTables a b (IsUnchanged a b) → OnlyReads b c
    → GivenTables a b (AreBookRows a.now books imports keeps)
    → (HasCleanDisk c → IsCurrentSchema b.now → IsTrue b.is_open
    → AreBookRows b.now books imports keeps → Opens b.now)
    → HasCleanDisk c → IsCurrentSchema a.now → Opens a.now
opened_later a b c Opens books imports keeps same left listed answers clean ours =
    let early = clean_before _ b c left.survives clean in
    let before = same early ours.schema in
    let now = before.0.now_is in
    subst Opens now
    (answers clean (subst IsCurrentSchema (sym now) ours) before.0.is_open
    (subst (λ (db : Database). AreBookRows db books imports keeps) (sym now)
    (listed early ours.schema)))

-- ---- the schema was tested, and then the rows

module _ (a b c : State) (ours : HasCleanDisk b → IsCurrentSchema a.now) (kept : HasCleanDisk b
    → IsUnchanged a b) (after : OnlyReads b c) where
  early : HasCleanDisk c → HasCleanDisk b
  early = clean_before _ b c after.survives

  still : HasCleanDisk c → b.now.schema ≡ book_schema
  still clean = ap (λ (d : Database). d.schema) (kept (early clean)).0.now_is
      ∙ (ours (early clean)).schema

  pub tables_opened : (Opens : Database → Type 0) → (HasCleanDisk c → IsCurrentSchema b.now
      → Opens b.now) → HasCleanDisk c → Opens a.now
  tables_opened Opens returned clean =
      let now = (kept (early clean)).0.now_is in
      subst Opens now (returned clean (subst IsCurrentSchema (sym now) (ours (early clean))))

  pub nothing_then : ChangesNothing a b → ChangesNothing a c
  nothing_then before = record {
    mode = λ h. after.mode (before.mode h);
    was_open = λ clean up. before.was_open (early clean) (after.was_open clean up);
    survives = survives_then a b c _ _ _ (λ _ db none. none) (λ _ db none. none) before.survives
        after.survives;
    same = λ clean up settled.
        let was = kept (early clean) in
        let later = after.same clean (still clean) up (λ _. was.0.now_is ∙ settled was.0.was_open
        ∙ sym was.0.committed_is) in
        record {
          was_open = was.0.was_open;
          now_is = later.now_is ∙ was.0.now_is;
          committed_is = later.committed_is ∙ was.0.committed_is;
        };
  }
