-- What a store found, over which no connection opens.
use Rattle.std.proofs.Common.{◌≡◌, inl, inr, arith, ℕ, ℤ, Bool, cond, List, [], ◌∷◌, map, Option}
use Rattle.std.proofs.Common.{Some, None, MatchOption, Result, Ok, Err, refl, sym, ap, ap₂, subst}
use Rattle.std.proofs.Common.{◌∙◌}
use Rattle.std.specs.Bool.{⊤}
use Rattle.sqlite.specs.declared.error.Error.TheVariants.{SqliteFailure}
use Rattle.sqlite.specs.declared.error.ErrorCode.TheVariants.{NotADatabase}
use Rattle.sqlite.specs.declared.file.Leftover.{Leftover}
use Rattle.sqlite.specs.declared.file.Leftover.TheVariants as leftover
use Rattle.sqlite.specs.Effect.{Database}
use Rattle.sqlite.specs.Files.{FailsToOpenFiles, HoldsDatabase, IsCleanLeft, LeavesFiles}
use Rattle.sqlite.specs.Files.{file_state, image_of}
use Rattle.sqlite.specs.Held.{Held}
use Rattle.sqlite.specs.Order.{Row}
use Rattle.sqlite.specs.Recovery.{Image}
use Rattle.sqlite.specs.Schema.{Schema}
use Rattle.sqlite.specs.State.{HasCleanDisk, store_error}
use Rattle.sqlite.specs.Tree.{Trees}
use Rattle.sqlite_disk.specs.Events.{Event, replay}
use Rattle.sqlite_disk.specs.declared.Disk.{Ghosts}
use Rattle.sqlite_disk.specs.declared.Files.{Files}
use Rattle.sqlite_store.specs.FileStore.{faults, is_shielded, recovers, view}
use Rattle.sqlite_store.specs.declared.store.FileStore.{FileStore}
use Rattle.sqlite_trees.proofs.Doubt.{clean_of, no_doubt}
use Rattle.sqlite_trees.specs.declared.error.StoreError.{StoreError}
use Rattle.sqlite_trees.specs.declared.error.StoreError.TheVariants as stored
use Rattle.sqlite_trees.specs.declared.store.Direction.TheVariants.{Forward}
use Rattle.sqlite_trees.specs.Tree.{sought}
use Rattle.sqlite_trees.specs.View.{View, IsClean, IsQuiet, with_cursor}
use Rattle.sqlite_value.specs.declared.keys.Order.{Order}
use Rattle.store_tables.specs.Meta.{meta_listed}
use Rattle.store_schema.specs.FileFaults.{FileHas, FileHasNoSchema, HasNoStore, HoldsNoDatabase}
use Rattle.store_schema.specs.FileFaults.{IsFaultOfLeftover, IsFileFault, IsFileRefusal, IsLeftOf}
use Rattle.store_schema.specs.FoundTables.{ClassifiesFound, FindsNoSchema, FindsTables, LoadsSchema}
use Rattle.store_schema.specs.FoundTables.{database_of}
use Rattle.store_schema.specs.OpenFaults.{IsErrorFault}
use Rattle.store_schema.specs.internal.MetaCursor.{IsNextMeta, IsOnlyNumber, meta_cursor}
use Rattle.store_schema.specs.internal.StatedNumber.{IsNumberStated, RowStates}
use Rattle.store_schema.specs.declared.open_fault.OpenFault.{OpenFault}
use Rattle.store_schema.specs.declared.open_fault.OpenFault.TheVariants.{Store, NotOurs}
use Rattle.store_schema.specs.declared.open_fault.OpenFault.TheVariants.{OtherSchema, Damaged}
use Rattle.store_schema.specs.declared.open_fault.OpenFault.TheVariants.{NotEmpty, Memory}

-- ---- the rows of `meta`

no_row : (rows : List Row) → rows ≡ [] → IsNumberStated (map meta_listed rows) None
no_row [] e number row is says = absurd cc
no_row (r ∷ rs) e number row is says = absurd cc

two_rows : (rows : List Row) (a b : Row) (rest : List Row) → rows ≡ a ∷ b ∷ rest
    → IsNumberStated (map meta_listed rows) None
two_rows [] a b rest e number row is says = absurd cc
two_rows (r ∷ []) a b rest e number row is says = absurd cc
two_rows (r ∷ q ∷ qs) a b rest e number row is says = absurd cc

one_row : (rows : List Row) (a row : Row) (said : Option ℤ) → rows ≡ a ∷ [] → row ≡ meta_listed a
    → MatchOption said ((number : ℤ) → ¬ RowStates row number) (RowStates row)
    → IsNumberStated (map meta_listed rows) said
one_row rows a row (Some number) e is h = (
  row,
  ap (map meta_listed) e ∙ ap (λ x. x ∷ []) (sym is),
  h,
)
one_row rows a row None e is h = λ number r alone says.
    let same : r ∷ [] ≡ row ∷ [] = sym alone ∙ ap (map meta_listed) e ∙ ap (λ x. x ∷ []) (sym is) in
    let one : r ≡ row = cc in
    h number (subst (λ x. RowStates x number) one says)

-- a cursor at the beginning has the whole table before it
whole_table : (o : Order) (rows : List Row) → sought o Forward [] rows ≡ rows
whole_table o [] = refl
whole_table o (r ∷ rs) = refl

module _ (v0 v1 : View) (o : Order) (key : Row) (no_key : key ≡ []) (sought_is :
    v1 ≡ with_cursor v0 meta_cursor (sought o Forward key (v0.trees 0))) where
  at_start : v1.cursors meta_cursor ≡ Some (v0.trees 0)
  at_start = ap (λ (v : View). v.cursors meta_cursor) sought_is
      ∙ ap (λ (k : Row). Some (sought o Forward k (v0.trees 0))) no_key
      ∙ ap Some (whole_table o (v0.trees 0))

  pub number_of_rows : (v2 v3 : View) (first second : Option Row) (said : Option ℤ)
      → IsNextMeta v1 v2 first → IsNextMeta v2 v3 second → IsOnlyNumber first second said
      → IsNumberStated (map meta_listed (v0.trees 0)) said
  number_of_rows v2 v3 None second said end after only =
      let same : Some (v0.trees 0) ≡ Some [] = sym at_start ∙ end in
      subst (IsNumberStated (map meta_listed (v0.trees 0))) (sym only) (no_row (v0.trees 0) cc)
  number_of_rows v2 v3 (Some a) (Some b) said (r, rest, r_is, rest_is, a_is) (
    q,
    more,
    q_is,
    more_is,
    b_is,
  ) only =
      let whole : Some (v0.trees 0) ≡ Some (r ∷ rest) = sym at_start ∙ r_is in
      let then : Some rest ≡ Some (q ∷ more) = sym rest_is ∙ q_is in
      let one : v0.trees 0 ≡ r ∷ rest = cc in
      let two : rest ≡ q ∷ more = cc in
      subst (IsNumberStated (map meta_listed (v0.trees 0))) (sym only)
      (two_rows (v0.trees 0) r q more (one ∙ ap (λ l. r ∷ l) two))
  number_of_rows v2 v3 (Some a) None said (r, rest, r_is, rest_is, a_is) end only =
      let whole : Some (v0.trees 0) ≡ Some (r ∷ rest) = sym at_start ∙ r_is in
      let then : Some rest ≡ Some [] = sym rest_is ∙ end in
      let one : v0.trees 0 ≡ r ∷ rest = cc in
      let two : rest ≡ [] = cc in
      one_row (v0.trees 0) r a said (one ∙ ap (λ l. r ∷ l) two) a_is only

-- ---- the schema test over what was found

module _ (Classifies : Database → Result (Unit {0}) OpenFault → Type 0) (Found : Trees
    → Type 0) (trees : Trees) where
  pub no_schema_found : (fault : OpenFault) → LoadsSchema Found trees (Err fault)
      → ClassifiesFound Classifies Found (Err fault)
  no_schema_found Store h = tt
  no_schema_found NotOurs h = inl h
  no_schema_found (OtherSchema has) h = absurd h
  no_schema_found Damaged h = absurd h
  no_schema_found NotEmpty h = absurd h
  no_schema_found Memory h = tt

  tables_found : (schema : Schema) (Fact : Database → Type 0) → LoadsSchema Found trees (Ok schema)
      → Fact (database_of schema trees) → FindsTables Found Fact
  tables_found schema Fact loads fact = record {
    db = database_of schema trees;
    found = loads.0;
    listed = loads.1;
    fact = fact;
  }

  pub schema_found : (schema : Schema) (r : Result (Unit {0}) OpenFault)
      → ((db : Database) → ¬ Classifies db (Err Damaged))
      → ((db : Database) → ¬ Classifies db (Err NotEmpty))
      → LoadsSchema Found trees (Ok schema) → Classifies (database_of schema trees) r
      → ClassifiesFound Classifies Found r
  schema_found schema (Ok done) damaged not_empty loads h =
      tables_found schema (λ db. Classifies db (Ok done)) loads h
  schema_found schema (Err Store) damaged not_empty loads h = tt
  schema_found schema (Err NotOurs) damaged not_empty loads h =
      inr (tables_found schema (λ db. Classifies db (Err NotOurs)) loads h)
  schema_found schema (Err (OtherSchema has)) damaged not_empty loads h =
      tables_found schema (λ db. Classifies db (Err (OtherSchema has))) loads h
  schema_found schema (Err Damaged) damaged not_empty loads h = damaged _ h
  schema_found schema (Err NotEmpty) damaged not_empty loads h = not_empty _ h
  schema_found schema (Err Memory) damaged not_empty loads h = tt

-- ---- the files

-- what the store recovers was found in the files
found_as : {Found Now : Trees → Type 0} {F G : Database → Type 0} → ((trees : Trees) → Found trees
    → Now trees) → ((db : Database) → F db → G db) → FindsTables Found F → FindsTables Now G
found_as was facts h = record {
  db = h.db;
  found = was h.db.trees h.found;
  listed = h.listed;
  fact = facts h.db h.fact;
}

not_of_store : (kind : StoreError) → ¬ (SqliteFailure NotADatabase ≡ store_error kind)
not_of_store stored.OutOfMemory e = absurd cc
not_of_store stored.Io e = absurd cc
not_of_store stored.Corrupt e = absurd cc
not_of_store stored.Full e = absurd cc
not_of_store stored.Broken e = absurd cc
not_of_store stored.Unstorable e = absurd cc

-- a connection was closed with an honest disk
pub still_clean : {D : Type 0} {g : Ghosts D} (conn : Held (FileStore D g)) (last : FileStore D g)
    → IsQuiet view faults recovers is_shielded conn.store last → IsCleanLeft (leftover.Store last)
    → HasCleanDisk (file_state conn)
still_clean conn last quiet is_clean =
    let clean : IsClean (view last) = no_doubt (view last).is_clean is_clean in
    omega (arith, clean, quiet.clean)

-- a store was read with an honest disk, so it had one before
pub store_still_clean : {D : Type 0} {g : Ghosts D} (old new : FileStore D g)
    → IsQuiet view faults recovers is_shielded old new → IsCleanLeft (leftover.Store new)
    → IsCleanLeft (leftover.Store old)
store_still_clean old new quiet is_clean =
    let clean : IsClean (view new) = no_doubt (view new).is_clean is_clean in
    clean_of (view old).is_clean (omega (arith, clean, quiet.clean))

module _ {D : Type 0} {g : Ghosts D} where
  -- files that are no database hold none
  pub no_database : (files : Files D) (rest : Leftover D g)
      → FailsToOpenFiles files rest (SqliteFailure NotADatabase)
      → HoldsNoDatabase (image_of g files)
  no_database files rest (inl memory) trees held = absurd cc
  no_database files rest (inr (inl refused)) trees held = refused.1 (inl (trees, held))
  no_database files rest (inr (inr (inl fault))) trees held = not_of_store _ fault.0
  no_database files rest (inr (inr (inr full))) trees held = absurd (let e = full.0 in cc)

  -- no store was opened over them
  pub unopened_files : (files : Files D) (rest : Leftover D g) → HasNoStore rest
      → IsLeftOf files (SqliteFailure NotADatabase) rest → IsCleanLeft rest → HasNoStore rest
      × HoldsNoDatabase (image_of g files)
  unopened_files files rest none is clean = (none, no_database files rest (is clean).0)

  pub unopened_fault : (Classifies : Database → Result (Unit {0}) OpenFault
      → Type 0) (files : Files D) (rest : Leftover D g) → HasNoStore rest
      → IsLeftOf files (SqliteFailure NotADatabase) rest
      → IsFileFault (image_of g files) rest Classifies (λ _. ⊤) NotOurs
  unopened_fault Classifies files rest none is clean = inl (unopened_files files rest none is clean)

  -- a store was opened over them
  module _ (files : Files D) (old new : FileStore D g) (quiet :
      IsQuiet view faults recovers is_shielded old new)
      (is : IsLeftOf files (SqliteFailure NotADatabase) (leftover.Store old)) where
    was : IsClean (view new) → FailsToOpenFiles files (leftover.Store old)
        (SqliteFailure NotADatabase) × LeavesFiles files (leftover.Store old)
    was clean = is (clean_of (view old).is_clean (omega (arith, quiet.clean)))

    pub holds_none : IsClean (view new) → HoldsNoDatabase (image_of g files)
    holds_none clean = no_database files (leftover.Store old) (was clean).0

    pub listed_none : IsClean (view new) → FindsNoSchema (recovers old)
        → FileHasNoSchema (image_of g files)
    listed_none clean none = record {
      trees = none.trees;
      found = ((was clean).1 none.trees none.found).0;
      unlisted = none.unlisted;
    }

    pub listed_as : (schema : Schema) (trees : Trees) (Fact : Database → Type 0)
        → IsClean (view new) → LoadsSchema (recovers old) trees (Ok schema)
        → Fact (database_of schema trees) → FileHas (image_of g files) Fact
    listed_as schema trees Fact clean loads fact = record {
      db = database_of schema trees;
      found = ((was clean).1 trees loads.0).0;
      listed = loads.1;
      fact = fact;
    }

    tables_in : (F G : Database → Type 0) → IsClean (view new) → ((db : Database) → F db → G db)
        → FindsTables (recovers old) F → FileHas (image_of g files) G
    tables_in F G clean facts h = found_as (λ trees found. ((was clean).1 trees found).0) facts h

    pub damaged_fault : (Classifies : Database → Result (Unit {0}) OpenFault → Type 0)
        → (IsClean (view new) → ClassifiesFound Classifies (recovers old) (Ok tt))
        → IsFileFault (image_of g files) (leftover.Store new) Classifies (λ _. ⊤) Damaged
    damaged_fault Classifies answers is_clean =
        let clean : IsClean (view new) = no_doubt (view new).is_clean is_clean in
        tables_in (λ db. Classifies db (Ok tt)) (λ db. Classifies db (Ok tt)
        × ¬ (⊤ × HoldsDatabase (image_of g files) db.trees)) clean
        (λ db h. (h, λ both. holds_none clean db.trees both.1)) (answers clean)

    pub store_fault : (Classifies : Database → Result (Unit {0}) OpenFault
        → Type 0) (fault : OpenFault) → (IsClean (view new)
        → ClassifiesFound Classifies (recovers old) (Err fault))
        → IsFileFault (image_of g files) (leftover.Store new) Classifies (λ _. ⊤) fault
    store_fault Classifies Store answers is_clean = tt
    store_fault Classifies NotOurs answers is_clean =
        let clean : IsClean (view new) = no_doubt (view new).is_clean is_clean in
        inr (elim (answers clean) [
          | inl none ↦ inl (listed_none clean none)
          | inr tables ↦ inr (tables_in (λ db. Classifies db (Err NotOurs))
              (λ db. Classifies db (Err NotOurs)) clean (λ db h. h) tables)
        ])
    store_fault Classifies (OtherSchema has) answers is_clean =
        let clean : IsClean (view new) = no_doubt (view new).is_clean is_clean in
        tables_in (λ db. Classifies db (Err (OtherSchema has)))
        (λ db. Classifies db (Err (OtherSchema has))) clean (λ db h. h) (answers clean)
    store_fault Classifies Damaged answers is_clean =
        absurd (answers (no_doubt (view new).is_clean is_clean))
    store_fault Classifies NotEmpty answers is_clean =
        absurd (answers (no_doubt (view new).is_clean is_clean))
    store_fault Classifies Memory answers is_clean = tt

-- what the rows must be, besides obeying their declarations
stricter_fault : {D : Type 0} {g : Ghosts D} (image : Image) (rest : Leftover D g) (Classifies :
    Database → Result (Unit {0}) OpenFault → Type 0) (Are : Database → Type 0) (fault : OpenFault)
    → IsFileFault image rest Classifies (λ _. ⊤) fault → IsFileFault image rest Classifies Are fault
stricter_fault image rest Classifies Are Store h = λ clean. tt
stricter_fault image rest Classifies Are NotOurs h = h
stricter_fault image rest Classifies Are (OtherSchema has) h = h
stricter_fault image rest Classifies Are Damaged h =
    λ clean. found_as (λ trees found. found) (λ db fact. (fact.0, λ both. fact.1 (tt, both.1)))
    (h clean)
stricter_fault image rest Classifies Are NotEmpty h = h
stricter_fault image rest Classifies Are Memory h = λ clean. tt

-- the fault of files over which no connection opens
module _ {D : Type 0} {g : Ghosts D} (image : Image) (files : Files D) (old new : Leftover D g)
    (same : image_of g files ≡ image) (is : IsLeftOf files (SqliteFailure NotADatabase) old) where
  pub leftover_fault : (Classifies : Database → Result (Unit {0}) OpenFault
      → Type 0) (Are : Database → Type 0) (fault : OpenFault)
      → IsFaultOfLeftover Classifies old new fault → IsFileFault image new Classifies Are fault
  leftover_fault Classifies Are fault h =
      subst (λ i. IsFileFault i new Classifies Are fault) same (stricter_fault (image_of g files)
      new Classifies Are fault (h files is))

-- ---- files that were just opened

abbrev pub image_with : List ℕ → List ℕ → Image
image_with log db = record { log = log; db = db }

abbrev pub seen_after : List ℕ → List ℕ → Bool → List Event → List ℕ
seen_after log db is_log events = (replay (cond is_log log db) events).seen

-- they have the octets that their calls so far have shown
pub seen_alike : (log db : List ℕ) {a b c d : Bool} {w x y z : List Event} → a ≡ b → w ≡ x → c ≡ d
    → y ≡ z → image_with (seen_after log db a w) (seen_after log db c y)
    ≡ image_with (seen_after log db b x) (seen_after log db d z)
seen_alike log db is_log log_events is_db db_events =
    ap₂ image_with (ap₂ (seen_after log db) is_log log_events) (ap₂ (seen_after log db) is_db
    db_events)
