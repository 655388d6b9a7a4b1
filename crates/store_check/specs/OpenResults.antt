-- The result of opening stored tables, by their contents.
use Rattle.std.specs.Prelude.{⊤, IfErr, List, Result, Ok, Err}
use Rattle.sqlite.specs.Effect.{Database}
use Rattle.sqlite.specs.Order.{Row}
use Rattle.sqlite.specs.State.{State, HasCleanDisk}
use Rattle.book_model.specs.Bounds.{Bounds, standard_limits}
use Rattle.store_rows.specs.SoundTables.{HoldsWellFormed}
use Rattle.store_schema.specs.OpenFaults.{ComesFromOutside}
use Rattle.store_schema.specs.StoredSchema.{IsCurrentSchema, ClassifiesSchema}
use Rattle.store_schema.specs.declared.open_fault.OpenFault.{OpenFault}
use Rattle.store_schema.specs.declared.open_fault.OpenFault.TheVariants.{Store, NotOurs}
use Rattle.store_schema.specs.declared.open_fault.OpenFault.TheVariants.{OtherSchema, Damaged}
use Rattle.store_schema.specs.declared.open_fault.OpenFault.TheVariants.{NotEmpty, Memory}
use Rattle.store_check.specs.RowChecks.{AreWellStored}

-- `Ok` if the rows of the four tables are well stored, else `Damaged`; or memory runs out
abbrev pub IsRowCheckResult : Bounds → List Row → List Row → List Row → List Row
    → Result (Unit {0}) OpenFault → Type 0
IsRowCheckResult limits books members imports keeps (Ok done) =
    AreWellStored limits books members imports keeps
IsRowCheckResult limits books members imports keeps (Err Store) = ⊥
IsRowCheckResult limits books members imports keeps (Err NotOurs) = ⊥
IsRowCheckResult limits books members imports keeps (Err (OtherSchema has)) = ⊥
IsRowCheckResult limits books members imports keeps (Err Damaged) =
    ¬ AreWellStored limits books members imports keeps
IsRowCheckResult limits books members imports keeps (Err NotEmpty) = ⊥
IsRowCheckResult limits books members imports keeps (Err Memory) = ⊤

-- The result of opening tables: `Ok` if they hold well-formed books; `Damaged` if they are this
-- project's but hold none; else the result of the schema test. These exclude each other. A fault of
-- the database can replace each.
abbrev pub IsOpenResult : Bounds → Database → Result (Unit {0}) OpenFault → Type 0
IsOpenResult limits db (Ok done) = HoldsWellFormed limits db
IsOpenResult limits db (Err Store) = ⊤
IsOpenResult limits db (Err NotOurs) = ClassifiesSchema db (Err NotOurs)
IsOpenResult limits db (Err (OtherSchema has)) = ClassifiesSchema db (Err (OtherSchema has))
IsOpenResult limits db (Err Damaged) = IsCurrentSchema db × ¬ HoldsWellFormed limits db
IsOpenResult limits db (Err NotEmpty) = ⊥
IsOpenResult limits db (Err Memory) = ⊤

-- Tables of well-formed books open: an error comes only for lack of memory, or is `Store` with a
-- cause outside the tables.
abbrev pub OpensWellFormed : {T : Type 0} → Bounds → State → State → Result T OpenFault → Type 0
OpensWellFormed limits old new result = HasCleanDisk new → HoldsWellFormed limits old.now →
    IfErr result (ComesFromOutside old new)

-- the limits that rows are tested against: the standard ones, which are the greatest on cards,
-- changes and books that a store may have
abbrev pub max_limits : Bounds
max_limits = standard_limits
