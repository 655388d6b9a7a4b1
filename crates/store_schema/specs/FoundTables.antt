-- What a store that was opened over files has found, where no connection could be opened over it.
use Rattle.std.specs.Prelude.{◌⊎◌, ⊤, Result, Ok, Err}
use Rattle.sqlite.specs.Effect.{Database}
use Rattle.sqlite.specs.Schema.{Schema}
use Rattle.sqlite.specs.Tree.{Trees}
use Rattle.sqlite_catalog.specs.Listing.{Lists}
use Rattle.sqlite_trees.specs.Objects.{catalog_tree}
use Rattle.store_schema.specs.declared.open_fault.OpenFault.{OpenFault}
use Rattle.store_schema.specs.declared.open_fault.OpenFault.TheVariants.{Store, NotOurs}
use Rattle.store_schema.specs.declared.open_fault.OpenFault.TheVariants.{OtherSchema, Damaged}
use Rattle.store_schema.specs.declared.open_fault.OpenFault.TheVariants.{NotEmpty, Memory}

-- the tables of the schema, with their rows in the trees
abbrev pub database_of : Schema → Trees → Database
database_of schema trees = record { schema = schema; trees = trees }

-- Tables were found, of which the fact holds: the trees list the schema.
pub record FindsTables (Found : Trees → Type 0) (Fact : Database → Type 0) : Type 0 where
  pub db : Database
  pub found : Found db.trees
  pub listed : Lists (db.trees catalog_tree) db.schema
  pub fact : Fact db

-- Trees were found that list no schema.
pub record FindsNoSchema (Found : Trees → Type 0) : Type 0 where
  pub trees : Trees
  pub found : Found trees
  pub unlisted : (schema : Schema) → ¬ Lists (trees catalog_tree) schema

-- The result of loading the schema: the one that is listed, or `NotOurs`. An error of the database
-- is possible in every case.
abbrev pub LoadsSchema : (Trees → Type 0) → Trees → Result Schema OpenFault → Type 0
LoadsSchema Found trees (Ok schema) = Found trees × Lists (trees catalog_tree) schema
LoadsSchema Found trees (Err Store) = ⊤
LoadsSchema Found trees (Err NotOurs) = FindsNoSchema Found
LoadsSchema Found trees (Err (OtherSchema has)) = ⊥
LoadsSchema Found trees (Err Damaged) = ⊥
LoadsSchema Found trees (Err NotEmpty) = ⊥
LoadsSchema Found trees (Err Memory) = ⊤

-- The result of a schema test over what was found: that of the test over a connection with the
-- same tables, or `NotOurs` if no schema is listed. An error of the database is possible in every
-- case.
abbrev pub ClassifiesFound :
    (Database → Result (Unit {0}) OpenFault → Type 0) → (Trees → Type 0)
    → Result (Unit {0}) OpenFault → Type 0
ClassifiesFound Classifies Found (Ok done) = FindsTables Found (λ db. Classifies db (Ok done))
ClassifiesFound Classifies Found (Err Store) = ⊤
ClassifiesFound Classifies Found (Err NotOurs) =
    FindsNoSchema Found ⊎ FindsTables Found (λ db. Classifies db (Err NotOurs))
ClassifiesFound Classifies Found (Err (OtherSchema has)) =
    FindsTables Found (λ db. Classifies db (Err (OtherSchema has)))
ClassifiesFound Classifies Found (Err Damaged) = ⊥
ClassifiesFound Classifies Found (Err NotEmpty) = ⊥
ClassifiesFound Classifies Found (Err Memory) = ⊤
