-- The row of the table `meta`: the schema number, under the name `schema`.
use Rattle.std.specs.Prelude.{◌≡◌, ℤ, pos, List, [], ◌∷◌, map, codes}
use Rattle.std.specs.List.Sorted.{IsPermutation}
use Rattle.sqlite.specs.declared.types.Value.TheVariants.{Int, Text}
use Rattle.sqlite.specs.Effect.{Database}
use Rattle.sqlite.specs.Order.{Row, column}
use Rattle.sqlite.specs.State.{State}
use Rattle.store_tables.specs.Tables.{ObeyTables, book_schema}

-- the result row of any row of the table
abbrev pub meta_listed : Row → Row
meta_listed r = column r 1 ∷ column r 2 ∷ []

-- the number of the current schema
abbrev pub schema_number : ℤ
schema_number = pos 2

-- the result row of the schema number
abbrev pub schema_row : ℤ → Row
schema_row number = Text (codes "schema") ∷ Int number ∷ []

-- the table holds the old rows and the row of the schema number
abbrev pub AddsSchema : ℤ → List Row → State → Type 0
AddsSchema number before new =
    IsPermutation (schema_row number ∷ map meta_listed before) (map meta_listed (new.now.trees 0))

-- the tables are declared, have this schema number, and are otherwise empty
pub record IsEmptyStore (number : ℤ) (db : Database) : Type 0 where
  pub schema : db.schema ≡ book_schema
  pub obeys : ObeyTables db.trees
  pub meta : map meta_listed (db.trees 0) ≡ schema_row number ∷ []
  pub books : db.trees 2 ≡ []
  pub members : db.trees 4 ≡ []
  pub imports : db.trees 7 ≡ []
  pub keeps : db.trees 9 ≡ []
