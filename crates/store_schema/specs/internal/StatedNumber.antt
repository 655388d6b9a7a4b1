-- The schema number in the rows of the table `meta`.
use Rattle.std.specs.Prelude.{◌≡◌, ℤ, List, [], ◌∷◌, codes, Bool, true, false, Option, Some, None}
use Rattle.std.specs.Prelude.{Result, Ok, Err}
use Rattle.sqlite.specs.declared.types.Value.TheVariants.{Int, Text}
use Rattle.sqlite.specs.Order.{Row, column}
use Rattle.store_schema.specs.declared.open_fault.OpenFault.{OpenFault}
use Rattle.store_schema.specs.declared.open_fault.OpenFault.TheVariants.{Store, NotOurs}
use Rattle.store_schema.specs.declared.open_fault.OpenFault.TheVariants.{OtherSchema, Damaged}
use Rattle.store_schema.specs.declared.open_fault.OpenFault.TheVariants.{NotEmpty, Memory}

-- the row has the name `schema`
abbrev pub IsSchemaRow : Row → Type 0
IsSchemaRow row = column row 0 ≡ Text (codes "schema")

-- the row has the name `schema` and this number
pub record RowStates (row : Row) (number : ℤ) : Type 0 where
  pub name : IsSchemaRow row
  pub value : column row 1 ≡ Int number

-- the schema number of the only row, or there is none
abbrev pub IsNumberStated : List Row → Option ℤ → Type 0
IsNumberStated rows None = (number : ℤ) → (row : Row) → rows ≡ row ∷ [] → ¬ RowStates row number
IsNumberStated rows (Some number) = (row : Row) × (rows ≡ row ∷ []) × RowStates row number

-- the result of the check of the number: `Ok` for the wanted one with its tables declared,
-- `OtherSchema` for another one, otherwise `NotOurs`
abbrev pub IsVerified : ℤ → Bool → Option ℤ → Result (Unit {0}) OpenFault → Type 0
IsVerified wanted declared None outcome = outcome ≡ Err NotOurs
IsVerified wanted declared (Some number) (Ok done) = (number ≡ wanted) × (declared ≡ true)
IsVerified wanted declared (Some number) (Err Store) = ⊥
IsVerified wanted declared (Some number) (Err NotOurs) = (number ≡ wanted) × (declared ≡ false)
IsVerified wanted declared (Some number) (Err (OtherSchema has)) =
    (number ≡ has) × ¬ (number ≡ wanted)
IsVerified wanted declared (Some number) (Err Damaged) = ⊥
IsVerified wanted declared (Some number) (Err NotEmpty) = ⊥
IsVerified wanted declared (Some number) (Err Memory) = ⊥
