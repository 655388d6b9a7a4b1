-- The result of a schema test, by the rows of the table `meta`.
use Rattle.std.proofs.Common.{◌≡◌, ◌↔◌, ℤ, pos, Bool, true, List, [], ◌∷◌, map, Option, Some, None}
use Rattle.std.proofs.Common.{Result, Ok, Err, IfErr, IsPermutation, refl, sym, ap, subst, ◌∙◌}
use Rattle.std.proofs.Common.{true≢false}
use Rattle.std.proofs.lemmas.List.Sorted.{IsPermutation-sym}
use Rattle.sqlite.proofs.Callers.{one_permutation}
use Rattle.sqlite.specs.Effect.{Database}
use Rattle.sqlite.specs.Order.{Row, column}
use Rattle.sqlite_rules.specs.Edit.{id_in}
use Rattle.store_tables.specs.Meta.{meta_listed, schema_row, schema_number}
use Rattle.store_tables.specs.Tables.{book_schema}
use Rattle.store_tables.specs.SchemaCreation.{first_schema}
use Rattle.store_schema.specs.FirstSchema.{ClassifiesFirstSchema, IsFirstSchema, first_number}
use Rattle.store_schema.specs.StoredSchema.{IsStoreSchema, IsCurrentSchema, HasSchemaNumber}
use Rattle.store_schema.specs.StoredSchema.{ClassifiesSchema}
use Rattle.store_schema.specs.internal.StatedNumber.{IsVerified, IsNumberStated, RowStates}
use Rattle.store_schema.specs.declared.open_fault.OpenFault.{OpenFault}
use Rattle.store_schema.specs.declared.open_fault.OpenFault.TheVariants.{Store, NotOurs}
use Rattle.store_schema.specs.declared.open_fault.OpenFault.TheVariants.{OtherSchema, Damaged}
use Rattle.store_schema.specs.declared.open_fault.OpenFault.TheVariants.{NotEmpty, Memory}

-- ---- the schema number of the rows

-- the only row has the number
one_says : (number : ℤ) (table : List Row) (row : Row) → map meta_listed table ≡ row ∷ []
    → RowStates row number → map meta_listed table ≡ schema_row number ∷ []
one_says number [] row e h = absurd cc
one_says number (q ∷ []) row e h =
    let first : meta_listed q ≡ row = cc in
    let says = subst (λ r. RowStates r number) (sym first) h in
    λ i. (says.name i ∷ says.value i ∷ []) ∷ []
one_says number (q ∷ p ∷ qs) row e h = absurd cc

none_said : (db : Database) (rows : List Row) → IsPermutation (map meta_listed (db.trees 0)) rows
    → IsNumberStated rows None → (number : ℤ) → ¬ HasSchemaNumber number db
none_said db rows same none number says =
    let alone : rows ≡ schema_row number ∷ [] =
    one_permutation (schema_row number) rows (subst (λ l. IsPermutation l rows) says same) in
    none number (schema_row number) alone (record { name = refl; value = refl })

some_said : (db : Database) (rows : List Row) (number : ℤ)
    → IsPermutation (map meta_listed (db.trees 0)) rows → IsNumberStated rows (Some number)
    → HasSchemaNumber number db
some_said db rows number same said =
    let alone : map meta_listed (db.trees 0) ≡ said.0 ∷ [] =
    one_permutation said.0 (map meta_listed (db.trees 0))
    (IsPermutation-sym _ _ (subst (IsPermutation (map meta_listed (db.trees 0))) said.1
    same)) in
    one_says number (db.trees 0) said.0 alone said.2

-- the rows have one schema number at most
abbrev number_of : List Row → ℤ
number_of [] = pos 0
number_of (row ∷ rows) = id_in (column row 1)

said_once : (a b : ℤ) (db : Database) → HasSchemaNumber a db → HasSchemaNumber b db → a ≡ b
said_once a b db one two = ap number_of (sym one ∙ two)

-- ---- the result for the current schema

module _ (db : Database) (rows : List Row) (keeps : Bool) (store : IsStoreSchema db.schema) (ours :
    (keeps ≡ true) ↔ (db.schema ≡ book_schema)) (same : IsPermutation (map meta_listed (db.trees 0))
    rows) where
  pub verified : (said : Option ℤ) (r : Result (Unit {0}) OpenFault) → IsNumberStated rows said
      → IsVerified schema_number keeps said r → ClassifiesSchema db r
  verified None r stated outcome =
      subst (ClassifiesSchema db) (sym outcome) (
        λ is. none_said db rows same stated schema_number
            is.meta,
        λ has is. none_said db rows same stated has is.meta,
      )
  verified (Some number) (Ok done) stated outcome =
      record {
        schema = ours.0 outcome.1;
        meta = subst (λ n. HasSchemaNumber n db) outcome.0 (some_said db rows number same
            stated);
      }
  verified (Some number) (Err Store) stated outcome = absurd outcome
  verified (Some number) (Err NotOurs) stated outcome = (
    λ is. true≢false (sym (ours.1 is.schema) ∙ outcome.1),
    λ has is. is.other (said_once has number db is.meta (some_said db rows number same stated)
        ∙ outcome.0),
  )
  verified (Some number) (Err (OtherSchema has)) stated outcome =
      record {
        schema = store;
        meta = subst (λ n. HasSchemaNumber n db) outcome.0
            (some_said db rows number same stated);
        other = λ e. outcome.1 (outcome.0 ∙ e);
      }
  verified (Some number) (Err Damaged) stated outcome = absurd outcome
  verified (Some number) (Err NotEmpty) stated outcome = absurd outcome
  verified (Some number) (Err Memory) stated outcome = absurd outcome

  -- over the tables of a store the number passes
  pub current_passes : IsCurrentSchema db → (P : OpenFault → Type 0) (said : Option ℤ) (r :
      Result (Unit {0}) OpenFault) → IsNumberStated rows said
      → IsVerified schema_number keeps said r → IfErr r P
  current_passes is P said (Ok done) stated outcome = tt
  current_passes is P None (Err fault) stated outcome =
      absurd (none_said db rows same stated schema_number is.meta)
  current_passes is P (Some number) (Err Store) stated outcome = absurd outcome
  current_passes is P (Some number) (Err NotOurs) stated outcome =
      absurd (true≢false (sym (ours.1 is.schema) ∙ outcome.1))
  current_passes is P (Some number) (Err (OtherSchema has)) stated outcome =
      absurd (outcome.1 (said_once number schema_number db (some_said db rows number same stated)
      is.meta))
  current_passes is P (Some number) (Err Damaged) stated outcome = absurd outcome
  current_passes is P (Some number) (Err NotEmpty) stated outcome = absurd outcome
  current_passes is P (Some number) (Err Memory) stated outcome = absurd outcome

-- ---- the result for the first schema

module _ (db : Database) (rows : List Row) (first : Bool) (store : IsStoreSchema db.schema)
    (declared : (first ≡ true) ↔ (db.schema ≡ first_schema)) (same :
    IsPermutation (map meta_listed (db.trees 0)) rows) where
  pub first_verified : (said : Option ℤ) (r : Result (Unit {0}) OpenFault)
      → IsNumberStated rows said → IsVerified first_number first said r → ClassifiesFirstSchema db r
  first_verified None r stated outcome =
      subst (ClassifiesFirstSchema db) (sym outcome) (
        λ is. none_said db rows same stated
            first_number is.meta,
        λ has is. none_said db rows same stated has is.meta,
      )
  first_verified (Some number) (Ok done) stated outcome =
      record {
        schema = declared.0 outcome.1;
        meta = subst (λ n. HasSchemaNumber n db) outcome.0 (some_said db rows number same
            stated);
      }
  first_verified (Some number) (Err Store) stated outcome = absurd outcome
  first_verified (Some number) (Err NotOurs) stated outcome = (
    λ is. true≢false (sym (declared.1 is.schema) ∙ outcome.1),
    λ has is. is.other (said_once has number db is.meta (some_said db rows number same stated)
        ∙ outcome.0),
  )
  first_verified (Some number) (Err (OtherSchema has)) stated outcome =
      record {
        schema = store;
        meta = subst (λ n. HasSchemaNumber n db) outcome.0
            (some_said db rows number same stated);
        other = λ e. outcome.1 (outcome.0 ∙ e);
      }
  first_verified (Some number) (Err Damaged) stated outcome = absurd outcome
  first_verified (Some number) (Err NotEmpty) stated outcome = absurd outcome
  first_verified (Some number) (Err Memory) stated outcome = absurd outcome

  -- over the tables of a store of the first schema the number passes
  pub first_passes : IsFirstSchema db → (P : OpenFault → Type 0) (said : Option ℤ) (r :
      Result (Unit {0}) OpenFault) → IsNumberStated rows said → IsVerified first_number first said r
      → IfErr r P
  first_passes is P said (Ok done) stated outcome = tt
  first_passes is P None (Err fault) stated outcome =
      absurd (none_said db rows same stated first_number is.meta)
  first_passes is P (Some number) (Err Store) stated outcome = absurd outcome
  first_passes is P (Some number) (Err NotOurs) stated outcome =
      absurd (true≢false (sym (declared.1 is.schema) ∙ outcome.1))
  first_passes is P (Some number) (Err (OtherSchema has)) stated outcome =
      absurd (outcome.1 (said_once number first_number db (some_said db rows number same stated)
      is.meta))
  first_passes is P (Some number) (Err Damaged) stated outcome = absurd outcome
  first_passes is P (Some number) (Err NotEmpty) stated outcome = absurd outcome
  first_passes is P (Some number) (Err Memory) stated outcome = absurd outcome
