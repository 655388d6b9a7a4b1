-- Rows and index entries that fit into a record.
use Rattle.std.proofs.Common.{◌≡◌, inl, inr, ℕ, ℤ, pos, negsuc, ◌+◌, ◌^◌, ◌<◌, ◌≤◌, true, List, []}
use Rattle.std.proofs.Common.{◌∷◌, length, refl, sym, ap, subst, ◌∙◌, arith}
use Rattle.std.proofs.lemmas.Bool.{lt-ltb}
use Rattle.std.proofs.lemmas.List.Elements.{All-from_recursion}
use Rattle.std.proofs.lemmas.Nat.Bits.{bit_at-zero}
use Rattle.std.specs.Float.{NotNan}
use Rattle.std.specs.Int.{w64}
use Rattle.std.specs.List.{AllByRecursion, sum_by}
use lib.Ieee.{is_nan}
use Rattle.std.specs.Prelude.{FitsSigned}
use Rattle.sqlite.specs.Order.{Row}
use Rattle.sqlite.specs.declared.types.Value.TheVariants.{Null, Int, Text}
use Rattle.sqlite_rules.specs.Edit.{IsOversized}
use Rattle.sqlite_rules.specs.Lists.{Has}
use Rattle.sqlite_schema.specs.declared.schema.Index.{Index}
use Rattle.sqlite_schema.specs.declared.schema.Schema.{Schema}
use Rattle.sqlite_schema.specs.declared.schema.Table.{Table}
use Rattle.sqlite_schema.specs.Rules.{index_reals, table_reals}
use Rattle.sqlite_sql.specs.Catalog.{entry_of}
use Rattle.sqlite_sql.specs.Ops.{fits_i64}
use Rattle.sqlite_trees.specs.View.{IsStorable}
use Rattle.sqlite_value.specs.Order.{bytes, number}

-- a column value that an `i64` holds is a column value
pub fits_column : (z : ℤ) → FitsSigned w64 z → fits_i64 z ≡ true
fits_column (pos n) h = lt-ltb _ _ h.sfits
fits_column (negsuc n) h = lt-ltb _ _ h.sfits

pub int_is_number : (n : ℤ) → NotNan (number (Int n))
unfolding is_nan
int_is_number (pos n) = tt
int_is_number (negsuc n) = tt

pub null_is_number : NotNan (number Null)
unfolding is_nan
null_is_number = tt

pub text_is_number : (t : List ℕ) → NotNan (number (Text t))
unfolding is_nan
text_is_number t = tt

pub is_storable : (row : Row) → 0 < length row → length row ≤ 2001
    → AllByRecursion (λ v. NotNan (number v)) row → sum_by (λ v. 18 + length (bytes v)) row ≤ 10 ^ 9
    → IsStorable 0 row
is_storable row some few numbers short = record {
  typed = λ c h. absurd (omega (arith, h, bit_at-zero c));
  columns = (some, few);
  numbers = All-from_recursion (λ v. NotNan (number v)) row numbers;
  short = short;
}

pub no_reals : (places : List ℕ) → index_reals 0 places ≡ 0
no_reals [] = refl
no_reals (p ∷ ps) = rw (bit_at-zero p, no_reals ps)

-- the row fits, and so does its entry in each index
pub fits_in : (schema : Schema) (table : Table) (row : Row) → table_reals table ≡ 0
    → IsStorable 0 row → 1 < length row
    → ((i : Index) → Has schema.indexes i → i.table ≡ table.tree
    → IsStorable 0 (entry_of i.columns row)) → IsOversized schema table row → ⊥
fits_in schema table row none fits wide entries (inl big) =
    big (subst (λ reals. IsStorable reals row) (sym none) fits, wide)
fits_in schema table row none fits wide entries (inr it) =
    it.3 (subst (λ reals. IsStorable reals (entry_of it.0.columns row))
    (sym (ap (λ reals. index_reals reals it.0.columns) none ∙ no_reals it.0.columns))
    (entries it.0 it.1 it.2))
