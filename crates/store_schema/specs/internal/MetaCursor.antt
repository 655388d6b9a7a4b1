-- The rows of the table `meta`, read by a cursor of the store.
use Rattle.std.specs.Prelude.{◌≡◌, ℕ, ℤ, List, [], ◌∷◌, Option, Some, None, MatchOption}
use Rattle.sqlite.specs.Order.{Row}
use Rattle.sqlite_trees.specs.View.{View}
use Rattle.store_tables.specs.Meta.{meta_listed}
use Rattle.store_schema.specs.internal.StatedNumber.{RowStates}

-- the number of the cursor
abbrev pub meta_cursor : ℕ
meta_cursor = 0

-- the columns of the cursor's next row, or the cursor is at its end
abbrev pub IsNextMeta : View → View → Option Row → Type 0
IsNextMeta old new None = old.cursors meta_cursor ≡ Some []
IsNextMeta old new (Some row) =
    (entry : Row) × (left : List Row) × (old.cursors meta_cursor ≡ Some (entry ∷ left))
    × (new.cursors meta_cursor ≡ Some left) × (row ≡ meta_listed entry)

-- the schema number in the first row, if there is no second
abbrev pub IsOnlyNumber : Option Row → Option Row → Option ℤ → Type 0
IsOnlyNumber None second said = said ≡ None
IsOnlyNumber (Some row) (Some more) said = said ≡ None
IsOnlyNumber (Some row) None said =
    MatchOption said ((number : ℤ) → ¬ RowStates row number) (RowStates row)
