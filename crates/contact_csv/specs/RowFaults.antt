-- Why a row isn't converted.
use Rattle.std.specs.Prelude.{ℕ, ◌==◌, ◌||◌, ◌&&◌, Bool, List, [], ◌∷◌}
use Rattle.std.specs.Prelude.{drop, get_or, length, map, nat_eq, nat_lt}
use Rattle.std.specs.List.{list_all, list_any, starts_with}
use Rattle.std.specs.Str.{str_eq_ignore_ascii_case, trim}
use Rattle.contact_columns.specs.Cells.{cell_text, is_void}
use Rattle.contact_columns.specs.declared.columns.Column.{Column}

-- The cell that stands for a row in which a quote isn't closed: a NUL and a quote.
abbrev pub broken_row : List ℕ
broken_row = 0 ∷ 34 ∷ []

abbrev pub is_broken : List (List ℕ) → Bool
is_broken fields = starts_with nat_eq (get_or fields 0 []) broken_row

abbrev pub has_nul : List ℕ → Bool
has_nul octets = list_any (λ octet. octet == 0) octets

-- no cell has a value
abbrev pub is_empty_row : List (List ℕ) → Bool
is_empty_row fields = list_all is_void (map cell_text fields)

-- as many cells as the header, but for cells without a value after them; `texts` are those of the
-- row's cells
abbrev pub has_width : List Column → List (List ℕ) → Bool
has_width columns texts = length texts == length columns
    || nat_lt (length columns) (length texts) && list_all is_void (drop (length columns) texts)

-- a column has this name, but for the case of letters
abbrev pub has_column : List Column → List ℕ → Bool
has_column columns name = list_any (λ column. str_eq_ignore_ascii_case column.name name) columns

-- the cell has no value, or is the name of a column between white space
abbrev pub is_name_of : List Column → List ℕ → Bool
is_name_of columns cell = is_void cell || has_column columns (trim cell)

-- each cell that has a value is the name of a column
abbrev pub has_names : List Column → List (List ℕ) → Bool
has_names columns fields = list_all (is_name_of columns) (map cell_text fields)
