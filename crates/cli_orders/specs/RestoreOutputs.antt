-- What `restore` prints.
use Rattle.std.specs.Prelude.{ℕ, Bool, true, false, List, [], ◌∷◌, ◌++◌, codes, decimal, flat_map}
use Rattle.base_types.specs.Octets.{line_feed}
use Rattle.cli_orders.specs.declared.restore_output.Restored.{Restored}

-- a name under which the file or its log is kept
abbrev pub kept_line : List ℕ → List ℕ
kept_line name = codes "kept " ++ (name ++ line_feed ∷ [])

abbrev pub kept_lines : List (List ℕ) → List ℕ
kept_lines names = flat_map kept_line names

-- a book that was made again
abbrev pub made_line : List ℕ → List ℕ
made_line name = codes "remade " ++ (name ++ line_feed ∷ [])

abbrev pub made_lines : List (List ℕ) → List ℕ
made_lines names = flat_map made_line names

-- if the file's books aren't known
abbrev pub unread_line : List ℕ → Bool → List ℕ
unread_line file true = []
unread_line file false = codes "unread " ++ (file
    ++ (codes ": its books that the copy hasn't are not made again" ++ line_feed ∷ []))

-- the number of books
abbrev pub restored_line : ℕ → List ℕ
restored_line books = codes "restored " ++ (decimal books ++ line_feed ∷ [])

-- the output of `restore` for this file
abbrev pub restore_output : List ℕ → Restored → List ℕ
restore_output file restored = kept_lines restored.kept
    ++ (unread_line file restored.is_read
    ++ (made_lines restored.made ++ restored_line restored.books))
