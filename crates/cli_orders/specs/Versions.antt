-- What `--version` prints.
use Rattle.std.specs.Prelude.{ℕ, List, [], ◌∷◌, ◌++◌, codes}
use Rattle.base_types.specs.Octets.{line_feed}

-- the version of the program, the schema of its files, and the toolchain that proved it
abbrev pub version_output : List ℕ
version_output =
    codes "contacts 0.22.0" ++ (line_feed ∷ codes "schema 2"
    ++ (line_feed ∷ codes "kit rattle-kit-13f logic dac8208d650f15bf" ++ line_feed ∷ []))
