-- What comes of creating a file.
use Rattle.std.specs.Prelude.{◌≡◌, ℕ, List, Option, IfSome, ⊤}
use Rattle.cli_convert.specs.MadeFiles.{IsEmpty}
use Rattle.cli_convert.specs.declared.create.Created.{Created}
use Rattle.cli_convert.specs.declared.create.Created.TheVariants.{Exists, File}

-- A new file is empty, and at the path. `place` is where a file was made, and `written` what was
-- written to it.
abbrev pub IsCreated : {T : Type 0} → (T → Option (List ℕ)) → (T → Option (List ℕ)) → List ℕ
    → Created T → Type 0
IsCreated place written path (File file) =
    IfSome (place file) (λ made. made ≡ path) × IsEmpty (written file)
IsCreated place written path Exists = ⊤
