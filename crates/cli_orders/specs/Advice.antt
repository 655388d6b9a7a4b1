-- What a sentence says to do next.
use Rattle.std.specs.Prelude.{ℕ, List, [], ◌++◌, codes}
use Rattle.cli_orders.specs.declared.advice.Advice.{Advice}
use Rattle.cli_orders.specs.declared.advice.Advice.TheVariants.{Nothing, InitFile, RunWithCreate}
use Rattle.cli_orders.specs.declared.advice.Advice.TheVariants.{MigrateFile, VerifyFile, ListBooks}
use Rattle.cli_orders.specs.declared.advice.Advice.TheVariants.{CheckFile, ConvertFile}

-- the words for an advice about the file of this name
abbrev pub advice_words : Advice → List ℕ → List ℕ
advice_words Nothing name = []
advice_words InitFile name = codes "; contacts init " ++ (name ++ codes " makes one")
advice_words RunWithCreate name = codes "; contacts run " ++ (name ++ codes " --create makes it")
advice_words MigrateFile name = codes "; back it up, then run contacts migrate " ++ name
advice_words VerifyFile name = codes "; contacts verify " ++ (name ++ codes " names the row")
advice_words ListBooks name = codes "; contacts books " ++ (name ++ codes " lists them")
advice_words CheckFile name = codes "; contacts check " ++ (name ++ codes " tells more")
advice_words ConvertFile name = codes "; contacts convert " ++ (name ++ codes " makes rows of it")
