use Rattle.std.proofs.Common.{drop, map}
use Rattle.sqlite.specs.Order.{Row}
use Rattle.sqlite_rules.specs.Lists.{Has}
use Rattle.store_rows.specs.TableRows.{load_import}
use Rattle.store_check.specs.RowChecks.{AreValidImports, decode_book}
use Rattle.store_check.proofs.imports.first_faulty_import.Given as goal

-- the remaining rows decide, and are rows of the list
abbrev pub invariant-loop-import : goal.invariant-loop-import
invariant-loop-import l =
    (AreValidImports (map decode_book l.books) (map load_import (drop l.import-index l.imports))
    → AreValidImports (map decode_book l.books) (map load_import l.imports))
    × ((r : Row) → Has (drop l.import-index l.imports) r → Has l.imports r)
