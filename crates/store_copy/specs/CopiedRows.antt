-- The rows of a store, and a copy of them.
use Rattle.sqlite.specs.Effect.{Database}
use Rattle.store_check.specs.ListedRows.{AreListedRows}
use Rattle.store_copy.specs.declared.reading.StoredRows.{StoredRows}

-- these are all rows of the database's four tables, each table's in any order
abbrev pub HasRows : Database → StoredRows → Type 0
HasRows db rows =
    AreListedRows db rows.others.books.items rows.members.items rows.others.imports.items
    rows.others.keeps.items
