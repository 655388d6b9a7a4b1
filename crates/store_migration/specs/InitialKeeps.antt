-- The keep that a migration gives each book of the first schema.
use Rattle.std.specs.Prelude.{ℕ, pos, max, List, [], ◌∷◌, map, filter, length}
use Rattle.sqlite.specs.declared.types.Value.TheVariants.{Int}
use Rattle.sqlite.specs.Order.{Row}
use Rattle.store_tables.specs.Books.{BookRow}
use Rattle.store_tables.specs.Keeps.{KeepRow, keep_row_of}
use Rattle.store_tables.specs.Members.{MemberRow, is_removed_above}
use Rattle.store_rows.specs.TableRows.{TableRows, load_member}
use Rattle.store_check.specs.RowChecks.{decode_book}

-- ---- the keeps

-- the number of tombstones above the book's horizon
abbrev pub book_tombstones : List MemberRow → BookRow → ℕ
book_tombstones members b = length (filter (is_removed_above b.id b.numbers.horizon) members)

-- A book's keep is 10,000, or the number of its tombstones if that is greater: none is forgotten.
abbrev pub initial_keep : List MemberRow → BookRow → KeepRow
initial_keep members b = keep_row_of b.id (pos (max 10000 (book_tombstones members b)))

-- each book's keep
abbrev pub initial_keeps : TableRows → List KeepRow
initial_keeps rows = map (initial_keep rows.members) rows.books

-- ---- the same for rows as the statements return them

-- a keep's row, as the statement over the whole table returns it
abbrev pub cells_of_keep : KeepRow → Row
cells_of_keep k = Int k.book ∷ Int k.keep ∷ []

-- a book's keep, from its row and the rows of the members
abbrev pub initial_keep_from : List Row → Row → KeepRow
initial_keep_from members book = initial_keep (map load_member members) (decode_book book)

-- the row of each book's keep, as the statement would return it
abbrev pub initial_keep_rows : List Row → List Row → List Row
initial_keep_rows books members = map (λ book. cells_of_keep (initial_keep_from members book)) books
