-- When the declared tables accept a write, and how an accepted write fails.
use Rattle.std.specs.Prelude.{◌≡◌, ◌≢◌, ◌≤◌, ◌^◌, ℕ, Bool, true, false, ◌&&◌, List, length}
use Rattle.std.specs.Prelude.{◌+ℤ◌, ◌<ℤ◌, ◌≤ℤ◌, ℤ, pos, IfErr, IfSome, IsTrue, Option, Result}
use Rattle.std.specs.List.{AllByRecursion, list_any}
use Rattle.std.specs.Ordering.{int_eq}
use Rattle.sqlite.specs.Order.{Row}
use Rattle.sqlite.specs.State.{State, HasCleanDisk}
use Rattle.sqlite.specs.Tree.{rowid}
use Rattle.sqlite.specs.declared.error.Error.{Error}
use Rattle.sqlite.specs.declared.error.Error.TheVariants.{SqliteFailure}
use Rattle.sqlite.specs.declared.error.ErrorCode.TheVariants.{ConstraintViolation, OutOfMemory}
use Rattle.sqlite_rules.specs.Edit.{id_in, next_rowid}
use Rattle.sqlite_rules.specs.Lists.{Has}
use Rattle.sqlite_schema.specs.declared.schema.Constraint.{Constraint}
use Rattle.sqlite_sql.specs.Ops.{fits_i64}
use Rattle.store_tables.specs.Books.{BookRow, has_id, has_name}
use Rattle.store_tables.specs.Failures.{HasOutsideCause}
use Rattle.store_tables.specs.Imports.{ImportRow, has_key}
use Rattle.store_tables.specs.Keeps.{KeepRow, is_keep_of}
use Rattle.store_tables.specs.Members.{MemberRow, has_uid}
use Rattle.store_tables.specs.Tables.{ObeyTables, book_schema}

-- ---- assumptions that hold in a file whose rows only this program wrote

-- the id of a stored row
abbrev pub row_id : Row → ℤ
row_id r = id_in (rowid r)

-- SQLite has ids for this many new rows. Each id in the table is a column value, and no id is above
-- that of the last row, because SQLite keeps rows in the order of their ids. A new row gets the id
-- one above that of the last row, which is a column value until a table has had 2^63 - 1 rows.
pub record HasFreeIds (count : ℕ) (rows : List Row) : Type 0 where
  pub columns : AllByRecursion (λ r. fits_i64 (row_id r) ≡ true) rows
  pub last_greatest : AllByRecursion (λ r. row_id r <ℤ next_rowid rows) rows
  pub room : (next_rowid rows +ℤ pos count) ≤ℤ pos (2 ^ 63)

-- The text has at most 2^20 octets, so a row with two of them fits into a record of SQLite. The
-- longest text of this project is a card of 262,144 octets.
abbrev pub IsShort : List ℕ → Type 0
IsShort text = length text ≤ 2 ^ 20

-- ---- the constraints on a write

-- the error names a constraint that the write would break
abbrev pub IsViolation : Error → Type 0
IsViolation e = (rule : Constraint) × (e ≡ SqliteFailure (ConstraintViolation rule))

-- a book has the id
abbrev pub HasBook : List BookRow → ℤ → Type 0
HasBook bs id = list_any (has_id id) bs ≡ true

-- a book has the id, and its name is short
abbrev pub AcceptsNumbers : List BookRow → ℤ → Type 0
AcceptsNumbers bs id = (b : BookRow) × Has bs b × (id ≡ b.id) × IsShort b.name

-- no book has the id or the name
pub record AcceptsBook (bs : List BookRow) (id : ℤ) (name : List ℕ) : Type 0 where
  pub id_unused : AllByRecursion (λ b. has_id id b ≡ false) bs
  pub name_unused : AllByRecursion (λ b. has_name name b ≡ false) bs
  pub short : IsShort name

-- a book has the id, and no keep
pub record AcceptsKeep (bs : List BookRow) (keeps : List KeepRow) (book : ℤ) : Type 0 where
  pub listed : HasBook bs book
  pub unused : AllByRecursion (λ k. is_keep_of book k ≡ false) keeps

-- a book has the id, and no import with the key
pub record AcceptsImport (bs : List BookRow) (imports : List ImportRow) (book : ℤ) (key : List ℕ)
    : Type 0 where
  pub listed : HasBook bs book
  pub unused : AllByRecursion (λ i. has_key book key i ≡ false) imports
  pub short : IsShort key

-- the member has the number in the book
abbrev pub has_number : ℤ → ℤ → MemberRow → Bool
has_number book changed m = int_eq m.book book && int_eq m.changed changed

-- a book has the id, and none of its other members has the number
pub record AcceptsMember (bs : List BookRow) (ms : List MemberRow) (book : ℤ) (uid : List ℕ)
    (changed : ℤ) (card : Option (List ℕ)) : Type 0 where
  pub listed : HasBook bs book
  pub unused : AllByRecursion
      (λ m. has_uid book uid m ≡ false → has_number book changed m ≡ false) ms
  pub short_uid : IsShort uid
  pub short_card : IfSome card IsShort

-- ---- the errors of a write

-- Inside a transaction over the declared tables, a write fails only for lack of memory or for an
-- outside cause.
abbrev pub WriteFailsFromOutside : {T : Type 0} → State → State → Result T Error → Type 0
WriteFailsFromOutside old new result = HasCleanDisk new → IsTrue old.in_transaction →
    old.now.schema ≡ book_schema → ObeyTables old.now.trees →
    IfErr result (λ e. e ≢ SqliteFailure OutOfMemory → HasOutsideCause old new)
