-- Changes of one book that the declared tables accept.
use Rattle.std.specs.Prelude.{ℕ, ℤ, pos, List, Option}
use Rattle.sqlite.specs.Effect.{Database}
use Rattle.store_tables.specs.Acceptance.{AcceptsMember, HasFreeIds, IsShort}
use Rattle.store_rows.specs.TableBooks.{HeaderRow}
use Rattle.store_rows.specs.TableRows.{TableRows}
use Rattle.store_writes.specs.TableChanges.{HasBookRow}

-- the tables hold the row of the book with this header, under a short name
pub record AcceptsHeader (db : Database) (rows : TableRows) (name : List ℕ) (header : HeaderRow)
    : Type 0 where
  pub line : HasBookRow db rows name header
  pub short : IsShort name

-- the same, and they accept a member with this number and card in the book
pub record AcceptsMemberOf (db : Database) (rows : TableRows) (name : List ℕ) (header : HeaderRow)
    (uid : List ℕ) (changed : ℤ) (card : Option (List ℕ)) : Type 0 where
  pub book : AcceptsHeader db rows name header
  pub free_id : HasFreeIds 1 (db.trees 4)
  pub member : AcceptsMember rows.books rows.members (pos header.id) uid changed card
