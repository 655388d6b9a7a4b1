-- The members with a UID of the books with a name.
use Rattle.std.specs.Prelude.{◌≡◌, ℕ, List, filter, Result, Ok, Err}
use Rattle.sqlite.specs.declared.error.Error.{Error}
use Rattle.sqlite.specs.Order.{Row}
use Rattle.sqlite.specs.State.{State, HasCleanDisk}
use Rattle.sqlite_rules.specs.Lists.{Has}
use Rattle.store_tables.specs.Books.{BookRow, HasBooks, has_name}
use Rattle.store_tables.specs.Members.{MemberRow, HasMembers, has_uid, number_card_shown}
use Rattle.store_tables.specs.QueryResults.{FindsRow}
use Rattle.store_tables.specs.Tables.{book_schema}

-- the condition of a read of two tables: they hold these books and these members before it
abbrev pub GivenBooksAndMembers :
    State → State → (List BookRow → List MemberRow → Type 0) → Type 0
GivenBooksAndMembers old new Then = (bs : List BookRow) (ms : List MemberRow) →
    HasCleanDisk new → old.now.schema ≡ book_schema → HasBooks old bs → HasMembers old ms →
    Then bs ms

-- the look-up of the UID among the members of this book has the result
abbrev pub FindsMemberOf : List ℕ → List MemberRow → BookRow → Result Row Error → Type 0
FindsMemberOf uid ms book result = FindsRow (has_uid book.id uid) number_card_shown ms result

-- A row is that of a member of some book with the name. If no row was found, no book with the name
-- has such a member. After any other error nothing is required.
abbrev pub FindsNamedMember :
    List ℕ → List ℕ → List BookRow → List MemberRow → Result Row Error → Type 0
FindsNamedMember name uid bs ms (Ok row) =
    (book : BookRow) × Has (filter (has_name name) bs) book × FindsMemberOf uid ms book (Ok row)
FindsNamedMember name uid bs ms (Err e) =
    (book : BookRow) → Has (filter (has_name name) bs) book → FindsMemberOf uid ms book (Err e)
