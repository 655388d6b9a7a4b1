-- The values in a result row of a query.
use Rattle.std.specs.Prelude.{◌≡◌, ◌<◌, ◌+◌, ⊤, ℕ, pos, List, [], ◌∷◌, Option, Some, None, Ok}
use Rattle.sqlite.specs.declared.types.Value.TheVariants.{Null, Int, Text}
use Rattle.sqlite.specs.Order.{Row, column}
use Rattle.vcard_lines.specs.declared.line.Line.{Line}
use Rattle.vcard_text.specs.CardOfText.{card_of_text}
use Rattle.book_model.specs.declared.answers.ImportTally.{ImportTally}
use Rattle.book_model.specs.declared.answers.Stored.{Stored}
use Rattle.book_model.specs.declared.counts.Counts.{Counts}
use Rattle.book_model.specs.declared.row.Row.{Row as Kept}
use Rattle.store_rows.specs.TableBooks.{HeaderRow}

-- ---- books

-- the seven counts, starting at this column
pub record ShowsCounts (first : ℕ) (row : Row) (counts : Counts) : Type 0 where
  pub created : column row first ≡ Int (pos counts.created)
  pub edited : column row (first + 1) ≡ Int (pos counts.edited)
  pub imported : column row (first + 2) ≡ Int (pos counts.imported)
  pub import_edited : column row (first + 3) ≡ Int (pos counts.import_edited)
  pub moved_in : column row (first + 4) ≡ Int (pos counts.moved_in)
  pub deleted : column row (first + 5) ≡ Int (pos counts.deleted)
  pub moved_out : column row (first + 6) ≡ Int (pos counts.moved_out)

-- the id, the number, the horizon and the counts
pub record ShowsHeader (row : Row) (header : HeaderRow) : Type 0 where
  pub id : column row 0 ≡ Int (pos header.id)
  pub number : column row 1 ≡ Int (pos header.number)
  pub horizon : column row 2 ≡ Int (pos header.horizon)
  pub counts : ShowsCounts 3 row header.counts

-- the same, with the name after the id
pub record ShowsNamedHeader (row : Row) (name : List ℕ) (header : HeaderRow) : Type 0 where
  pub id : column row 0 ≡ Int (pos header.id)
  pub name_is : column row 1 ≡ Text name
  pub number : column row 2 ≡ Int (pos header.number)
  pub horizon : column row 3 ≡ Int (pos header.horizon)
  pub counts : ShowsCounts 4 row header.counts

-- ---- members

-- the column has the text of the card, or null if the member is removed
abbrev pub ShowsCard : ℕ → Row → Option (List Line) → Type 0
ShowsCard at row None = column row at ≡ Null
ShowsCard at row (Some card) =
    (text : List ℕ) × (column row at ≡ Text text) × (card_of_text text ≡ Ok card)

-- the number and the card of a live member; null if the member is removed
abbrev pub ShowsLive : Row → Option Stored → Type 0
ShowsLive row None = column row 1 ≡ Null
ShowsLive row (Some stored) =
    (column row 0 ≡ Int (pos stored.version)) × ShowsCard 1 row (Some stored.card)

-- the UID, the number and the card
pub record ShowsMember (row : Row) (member : List ℕ × Kept) : Type 0 where
  pub uid : column row 0 ≡ Text member.0
  pub changed : column row 1 ≡ Int (pos member.1.changed)
  pub card : ShowsCard 2 row member.1.card

-- each row has a member
abbrev pub ShowMembers : List Row → List (List ℕ × Kept) → Type 0
ShowMembers [] [] = ⊤
ShowMembers [] (member ∷ members) = ⊥
ShowMembers (row ∷ rows) [] = ⊥
ShowMembers (row ∷ rows) (member ∷ members) = ShowsMember row member × ShowMembers rows members

-- ---- imports, keeps and counts

pub record ShowsTally (row : Row) (tally : ImportTally) : Type 0 where
  pub added : column row 0 ≡ Int (pos tally.added)
  pub edited : column row 1 ≡ Int (pos tally.edited)
  pub same : column row 2 ≡ Int (pos tally.same)
  pub number : column row 3 ≡ Int (pos tally.number)

-- a single number
abbrev pub ShowsNumber : Row → ℕ → Type 0
ShowsNumber row n = column row 0 ≡ Int (pos n)

-- a count below 2^63 - 1; the query returns that number for any greater count
pub record ShowsCount (row : Row) (n : ℕ) : Type 0 where
  pub is : ShowsNumber row n
  pub below : n < 9223372036854775807
