-- The lines above the header of a file of contacts that count as rows that aren't carried.
use Rattle.std.specs.Prelude.{ℕ, List, [], ◌∷◌, ◌++◌, Option, fold}
use Rattle.vcard_lines.specs.declared.line.Line.{Line}
use Rattle.card_conversion.specs.ContactFates.{RowEntry}
use Rattle.convert_report.specs.Counts.{with_refused}
use Rattle.card_conversion.specs.Courses.{ConvertsPart, ReadsAll, of_rows}
use Rattle.card_conversion.specs.declared.contacts.fate.RowFate.TheVariants.{Refused}
use Rattle.card_conversion.specs.declared.course.Course.{Course}
use Rattle.convert_report.specs.declared.ledger.Summary.{Summary}
use Rattle.contact_columns.specs.declared.above.AboveLine.{AboveLine}
use Rattle.contact_columns.specs.declared.above.AboveLine.TheVariants.{Blank, Note, Row}
use Rattle.contact_csv.specs.Contacts.{columns_of}
use Rattle.contact_csv.specs.RowFaults.{broken_row}
use Rattle.contact_csv.specs.declared.row_fault.RowFault.TheVariants.{Broken}
use Rattle.contact_csv.specs.declared.rows.ContactReader.{ContactReader}

-- the numbers after a line: one that may be a person isn't carried
abbrev pub with_line_above : Summary → AboveLine → Summary
with_line_above summary Blank = summary
with_line_above summary Note = summary
with_line_above summary Row = with_refused summary

-- the numbers after these lines
abbrev pub with_lines_above : Summary → List AboveLine → Summary
with_lines_above summary lines = fold with_line_above summary lines

-- the row that stands for a line that may be a person: it isn't carried, whatever the columns are
abbrev pub lost_row : RowEntry
lost_row = record { fields = broken_row ∷ []; fate = Refused Broken }

-- the rows that stand for these lines
abbrev pub rows_above : List AboveLine → List RowEntry
rows_above [] = []
rows_above (Blank ∷ lines) = rows_above lines
rows_above (Note ∷ lines) = rows_above lines
rows_above (Row ∷ lines) = lost_row ∷ rows_above lines

-- The contacts were converted row by row, after cards with these UIDs, and counted after the lines
-- above their header.
pub record ConvertsUnder {A R : Type 0} (writes : List Line → A → A → Type 0)
    (remaining : R → Option (List ℕ)) (above : List AboveLine) (reader : ContactReader R)
    (uids : List (List ℕ)) (old new : Course) (before after : A) : Type 0 where
  pub entries : List RowEntry
  pub reads : ReadsAll remaining reader entries
  pub part : ConvertsPart writes (of_rows (columns_of reader) (rows_above above ++ entries))
      uids old new before after
