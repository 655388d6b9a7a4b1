-- The conversion of one more file, after others.
use Rattle.std.specs.Prelude.{ℕ, ◌≡◌, List, [], ◌∷◌, ◌++◌, Option, IfSome, flat_map, fold, true, false}
use Rattle.csv.specs.Reading.{ReadRecord}
use Rattle.csv.specs.declared.reader.Reader.{Reader}
use Rattle.vcard_lines.specs.declared.line.Line.{Line}
use Rattle.contact_columns.specs.declared.columns.Column.{Column}
use Rattle.contact_csv.specs.Contacts.{columns_of, rows_of}
use Rattle.contact_csv.specs.declared.rows.ContactReader.{ContactReader}
use Rattle.card_conversion.specs.ContactAccounts.{ReadsInTurn}
use Rattle.card_conversion.specs.ContactFates as contacts
use Rattle.card_conversion.specs.Counts as pieces
use Rattle.convert_report.specs.Counts.{nothing_counted}
use Rattle.card_conversion.specs.Cuts.{AreCutOff}
use Rattle.card_conversion.specs.Deliveries.{HasUids, WritesInTurn}
use Rattle.card_conversion.specs.Fates.{Entry}
use Rattle.card_conversion.specs.Fates as fates
use Rattle.card_conversion.specs.declared.course.Course.{Course}
use Rattle.convert_report.specs.declared.ledger.Summary.{Summary}

-- the UIDs that are known
abbrev pub Knows : Course → List (List ℕ) → Type 0
Knows course uids = HasUids course.uids uids

-- the numbers so far
abbrev pub counts_of : Course → Summary
counts_of course = course.ledger.summary

-- ---- one file

-- What a file had, each with what became of it: pieces of text, or rows under these columns.
pub data Part : Type 0 where
  of_pieces : List Entry → Part
  of_rows : List Column → List contacts.RowEntry → Part

-- the cards that were written, in order
abbrev pub cards_of : Part → List (List Line)
cards_of (of_pieces entries) = fates.cards_of entries
cards_of (of_rows columns entries) = contacts.cards_of entries

-- the UIDs that are known of it
abbrev pub uids_of : Part → List (List ℕ)
uids_of (of_pieces entries) = fates.uids_of entries
uids_of (of_rows columns entries) = contacts.uids_of entries

-- Each piece, or each row, has its fate after those before it, of which the first come after these
-- UIDs.
abbrev pub HaveFates : List (List ℕ) → Part → Type 0
HaveFates uids (of_pieces entries) = fates.HaveFates uids entries
HaveFates uids (of_rows columns entries) = contacts.HaveFates columns uids entries

-- the numbers after it
abbrev pub counted : Summary → Part → Summary
counted summary (of_pieces entries) = pieces.summary_after summary entries
counted summary (of_rows columns entries) = contacts.summary_after summary entries

-- A file was converted after cards with these UIDs. Its cards were written in order, and nothing
-- else.
pub record ConvertsPart {A : Type 0} (writes : List Line → A → A → Type 0) (part : Part)
    (uids : List (List ℕ)) (old new : Course) (before after : A) : Type 0 where
  pub fates : HaveFates uids part
  pub known : Knows new (uids ++ uids_of part)
  pub written : WritesInTurn writes (cards_of part) before after
  pub counts : counts_of new ≡ counted (counts_of old) part

-- The input was converted piece by piece, after cards with these UIDs. The pieces are all octets of
-- the input, in order, each as it is cut off what the ones before it left.
pub record ConvertsPieces {A : Type 0} (writes : List Line → A → A → Type 0)
    (input : Option (List ℕ)) (uids : List (List ℕ)) (old new : Course) (before after : A) : Type 0
  where
    pub entries : List Entry
    pub whole : IfSome input (λ octets. octets ≡ fates.octets_of entries)
    pub cut : IfSome input (λ octets. AreCutOff octets (fates.pieces_of entries) [])
    pub part : ConvertsPart writes (of_pieces entries) uids old new before after

-- Some texts were converted piece by piece, after cards with these UIDs. Which texts isn't said.
abbrev pub ConvertsTexts : {A : Type 0} → (List Line → A → A → Type 0) → List (List ℕ) → Course
    → Course → A → A → Type 0
ConvertsTexts writes uids old new before after =
    (entries : List Entry) × ConvertsPart writes (of_pieces entries) uids old new before after

-- The rows are all records that the reader has left, in order.
pub record ReadsAll {R : Type 0} (remaining : R → Option (List ℕ)) (reader : ContactReader R)
    (entries : List contacts.RowEntry) : Type 0 where
  pub last : Reader R
  pub read : ReadsInTurn remaining entries (rows_of reader) last
  pub end : Reader R
  pub fields : List (List ℕ)
  pub no_more : ReadRecord remaining last end false fields

-- The contacts were converted row by row, after cards with these UIDs.
pub record ConvertsRows {A R : Type 0} (writes : List Line → A → A → Type 0)
    (remaining : R → Option (List ℕ)) (reader : ContactReader R) (uids : List (List ℕ))
    (old new : Course) (before after : A) : Type 0 where
  pub entries : List contacts.RowEntry
  pub reads : ReadsAll remaining reader entries
  pub part : ConvertsPart writes (of_rows (columns_of reader) entries) uids old new before after

-- ---- all files

-- the cards of all files that were written, in order
abbrev pub cards_of_all : List Part → List (List Line)
cards_of_all parts = flat_map cards_of parts

-- the UIDs that are known of all files
abbrev pub uids_of_all : List Part → List (List ℕ)
uids_of_all parts = flat_map uids_of parts

-- the numbers of all files
abbrev pub summary_of_all : List Part → Summary
summary_of_all parts = fold counted nothing_counted parts

-- Each file has its fates after those before it, of which the first comes after these UIDs.
abbrev pub AllHaveFates : List (List ℕ) → List Part → Type 0
AllHaveFates uids [] = Unit {0}
AllHaveFates uids (part ∷ parts) = HaveFates uids part × AllHaveFates (uids ++ uids_of part) parts

-- These files were converted one after another. Their cards were written in order, and nothing
-- else.
pub record ConvertsParts {A : Type 0} (writes : List Line → A → A → Type 0) (parts : List Part)
    (course : Course) (before after : A) : Type 0 where
  pub fates : AllHaveFates [] parts
  pub known : Knows course (uids_of_all parts)
  pub written : WritesInTurn writes (cards_of_all parts) before after
  pub counts : counts_of course ≡ summary_of_all parts
