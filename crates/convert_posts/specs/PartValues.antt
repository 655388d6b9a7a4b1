-- Replies as JSON. The member names are this project's own, in the order of their octets.
use Rattle.std.specs.Prelude.{ℕ, List, [], ◌∷◌, codes, map}
use Rattle.serde_json.specs.Data.{Data, string, array}
use Rattle.serde_json.specs.View.{items_of}
use Rattle.convert_posts.specs.declared.part.CardRow.{CardRow}
use Rattle.convert_posts.specs.declared.part.Dates.{Dates}
use Rattle.convert_posts.specs.declared.part.Dates.TheVariants as dates
use Rattle.convert_posts.specs.declared.part.Kind.{Kind}
use Rattle.convert_posts.specs.declared.part.Kind.TheVariants.{Cards, Contacts, Rows}
use Rattle.convert_posts.specs.declared.part.Part.{Part}
use Rattle.convert_posts.specs.declared.part.ReportLine.{ReportLine}
use Rattle.convert_posts.specs.declared.unconverted.Unconverted.{Unconverted}
use Rattle.http_replies.specs.Objects.{json_number, object_of}

-- what a file has
abbrev pub kind_word : Kind → List ℕ
kind_word Cards = codes "cards"
kind_word Contacts = codes "contacts"
kind_word Rows = codes "rows"

-- what is known of the order of day and month in its dates
abbrev pub dates_word : Dates → List ℕ
dates_word dates.Day = codes "day"
dates_word dates.Month = codes "month"
dates_word dates.Unknown = codes "unknown"
dates_word dates.None = codes "none"

-- a line of the report
abbrev pub line_value : ReportLine → Data
line_value line = object_of (
    (codes "card", json_number line.card)
    ∷ (codes "line", json_number line.line)
    ∷ (codes "text", string line.text)
    ∷ []
    )

-- a card that was written
abbrev pub row_value : CardRow → Data
row_value row = object_of (
    (codes "card", json_number row.card)
    ∷ (codes "line", json_number row.line)
    ∷ (codes "uid", string row.uid)
    ∷ (codes "vcard", string row.vcard)
    ∷ []
    )

-- a part of a file
abbrev pub part_value : Part → Data
part_value part = object_of (
    (codes "card", json_number part.card)
    ∷ (codes "changed", json_number part.summary.changed)
    ∷ (codes "columns", string part.columns)
    ∷ (codes "dates", string (dates_word part.dates))
    ∷ (codes "header", json_number part.header)
    ∷ (codes "kind", string (kind_word part.kind))
    ∷ (codes "line", json_number part.line)
    ∷ (codes "not_carried", json_number part.summary.refused)
    ∷ (codes "report", array (items_of (map line_value part.report)))
    ∷ (codes "rows", array (items_of (map row_value part.rows)))
    ∷ (codes "taken", json_number part.taken)
    ∷ (codes "written", json_number part.summary.written)
    ∷ []
    )

-- a file that isn't converted
abbrev pub unconverted_value : Unconverted → Data
unconverted_value fault = object_of (
    (codes "columns", string fault.columns)
    ∷ (codes "fault", string (codes "not-converted"))
    ∷ (codes "number", json_number 35)
    ∷ (codes "text", string fault.text)
    ∷ []
    )
