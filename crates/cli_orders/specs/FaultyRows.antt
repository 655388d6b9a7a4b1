-- What `verify` prints of a damaged file.
use Rattle.std.specs.Prelude.{ℕ, ◌≡◌, ◌⊎◌, ◌==◌, List, [], ◌∷◌, ◌++◌, codes, length, Option, Some}
use Rattle.std.specs.Prelude.{None, Result, Ok, Err, if◌then◌else◌}
use Rattle.std.specs.Fmt.{signed_decimal}
use Rattle.std.specs.Io.KnownBytes.{Appends, Keeps}
use Rattle.base_types.specs.Octets.{line_feed}
use Rattle.book_http.specs.Streams.{WritesPrefix}
use Rattle.request_log.specs.LogLines.{shown}
use Rattle.store_check.specs.declared.faults.FaultyRow.{FaultyRow}
use Rattle.store_check.specs.declared.faults.RowFault.{RowFault}
use Rattle.store_check.specs.declared.faults.RowFault.TheVariants as table
use Rattle.store_schema.specs.declared.open_fault.OpenFault.{OpenFault}
use Rattle.store_schema.specs.declared.open_fault.OpenFault.TheVariants.{Damaged}
use Rattle.cli_orders.specs.RowFaultWords.{row_fault_words}
use Rattle.cli_orders.specs.Stops.{out_of_memory}
use Rattle.cli_orders.specs.declared.stop.Stop.{Stop}
use Rattle.cli_orders.specs.declared.stop.Stop.TheVariants.{Open, Device}

-- ---- the line of a row

-- what the row is
abbrev pub table_word : RowFault → List ℕ
table_word (table.Book fault) = codes "book"
table_word (table.Member fault) = codes "member"
table_word (table.Import fault) = codes "import"
table_word (table.Keep fault) = codes "keep"

-- what comes before the name of its book: a book has the name itself
abbrev pub book_word : RowFault → List ℕ
book_word (table.Book fault) = codes " "
book_word fault = codes " of "

-- the most octets of a name, a UID or a key that are printed
abbrev pub label_octets_max : ℕ
label_octets_max = 255

-- the word and the label, escaped; nothing if the row has no such label
abbrev pub labelled : List ℕ → List ℕ → List ℕ
labelled word label = if length label == 0 then [] else word ++ shown label_octets_max label

-- what the row is, its UID or key, and its book
abbrev pub row_label : FaultyRow → List ℕ
row_label f = table_word f.fault ++ (labelled (codes " ") f.key.items
    ++ labelled (book_word f.fault) f.book.items)

-- the row id, and what is wrong with the row
abbrev pub fault_words : FaultyRow → List ℕ
fault_words f = codes " (row " ++ (signed_decimal f.row
    ++ (codes "): " ++ (row_fault_words f.fault ++ line_feed ∷ [])))

abbrev pub faulty_row_line : FaultyRow → List ℕ
faulty_row_line f = row_label f ++ fault_words f

-- ---- what a search found

-- A damaged file whose rows break the declarations of their tables can't be searched: the search is
-- refused for the same fault. If the search finds no fault or fails otherwise, nothing is known.
abbrev pub damage_text : Result (Option FaultyRow) OpenFault → List ℕ
damage_text (Ok (Some f)) = faulty_row_line f
damage_text (Ok None) = []
damage_text (Err Damaged) = codes "a row breaks the declaration of its table" ++ line_feed ∷ []
damage_text (Err fault) = []

-- The text for what was found is written, and the stop is that of a damaged file; or memory ran
-- out, and nothing is written; or the writer failed, and a prefix is written.
abbrev pub ReportsDamage : Result (Option FaultyRow) OpenFault → Stop → Option (List ℕ)
    → Option (List ℕ) → Type 0
ReportsDamage found stop before after =
    ((stop ≡ Open Damaged) × Appends before after (damage_text found))
    ⊎ (((stop ≡ out_of_memory) × Keeps before after)
    ⊎ ((stop ≡ Device) × WritesPrefix (damage_text found) before after))
