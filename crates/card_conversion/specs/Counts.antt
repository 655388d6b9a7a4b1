-- How many cards of a file were written, were changed and weren't carried.
use Rattle.std.specs.Prelude.{List, fold}
use Rattle.convert_report.specs.Counts.{counted, nothing_counted}
use Rattle.convert_report.specs.declared.ledger.Summary.{Summary}
use Rattle.card_conversion.specs.Fates.{Entry}

-- the numbers after more pieces
abbrev pub summary_after : Summary → List Entry → Summary
summary_after start entries = fold (λ summary entry. counted summary entry.fate) start entries

-- the numbers of all pieces
abbrev pub summary_of : List Entry → Summary
summary_of entries = summary_after nothing_counted entries
