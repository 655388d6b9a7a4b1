-- How many cards were written, were changed and weren't carried: the numbers after one more piece.
use Rattle.std.specs.Prelude.{ℕ, ◌+◌, ◌-◌, ◌^◌, ◌==◌, ◌||◌, Bool, not, nat_lt, List, length, min}
use Rattle.std.specs.Prelude.{count_by, if◌then◌else◌}
use Rattle.std.specs.List.{list_any}
use Rattle.std.specs.Str.{chars}
use Rattle.import_text.specs.Encodings.{is_lost}
use Rattle.vcard_lines.specs.declared.line.Line.{Line}
use Rattle.vcard_changes.specs.declared.conversion.Conversion.{Conversion}
use Rattle.convert_report.specs.declared.fate.Fate.{Fate}
use Rattle.convert_report.specs.declared.fate.Fate.TheVariants.{Blank, Other, Long, Overfull, Refused}
use Rattle.convert_report.specs.declared.fate.Fate.TheVariants.{Repeated, Crowded, Declined}
use Rattle.convert_report.specs.declared.fate.Fate.TheVariants.{Written, Moved}
use Rattle.convert_report.specs.declared.ledger.Summary.{Summary}

abbrev pub nothing_counted : Summary
nothing_counted = record { written = 0; changed = 0; refused = 0 }

-- one more, up to the largest number of 64 bits
abbrev pub one_more : ℕ → ℕ
one_more count = min (count + 1) (2 ^ 64 - 1)

-- the text has U+FFFD, which stands for a character that couldn't be read
abbrev pub has_lost : List ℕ → Bool
has_lost text = nat_lt 0 (count_by is_lost (chars text))

-- one of the lines has such a character
abbrev pub have_lost : List Line → Bool
have_lost lines = list_any (λ line. has_lost line.value) lines

-- a change of the card is reported, or characters of it couldn't be read
abbrev pub is_changed : Conversion → Bool
is_changed made = not (length made.changes == 0) || have_lost made.card

-- a card that was written, and that may be changed
abbrev pub with_written : Summary → Conversion → Summary
with_written summary made = record {
  written = one_more summary.written;
  changed = if is_changed made then one_more summary.changed else summary.changed;
  refused = summary.refused;
}

-- a card that was written under a UID of its own, and so is changed
abbrev pub with_moved : Summary → Summary
with_moved summary = record {
  written = one_more summary.written;
  changed = one_more summary.changed;
  refused = summary.refused;
}

abbrev pub with_refused : Summary → Summary
with_refused summary = record {
  written = summary.written;
  changed = summary.changed;
  refused = one_more summary.refused;
}

-- the numbers after a piece with this fate: the same card twice is no loss
abbrev pub counted : Summary → Fate → Summary
counted summary Blank = summary
counted summary Other = with_refused summary
counted summary Long = with_refused summary
counted summary Overfull = with_refused summary
counted summary (Refused fault) = with_refused summary
counted summary (Repeated made) = summary
counted summary (Crowded made) = with_refused summary
counted summary (Declined made words) = with_refused summary
counted summary (Written made) = with_written summary made
counted summary (Moved made) = with_moved summary
