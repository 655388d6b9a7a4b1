-- How the order `convert` ends, and what it writes to standard output.
use Rattle.std.specs.Prelude.{ℕ, ◌≡◌, ◌||◌, ◌&&◌, ◌==◌, Bool, not, List, []}
use Rattle.std.specs.Prelude.{Option, IfSome, IsTrue, is_some, nat_lt, if◌then◌else◌}
use Rattle.vcard_lines.specs.declared.line.Line.{Line}
use Rattle.card_conversion.specs.Accounts.{WritesRows}
use Rattle.card_conversion.specs.Courses.{AllHaveFates, Part, cards_of_all, summary_of_all}
use Rattle.card_conversion.specs.Deliveries.{WritesInTurn}
use Rattle.convert_report.specs.declared.ledger.Summary.{Summary}
use Rattle.cli_convert.specs.CardFolders.{FillsFolder}
use Rattle.cli_convert.specs.FileTexts.{ArePartsOf}
use Rattle.cli_convert.specs.declared.options.ConvertOptions.{ConvertOptions}

-- The exit status of a conversion that didn't stop: 0 if all was carried, and 1 if something
-- wasn't, if no card was written, or if a photo was lost that was to be written beside its card.
abbrev pub status_of : Bool → Summary → ℕ
status_of lost summary =
    if summary.refused == 0 && nat_lt 0 summary.written && not lost then 0 else 1

-- rows go to standard output: no folder and no bound is given
abbrev pub prints_rows : ConvertOptions → Bool
prints_rows wanted = not (is_some wanted.folder || is_some wanted.rows || is_some wanted.octets)

-- Files with these texts were converted, one after another. Each piece or row of them has its fate
-- after all before it. The cards among them were written in order, and nothing else. The summary
-- counts the fates.
pub record Converts {A : Type 0} (writes : List Line → A → A → Type 0)
    (texts : List (Option (List ℕ))) (before after : A) (summary : Summary) : Type 0 where
  pub parts : List Part
  pub are : ArePartsOf texts parts
  pub fates : AllHaveFates [] parts
  pub written : WritesInTurn writes (cards_of_all parts) before after
  pub counts : summary ≡ summary_of_all parts

-- The header and the rows of the cards of files with these texts were written, and they are read
-- back as these cards. Each piece or row of the files has its fate after all before it, and the
-- summary counts the fates.
pub record Prints (texts : List (Option (List ℕ))) (before after : Option (List ℕ))
    (summary : Summary) : Type 0 where
  pub parts : List Part
  pub are : ArePartsOf texts parts
  pub fates : AllHaveFates [] parts
  pub counts : summary ≡ summary_of_all parts
  pub rows : WritesRows (cards_of_all parts) before after

-- a file for each card goes to the folder: no bound is given
abbrev pub is_for_cards : ConvertOptions → Bool
is_for_cards wanted = not (is_some wanted.rows || is_some wanted.octets)

-- What a conversion of files with these texts did: it printed rows, or made a file for each card in
-- the folder. Of files of rows nothing is said. `before` and `after` is what standard output got,
-- `place` is where a file was made, and `written` what was written to it.
pub record Does {T : Type 0} (place written : T → Option (List ℕ)) (wanted : ConvertOptions)
    (texts : List (Option (List ℕ))) (before after : Option (List ℕ)) (summary : Summary) : Type 0
  where
    pub prints : IsTrue (prints_rows wanted) → Prints texts before after summary
    pub fills : IfSome wanted.folder (λ folder. IsTrue (is_for_cards wanted)
        → FillsFolder place written folder.now texts summary)

-- A conversion ended with the status that its summary gives. A photo can only be lost if photos are
-- to be written beside their cards.
abbrev pub Ends : Bool → (Summary → Type 0) → ℕ → Type 0
Ends photos Done status = (summary : Summary) × (lost : Bool) × Done summary
    × (status ≡ status_of (photos && lost) summary)
