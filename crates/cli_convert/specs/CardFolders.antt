-- The files of cards in a folder.
use Rattle.std.specs.Prelude.{ℕ, ◌≡◌, List, [], Option}
use Rattle.std.specs.List.{AllByRecursion}
use Rattle.vcard_lines.specs.declared.line.Line.{Line}
use Rattle.vcard_text.specs.Cards.{canonical_text, uid_of}
use Rattle.card_conversion.specs.Courses.{AllHaveFates, Part, cards_of_all, summary_of_all}
use Rattle.convert_report.specs.declared.ledger.Summary.{Summary}
use Rattle.cli_convert.specs.FileTexts.{ArePartsOf}
use Rattle.cli_convert.specs.MadeFiles.{IsMade}
use Rattle.cli_convert.specs.Names.{card_name, path_in}

-- `place` is where a file was made, and `written` what was written to it.
module _ {T : Type 0} (place written : T → Option (List ℕ)) (folder : List ℕ) where
  -- a file was made in the folder, under the name of the card, with the card's canonical text
  abbrev pub IsCardFile : List Line → Type 0
  IsCardFile card = (number : ℕ)
      × IsMade place written (path_in folder (card_name number (uid_of card))) (canonical_text card)

  -- A file was made in the folder for each card of files with these texts. Each piece or row of the
  -- files has its fate after all before it, and the summary counts the fates.
  pub record FillsFolder (texts : List (Option (List ℕ))) (summary : Summary) : Type 0 where
    pub parts : List Part
    pub are : ArePartsOf texts parts
    pub fates : AllHaveFates [] parts
    pub counts : summary ≡ summary_of_all parts
    pub made : AllByRecursion IsCardFile (cards_of_all parts)
