-- Conversions to a file for each card.
use Rattle.std.proofs.Common.{◌≡◌, ◌∷◌, [], ℕ, List, Option, subst, subst₂}
use Rattle.std.specs.List.{AllByRecursion}
use Rattle.vcard_lines.specs.declared.line.Line.{Line}
use Rattle.card_conversion.specs.Courses.{cards_of_all}
use Rattle.card_conversion.specs.Deliveries.{WritesInTurn}
use Rattle.convert_report.specs.declared.ledger.Summary.{Summary}
use Rattle.vcard_text.specs.Cards.{canonical_text, uid_of}
use Rattle.cli_convert.specs.CardFolders.{IsCardFile}
use Rattle.cli_convert.specs.Endings.{Converts}
use Rattle.cli_convert.specs.MadeFiles.{IsMade}
use Rattle.cli_convert.specs.Names.{card_name, path_in}

module _ {A : Type 0} (IsFile : A → List Line → Type 0) where
  -- a sink that stays as it is made a file for each card
  all_made : (cards : List (List Line)) (before after : A)
      → WritesInTurn (λ card a b. (b ≡ a) × IsFile a card) cards before after
      → AllByRecursion (IsFile before) cards
  all_made [] before after written = tt
  all_made (card ∷ cards) before after written = (
    written.1.1,
    subst (λ a. AllByRecursion (IsFile a) cards) written.1.0
        (all_made cards written.0 after written.2),
  )

  pub made_of : (texts : List (Option (List ℕ))) (before after : A) (summary : Summary)
      → (converts : Converts (λ card a b. (b ≡ a) × IsFile a card) texts before after summary)
      → AllByRecursion (IsFile before) (cards_of_all converts.parts)
  made_of texts before after summary converts =
      all_made (cards_of_all converts.parts) before after converts.written

-- a file that was made at the path of the card has its text
pub card_made : {T : Type 0} (place written : T → Option (List ℕ)) (folder : List ℕ)
    (card : List Line) (number : ℕ) (path text : List ℕ)
    → path ≡ path_in folder (card_name number (uid_of card)) → text ≡ canonical_text card
    → IsMade place written path text → IsCardFile place written folder card
card_made place written folder card number path text at is made =
    (number, subst₂ (IsMade place written) at is made)
