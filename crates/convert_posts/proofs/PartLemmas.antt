-- What a part is, by how it was made.
use Rattle.std.proofs.Common.{◌≡◌, ◌≤◌, ℕ, Bool, List, None, Some, length, take}
use Rattle.card_conversion.specs.LineEnds.{with_line_feeds}
use Rattle.convert_report.specs.declared.ledger.Summary.{Summary}
use Rattle.convert_posts.specs.Parts.{IsOfPieces, IsPart, of_cards, of_export}
use Rattle.convert_posts.specs.declared.part.CardRow.{CardRow}
use Rattle.convert_posts.specs.declared.part.Kind.TheVariants.{Cards, Rows}
use Rattle.convert_posts.specs.declared.part.Part.{Part}

module _ (body : List ℕ) (taken : ℕ) (summary : Summary) (rows : List CardRow) (part : Part)
    (within : taken ≤ length body) (taken_is : part.taken ≡ taken) (counts : part.summary ≡ summary)
    (cards : part.rows ≡ rows) where
  pub cards_are_part : (returns : Bool) → part.kind ≡ Cards
      → IsOfPieces (Some (with_line_feeds returns (take taken body))) summary rows
      → IsPart body part
  cards_are_part returns kind pieces = record {
    within = rw taken_is within;
    converted = of_cards returns kind (rw (taken_is, counts, cards) pieces);
  }

  pub export_is_part : part.kind ≡ Rows → IsOfPieces None summary rows → IsPart body part
  export_is_part kind pieces = record {
    within = rw taken_is within;
    converted = of_export kind (rw (counts, cards) pieces);
  }
