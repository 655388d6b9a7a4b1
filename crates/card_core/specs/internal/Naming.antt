-- The card that a member value names, with its UID.
use Rattle.std.specs.Prelude.{ℕ, ◌≡◌, List, Some}
use Rattle.std.specs.FinMap as finite
use Rattle.vcard_lines.specs.declared.line.Line.{Line}
use Rattle.card_core.specs.Groups.{Cards, uid_named_by}

-- The value names the card with this UID and these lines.
pub record Names (cards : Cards) (value uid : List ℕ) (lines : List Line) : Type 0 where
  pub uid_is : uid_named_by cards value ≡ Some uid
  pub card : finite.get cards uid ≡ Some lines
