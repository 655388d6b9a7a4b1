-- Maps in which each card is under its own UID. Their CSV text is read back.
use Rattle.std.specs.Prelude.{ℕ, ◌≡◌, List}
use Rattle.std.specs.List.{AllByRecursion}
use Rattle.std.specs.FinMap as finite
use Rattle.base_types.specs.TextMaps.{text_cmp}
use Rattle.vcard_lines.specs.declared.line.Line.{Line}
use Rattle.vcard_text.specs.Cards.{IsCard, uid_of}

-- The lines are a card, and the key is its UID.
pub record IsUnderOwnUid (entry : List ℕ × List Line) : Type 0 where
  pub card : IsCard entry.1
  pub uid : entry.0 ≡ uid_of entry.1

-- Each entry is a card under its UID.
abbrev pub AreUnderOwnUids : finite.FinMap text_cmp (List Line) → Type 0
AreUnderOwnUids book = AllByRecursion IsUnderOwnUid (finite.entries book)
