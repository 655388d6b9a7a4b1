-- The cause of a refused row, by the number that its refusal has.
use Rattle.std.specs.Prelude.{ℕ, ◌==◌, List, [], ◌∷◌, find, Option}
use Rattle.csv_cards.specs.Causes.{cause_number}
use Rattle.csv_cards.specs.declared.cause.CsvCause.{CsvCause}
use Rattle.csv_cards.specs.declared.cause.CsvCause.TheVariants.{BadHeader, Columns, NotUtf8}
use Rattle.csv_cards.specs.declared.cause.CsvCause.TheVariants.{EmptyName, BadCard, UidMismatch}
use Rattle.csv_cards.specs.declared.cause.CsvCause.TheVariants.{DuplicateUid}
use Rattle.vcard_lines.specs.declared.fault.CardFault.TheVariants as card

-- the causes for which an import refuses a row
abbrev pub row_causes : List CsvCause
row_causes = BadHeader ∷ Columns ∷ NotUtf8 ∷ EmptyName ∷ BadCard card.TooLong
    ∷ BadCard card.NotUtf8 ∷ BadCard card.BadChar ∷ BadCard card.BadLine ∷ BadCard card.NoBegin
    ∷ BadCard card.BadVersion ∷ BadCard card.NoEnd ∷ BadCard card.NoName ∷ BadCard card.NoUid
    ∷ BadCard card.BadUid ∷ BadCard card.Twice ∷ BadCard card.MemberOutsideGroup ∷ UidMismatch
    ∷ DuplicateUid ∷ []

-- the cause that has this number, if one has
abbrev pub cause_numbered : ℕ → Option CsvCause
cause_numbered number = find (λ cause. cause_number cause == number) row_causes
