-- Causes: the cause that reports a card's fault, and the least of those that apply.
use Rattle.std.proofs.Common.{[], ◌≡◌, ◌≢◌, ◌≤◌, ◌+◌, ◌⊎◌, ◌↔◌, ℕ, List, length, Some, refl, sym}
use Rattle.std.proofs.Common.{ap, subst, ◌∙◌, arith, inl, inr}
use Rattle.csv.specs.Records.{AllText}
use Rattle.vcard_lines.specs.declared.fault.CardFault.{CardFault}
use Rattle.vcard_lines.specs.declared.fault.CardFault.TheVariants as card
use Rattle.vcard_lines.specs.declared.line.Line.{Line}
use Rattle.vcard_lines.specs.FaultNumbers.{card_fault_number}
use Rattle.csv_cards.specs.declared.form.Form.{Form}
use Rattle.csv_cards.specs.declared.form.Form.TheVariants as form
use Rattle.csv_cards.specs.declared.cause.CsvCause.{CsvCause}
use Rattle.csv_cards.specs.declared.cause.CsvCause.TheVariants as cause
use Rattle.csv_cards.specs.Rows.{Row, row_field, header}
use Rattle.csv_cards.specs.Causes.{cause_number, card_fault_cause}
use Rattle.csv_cards.specs.Columns.{name_in, column_lines}
use Rattle.vcard_text.specs.Cards.{IsCard, uid_of}
use Rattle.vcard_text.specs.FirstFaults.{IsFirstFaultOfText as IsFirstCardFault}
use Rattle.vcard_text.specs.Making.{IsFirstFaultOfLines}
use Rattle.vcard_text.specs.MakingSteps.{first_fault_of_lines}
use Rattle.vcard_text.specs.Spelling.{Spells}
use Rattle.csv_cards.specs.Reading.{CauseApplies, RowHasCardFault, RowHasOtherUid, IsLeastCause}
use Rattle.csv_cards.specs.Reading.{RowRepresents, RowRepeatsUid}
use Rattle.csv_cards.specs.internal.RowCauses.{IsTextCause, IsColumnsCause}

-- ---- a card's fault

pub reported_fault : (fault : CardFault) (why : CsvCause) → why ≡ card_fault_cause fault
    → why ≢ cause.Memory → (why ≡ cause.BadCard fault) × (fault ≢ card.Memory)
reported_fault card.TooLong why e n = (e, λ m. cc m)
reported_fault card.NotUtf8 why e n = (e, λ m. cc m)
reported_fault card.BadChar why e n = (e, λ m. cc m)
reported_fault card.BadLine why e n = (e, λ m. cc m)
reported_fault card.NoBegin why e n = (e, λ m. cc m)
reported_fault card.BadVersion why e n = (e, λ m. cc m)
reported_fault card.NoEnd why e n = (e, λ m. cc m)
reported_fault card.NoName why e n = (e, λ m. cc m)
reported_fault card.NoUid why e n = (e, λ m. cc m)
reported_fault card.BadUid why e n = (e, λ m. cc m)
reported_fault card.Twice why e n = (e, λ m. cc m)
reported_fault card.MemberOutsideGroup why e n = (e, λ m. cc m)
reported_fault card.Memory why e n = absurd (n e)

pub few_numbers : (fault : CardFault) → card_fault_number fault ≤ 13
few_numbers card.TooLong = omega arith
few_numbers card.NotUtf8 = omega arith
few_numbers card.BadChar = omega arith
few_numbers card.BadLine = omega arith
few_numbers card.NoBegin = omega arith
few_numbers card.BadVersion = omega arith
few_numbers card.NoEnd = omega arith
few_numbers card.NoName = omega arith
few_numbers card.NoUid = omega arith
few_numbers card.BadUid = omega arith
few_numbers card.Twice = omega arith
few_numbers card.MemberOutsideGroup = omega arith
few_numbers card.Memory = omega arith

-- ---- what excludes what

some_is : (a b : CardFault) → Some a ≡ Some b → a ≡ b
some_is a b e = cc e

-- a text has at most one first fault, and so have lines
pub record FaultsAreOne : Type 0 where
  pub text : (text : List ℕ) (a b : CardFault) → IsFirstCardFault text a → IsFirstCardFault text b
      → a ≡ b
  pub made : (lines : List Line) (fault : CardFault)
      → IsFirstFaultOfLines lines fault ↔ (first_fault_of_lines lines ≡ Some fault)

pub one_fault : FaultsAreOne → (f : Form) (row : Row) (a b : CardFault) → RowHasCardFault f row a
    → RowHasCardFault f row b → a ≡ b
one_fault one form.Cards row a b is too = one.text (row_field row 1) a b is.first too.first
one_fault one form.Columns row a b is too =
    some_is a b (sym ((one.made (column_lines row) a).0 is.first)
    ∙ (one.made (column_lines row) b).0 too.first)

module _ (one_card : (text : List ℕ) (a b : List Line) → Spells text a → Spells text b
    → a ≡ b) (row : Row) (lines : List Line) where
  pub is_named : (f : Form) → RowRepresents f row lines → (f ≡ form.Columns) × (name_in row ≡ [])
      → ⊥
  is_named form.Cards represents nameless = cc nameless.0
  is_named form.Columns represents nameless = represents.holds.named nameless.1

  pub has_no_fault : (f : Form) (fault : CardFault) → RowRepresents f row lines
      → RowHasCardFault f row fault → ⊥
  has_no_fault form.Cards fault represents bad = bad.none lines represents.holds.text
  has_no_fault form.Columns fault represents bad =
      bad.none (subst IsCard represents.holds.lines represents.holds.rules)

  its_uid : (other : RowHasOtherUid row) → lines ≡ other.card → (row_field row 0 ≡ [])
      ⊎ (row_field row 0 ≡ uid_of lines) → ⊥
  its_uid other same (inl none) = other.given none
  its_uid other same (inr own) = other.other (own ∙ ap uid_of same)

  pub has_its_uid : (f : Form) → RowRepresents f row lines → (f ≡ form.Cards) × RowHasOtherUid row
      → ⊥
  has_its_uid form.Cards represents other =
      its_uid other.1 (one_card (row_field row 1) lines other.1.card represents.holds.text
      other.1.text) represents.holds.uid
  has_its_uid form.Columns represents other = cc other.0

-- ---- the least cause

module _ (f : Form) (earlier : List (List Line)) (row : Row) where
  pub columns_least : length row ≢ length (header f) → IsLeastCause f earlier row cause.Columns
  columns_least few = record { applies = few; least = least }
    where
      least : (other : CsvCause) → CauseApplies f earlier row other → 2 ≤ cause_number other
      least cause.BadHeader none = absurd none
      least cause.Columns too = omega arith
      least cause.NotUtf8 too = omega arith
      least cause.EmptyName too = omega arith
      least (cause.BadCard fault) too = omega arith
      least cause.UidMismatch too = omega arith
      least cause.DuplicateUid too = omega arith
      least cause.Memory none = absurd none

  module _ (many : length row ≡ length (header f)) where
    pub utf8_least : (AllText row → ⊥) → IsLeastCause f earlier row cause.NotUtf8
    utf8_least other_octets = record { applies = other_octets; least = least }
      where
        least : (other : CsvCause) → CauseApplies f earlier row other → 3 ≤ cause_number other
        least cause.BadHeader none = absurd none
        least cause.Columns none = absurd (none many)
        least cause.NotUtf8 too = omega arith
        least cause.EmptyName too = omega arith
        least (cause.BadCard fault) too = omega arith
        least cause.UidMismatch too = omega arith
        least cause.DuplicateUid too = omega arith
        least cause.Memory none = absurd none

  module _ (many : length row ≡ length (header f)) (text : AllText row) where
    -- a fault of the card itself
    fault_least : FaultsAreOne → (fault : CardFault)
        → CauseApplies f earlier row (cause.BadCard fault)
        → (CauseApplies f earlier row cause.EmptyName → ⊥)
        → IsLeastCause f earlier row (cause.BadCard fault)
    fault_least one fault bad named = record { applies = bad; least = least }
      where
        least : (other : CsvCause) → CauseApplies f earlier row other
            → 20 + card_fault_number fault ≤ cause_number other
        least cause.BadHeader none = absurd none
        least cause.Columns none = absurd (none many)
        least cause.NotUtf8 none = absurd (none text)
        least cause.EmptyName none = absurd (named none)
        least (cause.BadCard other) too =
            let same : fault ≡ other = one_fault one f row fault other bad too in
            rw same (omega arith)
        least cause.UidMismatch too = let few = few_numbers fault in omega (arith, few)
        least cause.DuplicateUid too = let few = few_numbers fault in omega (arith, few)
        least cause.Memory none = absurd none

    pub repeated_least : ((text : List ℕ) (a b : List Line) → Spells text a → Spells text b → a ≡ b)
        → RowRepeatsUid f earlier row → IsLeastCause f earlier row cause.DuplicateUid
    repeated_least one_card repeats = record { applies = repeats; least = least }
      where
        least : (other : CsvCause) → CauseApplies f earlier row other → 41 ≤ cause_number other
        least cause.BadHeader none = absurd none
        least cause.Columns none = absurd (none many)
        least cause.NotUtf8 none = absurd (none text)
        least cause.EmptyName none = absurd (is_named one_card row repeats.card f repeats.represents
            none)
        least (cause.BadCard fault) none =
            absurd (has_no_fault one_card row repeats.card f fault repeats.represents none)
        least cause.UidMismatch none = absurd (has_its_uid one_card row repeats.card f
            repeats.represents none)
        least cause.DuplicateUid too = omega arith
        least cause.Memory none = absurd none

-- ---- rows of a UID and a card's text

module _ (earlier : List (List Line)) (row : Row) (many : length row ≡ length (header form.Cards))
    (text : AllText row) where
  mismatch_least : RowHasOtherUid row → IsLeastCause form.Cards earlier row cause.UidMismatch
  mismatch_least other_uid = record { applies = (refl, other_uid); least = least }
    where
      least : (other : CsvCause) → CauseApplies form.Cards earlier row other
          → 40 ≤ cause_number other
      least cause.BadHeader none = absurd none
      least cause.Columns none = absurd (none many)
      least cause.NotUtf8 none = absurd (none text)
      least cause.EmptyName none = cc none.0
      least (cause.BadCard fault) none = absurd (none.none other_uid.card other_uid.text)
      least cause.UidMismatch too = omega arith
      least cause.DuplicateUid too = omega arith
      least cause.Memory none = absurd none

  pub text_least : FaultsAreOne → (why : CsvCause) → IsTextCause row why
      → IsLeastCause form.Cards earlier row why
  text_least one why (inl (fault, is, bad)) =
      rw is (fault_least form.Cards earlier row many text one fault bad (λ none. cc none.0))
  text_least one why (inr (is, other_uid)) = rw is (mismatch_least other_uid)

-- ---- rows of columns

module _ (earlier : List (List Line)) (row : Row) (many : length row ≡ length (header form.Columns))
    (text : AllText row) where
  nameless_least : name_in row ≡ [] → IsLeastCause form.Columns earlier row cause.EmptyName
  nameless_least nameless = record { applies = (refl, nameless); least = least }
    where
      least : (other : CsvCause) → CauseApplies form.Columns earlier row other
          → 4 ≤ cause_number other
      least cause.BadHeader none = absurd none
      least cause.Columns none = absurd (none many)
      least cause.NotUtf8 none = absurd (none text)
      least cause.EmptyName too = omega arith
      least (cause.BadCard fault) too = omega arith
      least cause.UidMismatch too = omega arith
      least cause.DuplicateUid too = omega arith
      least cause.Memory none = absurd none

  pub columns_cause_least : FaultsAreOne → (why : CsvCause) → IsColumnsCause row why
      → IsLeastCause form.Columns earlier row why
  columns_cause_least one why (inl (is, nameless)) = rw is (nameless_least nameless)
  columns_cause_least one why (inr (fault, is, named, bad)) =
      rw is (fault_least form.Columns earlier row many text one fault bad
      (λ nameless. named nameless.1))
