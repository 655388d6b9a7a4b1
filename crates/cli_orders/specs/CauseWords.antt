-- The words for why a row isn't a card.
use Rattle.std.specs.Prelude.{ℕ, List, codes}
use Rattle.csv_cards.specs.declared.cause.CsvCause.{CsvCause}
use Rattle.csv_cards.specs.declared.cause.CsvCause.TheVariants as cause
use Rattle.vcard_lines.specs.FaultNumbers.{card_fault_text}

-- for a fault of the card they are those of the fault
abbrev pub cause_words : CsvCause → List ℕ
cause_words cause.BadHeader =
    codes "the header is neither uid,vcard nor uid,fn,family,given,email,tel,org,note"
cause_words cause.Columns = codes "the number of fields isn't that of the header"
cause_words cause.NotUtf8 = codes "a field isn't UTF-8"
cause_words cause.EmptyName = codes "the name is empty"
cause_words (cause.BadCard fault) = card_fault_text fault
cause_words cause.UidMismatch = codes "the field uid isn't the UID of the card"
cause_words cause.DuplicateUid = codes "an earlier row has the same UID"
cause_words cause.Memory = codes "no memory"
