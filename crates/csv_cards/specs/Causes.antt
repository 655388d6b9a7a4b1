-- The numbers of the causes for which a row isn't a card.
use Rattle.std.specs.Prelude.{ℕ, ◌+◌}
use Rattle.vcard_lines.specs.FaultNumbers.{card_fault_number}
use Rattle.vcard_lines.specs.declared.fault.CardFault.{CardFault}
use Rattle.vcard_lines.specs.declared.fault.CardFault.TheVariants as card
use Rattle.csv_cards.specs.declared.cause.CsvCause.{CsvCause}
use Rattle.csv_cards.specs.declared.cause.CsvCause.TheVariants.{BadHeader, Columns, NotUtf8}
use Rattle.csv_cards.specs.declared.cause.CsvCause.TheVariants.{EmptyName, BadCard, UidMismatch}
use Rattle.csv_cards.specs.declared.cause.CsvCause.TheVariants.{DuplicateUid, Memory}

-- the number of a card's fault is increased by 20
abbrev pub cause_number : CsvCause → ℕ
cause_number BadHeader = 1
cause_number Columns = 2
cause_number NotUtf8 = 3
cause_number EmptyName = 4
cause_number (BadCard fault) = 20 + card_fault_number fault
cause_number UidMismatch = 40
cause_number DuplicateUid = 41
cause_number Memory = 50

-- the cause that reports a card's fault
abbrev pub card_fault_cause : CardFault → CsvCause
card_fault_cause card.TooLong = BadCard card.TooLong
card_fault_cause card.NotUtf8 = BadCard card.NotUtf8
card_fault_cause card.BadChar = BadCard card.BadChar
card_fault_cause card.BadLine = BadCard card.BadLine
card_fault_cause card.NoBegin = BadCard card.NoBegin
card_fault_cause card.BadVersion = BadCard card.BadVersion
card_fault_cause card.NoEnd = BadCard card.NoEnd
card_fault_cause card.NoName = BadCard card.NoName
card_fault_cause card.NoUid = BadCard card.NoUid
card_fault_cause card.BadUid = BadCard card.BadUid
card_fault_cause card.Twice = BadCard card.Twice
card_fault_cause card.MemberOutsideGroup = BadCard card.MemberOutsideGroup
card_fault_cause card.Memory = Memory
