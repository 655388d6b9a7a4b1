-- What `check` says to do about a fault.
use Rattle.std.specs.Prelude.{ℕ, List, [], codes}
use Rattle.csv_cards.specs.declared.cause.CsvCause.{CsvCause}
use Rattle.csv_cards.specs.declared.cause.CsvCause.TheVariants as cause
use Rattle.vcard_lines.specs.declared.fault.CardFault.{CardFault}
use Rattle.vcard_lines.specs.declared.fault.CardFault.TheVariants.{BadVersion}

-- a card of another version can be converted
abbrev pub fault_hint : CardFault → List ℕ
fault_hint BadVersion = codes "; try contacts convert"
fault_hint fault = []

-- the hint of a row is that of the card in it
abbrev pub cause_hint : CsvCause → List ℕ
cause_hint (cause.BadCard fault) = fault_hint fault
cause_hint cause = []
