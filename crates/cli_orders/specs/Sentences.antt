-- What is said of a stop before its line, for people: what it is about, what is wrong, and what to
-- do next.
use Rattle.std.specs.Prelude.{ℕ, ◌+◌, ◌==◌, ◌||◌, Bool, true, false, nat_lt, if◌then◌else◌}
use Rattle.std.specs.Prelude.{List, [], ◌∷◌, ◌++◌, codes, decimal, Option, Some, None}
use Rattle.base_types.specs.Octets.{line_feed}
use Rattle.book_model.specs.declared.denied.Fault.TheVariants.{Store, Memory}
use Rattle.book_model.specs.declared.refusal.Refusal.{Refusal}
use Rattle.book_model.specs.declared.refusal.Refusal.TheVariants.{BadCard, BadImport}
use Rattle.cli_orders.specs.Advice.{advice_words}
use Rattle.cli_orders.specs.CauseWords.{cause_words}
use Rattle.cli_orders.specs.Hints.{fault_hint}
use Rattle.cli_orders.specs.RowCauses.{cause_numbered}
use Rattle.cli_orders.specs.StopWords.{device_words, open_advice, open_words, refusal_advice}
use Rattle.cli_orders.specs.StopWords.{refusal_words, store_words, other_words}
use Rattle.cli_orders.specs.declared.advice.Advice.{Advice}
use Rattle.cli_orders.specs.declared.advice.Advice.TheVariants as advise
use Rattle.cli_orders.specs.declared.found_cause.FoundCause.{FoundCause}
use Rattle.cli_orders.specs.declared.found_cause.FoundCause.TheVariants as found
use Rattle.cli_orders.specs.declared.order_names.OrderKind.{OrderKind}
use Rattle.cli_orders.specs.declared.order_names.OrderKind.TheVariants.{Check}
use Rattle.cli_orders.specs.declared.order_names.OrderNames.{OrderNames}
use Rattle.cli_orders.specs.declared.stop.Stop.{Stop}
use Rattle.cli_orders.specs.declared.stop.Stop.TheVariants.{Refused, Fault, Open, Serve, Device}
use Rattle.csv_cards.specs.declared.cause.CsvCause.{CsvCause}
use Rattle.vcard_lines.specs.FaultNumbers.{card_fault_text}
use Rattle.vcard_lines.specs.declared.fault.CardFault.{CardFault}

-- a file, what is wrong with it, and an advice
abbrev pub about : List ℕ → List ℕ → Advice → List ℕ
about name words advice =
    name ++ (codes ": " ++ (words ++ (advice_words advice name ++ line_feed ∷ [])))

-- ---- refusals

-- a card that isn't accepted
abbrev pub card_sentence : CardFault → List ℕ
card_sentence fault = codes "the card isn't accepted: "
    ++ (card_fault_text fault ++ (fault_hint fault ++ line_feed ∷ []))

-- why a row isn't accepted, if its cause is known
abbrev pub row_words : Option CsvCause → List ℕ
row_words (Some cause) = cause_words cause
row_words None = codes "it isn't accepted"

-- a row that isn't accepted, for the cause of this number
abbrev pub row_sentence : List ℕ → ℕ → ℕ → List ℕ
row_sentence rows row number = rows ++ (codes ": row " ++ (decimal row ++ (codes ": "
    ++ (row_words (cause_numbered number)
    ++ (advice_words advise.CheckFile rows ++ line_feed ∷ [])))))

-- a file of rows that isn't accepted, or a vCard in its place
abbrev pub import_sentence : List ℕ → ℕ → ℕ → FoundCause → List ℕ
import_sentence rows row number found.IsCard =
    about rows (codes "this is a vCard") advise.ConvertFile
import_sentence rows row number cause = row_sentence rows row number

abbrev pub refused_sentence : OrderNames → Refusal → FoundCause → List ℕ
refused_sentence names (BadCard fault) cause = card_sentence fault
refused_sentence names (BadImport row number) cause =
    import_sentence names.other row number cause
refused_sentence names refusal cause =
    about names.file (refusal_words refusal) (refusal_advice refusal)

-- ---- devices

-- a port to try in place of this one: 8080 is the first choice, and the next one the second
abbrev pub other_port : ℕ → ℕ
other_port port = if nat_lt port 1024 || port == 65535 then 8080 else port + 1

-- the other file or the socket
abbrev pub other_sentence : OrderNames → FoundCause → List ℕ
other_sentence names cause = about names.other (other_words cause) advise.Nothing

-- another file, a socket or a port that can't be used, or standard input or output
abbrev pub device_sentence : OrderNames → FoundCause → List ℕ
device_sentence names found.PortTaken = codes "port " ++ (decimal names.port
    ++ (codes " is taken; try --port " ++ (decimal (other_port names.port) ++ line_feed ∷ [])))
device_sentence names found.PortDenied = codes "you may not use port " ++ (decimal names.port
    ++ (codes "; try --port " ++ (decimal (other_port names.port) ++ line_feed ∷ [])))
device_sentence names found.Missing = other_sentence names found.Missing
device_sentence names found.IsFolder = other_sentence names found.IsFolder
device_sentence names found.Denied = other_sentence names found.Denied
device_sentence names found.TooLong = other_sentence names found.TooLong
device_sentence names found.Unreadable = other_sentence names found.Unreadable
device_sentence names found.NoFolder = other_sentence names found.NoFolder
device_sentence names found.FolderDenied = other_sentence names found.FolderDenied
device_sentence names found.SocketTaken = other_sentence names found.SocketTaken
device_sentence names found.LongPath = other_sentence names found.LongPath
device_sentence names found.NotSocket = other_sentence names found.NotSocket
device_sentence names cause = device_words names.kind ++ line_feed ∷ []

-- ---- all stops

abbrev pub sentence : OrderNames → Stop → FoundCause → List ℕ
sentence names (Refused refusal) cause = refused_sentence names refusal cause
sentence names (Fault Store) cause = about names.file (store_words cause) advise.Nothing
sentence names (Fault Memory) cause =
    codes "memory ran out; give the program more" ++ line_feed ∷ []
sentence names (Open fault) cause =
    about names.file (open_words fault cause) (open_advice names.kind fault cause)
sentence names (Serve fault) cause =
    codes "a connection failed; those after it were served" ++ line_feed ∷ []
sentence names Device cause = device_sentence names cause

-- `check` has printed why it refuses a file
abbrev pub is_silent : OrderKind → Stop → Bool
is_silent Check (Refused refusal) = true
is_silent kind stop = false

-- what is said before the line of the stop
abbrev pub stop_sentence : OrderNames → Stop → FoundCause → List ℕ
stop_sentence names stop cause =
    if is_silent names.kind stop then [] else sentence names stop cause
