-- The order that a command line gives: the value of its matches, by `clap`'s definitions.
use Rattle.std.specs.Prelude.{ℕ, ◌≡◌, ◌≢◌, ◌-◌, ◌^◌, ◌/◌, ◌%◌, ◌==◌, ◌&&◌, ⊤, Bool, true, false}
use Rattle.std.specs.Prelude.{List, [], Option}
use Rattle.std.specs.Prelude.{Some, None, Result, Ok, Err, codes, find, option_map, option_and_then}
use Rattle.std.specs.Prelude.{drop, unwrap_or}
use Rattle.std.specs.Prelude.{if◌then◌else◌}
use Rattle.std.specs.List.{list_all}
use Rattle.std.specs.Str.{bytes_eq}
use Rattle.std.specs.Str.Parse.{digits_value, without_leading_plus}
use Rattle.clap.specs.Walk.{Row, Text, all_of, first_of, is_empty, one_of}
use Rattle.clap.specs.Simple.{matches_of, subcommand_of}
use Rattle.clap.specs.Faults.{fault_of}
use Rattle.clap.specs.ValueTests.{is_unsigned_in}
use Rattle.clap.specs.declared.error.kind.ErrorKind.{ErrorKind}
use Rattle.clap.specs.declared.error.kind.ErrorKind.TheVariants.{OutOfMemory}
use Rattle.clap.specs.declared.parser.matches.ValueSource.{ValueSource}
use Rattle.clap.specs.declared.parser.matches.ValueSource.TheVariants.{CommandLine, DefaultValue}
use Rattle.csv_cards.specs.declared.form.Form.{Form}
use Rattle.csv_cards.specs.declared.form.Form.TheVariants.{Cards, Columns}
use Rattle.cli_args.specs.HostNames.{is_host_name}
use Rattle.cli_args.specs.Subcommands.{contacts_command}
use Rattle.cli_args.specs.declared.fault.LineFault.{LineFault}
use Rattle.cli_args.specs.declared.fault.LineFault.TheVariants.{Bad, Memory}
use Rattle.cli_args.specs.declared.order.Order.{Order}
use Rattle.cli_args.specs.declared.order.Order.TheVariants.{Try, Init, Book, Serve}
use Rattle.cli_args.specs.declared.order.Order.TheVariants.{Import, Export, Tally, Forget, Mirror}
use Rattle.cli_args.specs.declared.order.Order.TheVariants.{Expand, Migrate, Check, Books, Verify}
use Rattle.cli_args.specs.declared.order.Order.TheVariants.{Run, Version, Convert, Copy}
use Rattle.cli_args.specs.declared.order.Order.TheVariants.{Resync, Restore, ExportCards}

-- ---- the values of arguments and options

-- the decimal number of the text, if it is at most `most`
abbrev pub number_upto : ℕ → Text → Option ℕ
number_upto most text = if is_unsigned_in 0 most text
    then Some (digits_value 10 (without_leading_plus text)) else None

abbrev pub form_of : Text → Option Form
form_of text = if bytes_eq text (codes "cards") then Some Cards
    else (if bytes_eq text (codes "columns") then Some Columns else None)

abbrev pub text_arg : Text → List Row → Option Text
text_arg id rows = first_of id rows

-- all values of an option that may be given more than once
abbrev pub texts_arg : Text → List Row → List Text
texts_arg id rows = unwrap_or (all_of id rows) []

-- all values of an argument after the first one
abbrev pub later_texts : Text → List Row → List Text
later_texts id rows = drop 1 (texts_arg id rows)

abbrev pub u64_arg : Text → List Row → Option ℕ
u64_arg id rows = option_and_then (number_upto (2 ^ 64 - 1)) (one_of id rows)

abbrev pub port_arg : List Row → Option ℕ
port_arg rows = option_and_then (number_upto (2 ^ 16 - 1)) (one_of (codes "P") rows)

-- whether the version of vCards is 3.0, and not 4.0
abbrev pub older_of : Text → Option Bool
older_of text = if bytes_eq text (codes "4.0") then Some false
    else (if bytes_eq text (codes "3.0") then Some true else None)

abbrev pub older_arg : List Row → Option Bool
older_arg rows = option_and_then older_of (first_of (codes "V") rows)

abbrev pub form_arg : List Row → Option Form
form_arg rows = option_and_then form_of (first_of (codes "F") rows)

-- where the value came from: the command line, or the default
abbrev pub source_of : Text → List Row → Option ValueSource
source_of id rows = option_and_then (λ r. r.source) (find (λ r. bytes_eq r.id id) rows)

abbrev pub is_command_line : Option ValueSource → Bool
is_command_line (Some CommandLine) = true
is_command_line (Some DefaultValue) = false
is_command_line None = false

-- the option was given on the command line
abbrev pub is_given : Text → List Row → Bool
is_given id rows = is_command_line (source_of id rows)

abbrev pub is_empty_text : Option Text → Bool
is_empty_text (Some text) = bytes_eq text []
is_empty_text None = false

-- the option was given with an empty text
abbrev pub is_given_empty : Text → List Row → Bool
is_given_empty id rows = is_empty_text (text_arg id rows)

-- ---- the orders

abbrev pub with_file : (Text → Option Order) → List Row → Option Order
with_file order rows = option_and_then order (text_arg (codes "FILE") rows)

abbrev pub with_book : (Text → Text → Option Order) → List Row → Option Order
with_book order rows =
    with_file (λ file. option_and_then (order file) (text_arg (codes "BOOK") rows)) rows

abbrev pub init_order : List Row → Option Order
init_order = with_file (λ file. Some (Init file))

abbrev pub book_order : List Row → Option Order
book_order = with_book (λ file book. Some (Book file book))

abbrev pub serve_order : List Row → Option Order
serve_order rows = with_file (λ file. option_and_then (λ port.
    option_map (Serve file port) (u64_arg (codes "N") rows)) (port_arg rows)) rows

-- at the socket if one was given, and else at the port
abbrev pub run_order_of : List Row → Option Order
run_order_of rows = with_file (λ file. option_and_then (λ port. option_and_then (λ max_open.
    option_and_then (λ idle_timeout. option_map (λ max_held.
    Run file port (text_arg (codes "PATH") rows) (texts_arg (codes "NAME") rows)
    max_open idle_timeout max_held
    (is_given (codes "create") rows) (is_given (codes "log") rows) (text_arg (codes "DIR") rows))
    (u64_arg (codes "MIB") rows)) (u64_arg (codes "S") rows)) (u64_arg (codes "M") rows))
    (port_arg rows)) rows

-- a socket and a port exclude each other, a socket has a path, and a name is that of a host
abbrev pub run_order : List Row → Option Order
run_order rows = if is_given (codes "PATH") rows && is_given (codes "P") rows
    then None else (if is_given_empty (codes "PATH") rows then None
    else (if list_all is_host_name (texts_arg (codes "NAME") rows) then run_order_of rows
    else None))

abbrev pub import_order : List Row → Option Order
import_order rows = with_book (λ file book. option_and_then (λ key.
    option_map (Import file book key) (text_arg (codes "CSV") rows))
    (text_arg (codes "KEY") rows)) rows

-- an export as vCards
abbrev pub cards_order : List Row → Option Order
cards_order rows =
    with_book (λ file book. option_map (ExportCards file book) (older_arg rows)) rows

-- an export as CSV
abbrev pub rows_order : List Row → Option Order
rows_order rows = with_book (λ file book. option_map (Export file book) (form_arg rows)) rows

-- vCards have no form, and only they have a version
abbrev pub export_order : List Row → Option Order
export_order rows =
    if is_given (codes "vcf") rows && is_given (codes "F") rows then None
    else (if is_given (codes "vcf") rows then cards_order rows
    else (if is_given (codes "V") rows then None else rows_order rows))

abbrev pub tally_order : List Row → Option Order
tally_order = with_book (λ file book. Some (Tally file book))

abbrev pub forget_order : List Row → Option Order
forget_order rows = with_book (λ file book.
    option_map (Forget file book) (u64_arg (codes "UPTO") rows)) rows

abbrev pub mirror_order : List Row → Option Order
mirror_order rows = with_book (λ file book. option_and_then (λ limit.
    option_map (Mirror file book limit) (u64_arg (codes "P") rows))
    (u64_arg (codes "L") rows)) rows

abbrev pub expand_order : List Row → Option Order
expand_order rows = with_book (λ file book.
    option_map (Expand file book) (text_arg (codes "UID") rows)) rows

abbrev pub migrate_order : List Row → Option Order
migrate_order = with_file (λ file. Some (Migrate file))

-- half of the number, if it is even
abbrev pub half_of : ℕ → Option ℕ
half_of number = if number % 2 == 0 then Some (number / 2) else None

abbrev pub pairs_arg : List Row → Option ℕ
pairs_arg rows = option_and_then half_of (u64_arg (codes "N") rows)

abbrev pub copy_order : List Row → Option Order
copy_order rows = with_file (λ file.
    option_map (λ target. Copy file target (texts_arg (codes "BOOK") rows))
    (text_arg (codes "NEW") rows)) rows

abbrev pub resync_order : List Row → Option Order
resync_order rows = with_file (λ file. option_map (Resync file) (pairs_arg rows)) rows

abbrev pub restore_order : List Row → Option Order
restore_order rows = option_and_then (λ backup. with_file (λ file.
    option_map (Restore backup file) (pairs_arg rows)) rows) (text_arg (codes "BACKUP") rows)

abbrev pub check_order : List Row → Option Order
check_order = with_file (λ file. Some (Check file))

abbrev pub convert_order_of : List Row → Option Order
convert_order_of rows = with_file (λ file. Some (Convert file (later_texts (codes "FILE") rows)
    (text_arg (codes "DIR") rows)
    (u64_arg (codes "ROWS") rows) (u64_arg (codes "OCTETS") rows)
    (is_given (codes "day-first") rows) (is_given (codes "month-first") rows)
    (text_arg (codes "COLUMNS") rows) (text_arg (codes "CHARSET") rows)
    (text_arg (codes "REPORT") rows) (text_arg (codes "PHOTOS") rows))) rows

-- the day and the month don't both come first
abbrev pub convert_order : List Row → Option Order
convert_order rows = if is_given (codes "day-first") rows && is_given (codes "month-first") rows
    then None else convert_order_of rows

abbrev pub books_order : List Row → Option Order
books_order = with_file (λ file. Some (Books file))

abbrev pub verify_order : List Row → Option Order
verify_order = with_file (λ file. Some (Verify file))

-- the order of this name and these matches, if it is one that only looks at a file
abbrev pub file_order_of : Text → List Row → Option Order
file_order_of name rows =
    if bytes_eq name (codes "check") then check_order rows
    else (if bytes_eq name (codes "convert") then convert_order rows
    else (if bytes_eq name (codes "books") then books_order rows
    else (if bytes_eq name (codes "verify") then verify_order rows
    else None)))

-- the order of this name and these matches, if it is one that only reads a book or a file
abbrev pub query_order_of : Text → List Row → Option Order
query_order_of name rows =
    if bytes_eq name (codes "export") then export_order rows
    else (if bytes_eq name (codes "tally") then tally_order rows
    else (if bytes_eq name (codes "mirror") then mirror_order rows
    else (if bytes_eq name (codes "expand") then expand_order rows
    else file_order_of name rows)))

-- the order of this name and these matches, if it creates, changes or reads a book
abbrev pub book_order_of : Text → List Row → Option Order
book_order_of name rows =
    if bytes_eq name (codes "book") then book_order rows
    else (if bytes_eq name (codes "import") then import_order rows
    else (if bytes_eq name (codes "forget") then forget_order rows
    else query_order_of name rows))

-- the order of this name and these matches, if it copies a file, puts a copy back, or is about
-- books
abbrev pub backup_order_of : Text → List Row → Option Order
backup_order_of name rows =
    if bytes_eq name (codes "copy") then copy_order rows
    else (if bytes_eq name (codes "resync") then resync_order rows
    else (if bytes_eq name (codes "restore") then restore_order rows
    else book_order_of name rows))

-- the order of this name and these matches
abbrev pub order_of : Text → List Row → Option Order
order_of name rows =
    if bytes_eq name (codes "try") then Some Try
    else (if bytes_eq name (codes "init") then init_order rows
    else (if bytes_eq name (codes "run") then run_order rows
    else (if bytes_eq name (codes "serve") then serve_order rows
    else (if bytes_eq name (codes "migrate") then migrate_order rows
    else backup_order_of name rows))))

-- the order of the matched name; without a name it is `Try`
abbrev pub named_order : Option (Text × List Row) → Option Order
named_order None = Some Try
named_order (Some named) = order_of named.0 named.1

-- with `--version` it is `Version`, whatever follows
abbrev pub matched_order : List Row → Option (Text × List Row) → Option Order
matched_order rows named =
    if is_given (codes "version") rows then Some Version else named_order named

-- the order of a command line: that of its matches, if `clap` finds no fault with it
abbrev pub order_from : List Text → Option Order
order_from words =
    if is_empty (fault_of contacts_command words)
    then matched_order (matches_of contacts_command words) (subcommand_of contacts_command words)
    else None

-- the result is the expected value, unless an allocation failed
abbrev pub ParsesTo : {A : Type 0} → Option A → Result A LineFault → Type 0
ParsesTo expected (Ok value) = expected ≡ Some value
ParsesTo expected (Err (Bad text)) = expected ≡ None
ParsesTo expected (Err Memory) = ⊤

-- `clap` finds no fault with the arguments, and these are their matches
abbrev pub IsMatched : List Text → List Row → Option (Text × List Row) → Type 0
IsMatched words rows named = (fault_of contacts_command words ≡ [])
    × (rows ≡ matches_of contacts_command words) × (named ≡ subcommand_of contacts_command words)

-- the fault for an error of `clap`; it is `Bad` only if the error isn't out of memory
abbrev pub IsFaultOfKind : ErrorKind → LineFault → Type 0
IsFaultOfKind kind (Bad text) = kind ≢ OutOfMemory
IsFaultOfKind kind Memory = ⊤
