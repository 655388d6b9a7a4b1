-- The command line, by `clap`'s definitions.
use Rattle.std.specs.Prelude.{ℕ, ◌≡◌, ⊤, true, false, List, [], ◌∷◌, Some, codes}
use Rattle.clap.specs.Walk.{Rule, Text, rule_of}
use Rattle.clap.specs.Simple.{App, Shape, app_of, new_rule, new_shape}
use Rattle.clap.specs.declared.builder.action.ArgAction.TheVariants.{Append, SetTrue}
use Rattle.clap.specs.declared.builder.arg.Arg.{Arg}
use Rattle.clap.specs.declared.builder.command.Command.{Command}
use Rattle.clap.specs.declared.builder.command.Command.TheViews.{out-Command as fields_of}
use Rattle.clap.specs.declared.builder.value_parser.ValueParser.TheVariants.{Unsigned}

-- ---- arguments and options

-- a required argument
abbrev pub argument : Text → Rule
argument id = record (new_rule id) { required = true }

-- an argument that is given once or more often
abbrev pub repeated_argument : Text → Rule
repeated_argument id = record (argument id) { action = Some Append }

-- a required number from `least` to `most`
abbrev pub number_arg : Text → ℕ → ℕ → Rule
number_arg id least most = record (argument id) { parser = Some (Unsigned least most) }

-- an option with one value, and its default
abbrev pub option_arg : Text → Text → Text → Rule
option_arg id name default = record (new_rule id) { long = Some name; defaults = default ∷ [] }

-- an option whose value is a number from `least` to `most`, and its default
abbrev pub number_option : Text → Text → ℕ → ℕ → Text → Rule
number_option id name least most default =
    record (option_arg id name default) { parser = Some (Unsigned least most) }

-- an option with one value and no default
abbrev pub free_option : Text → Text → Rule
free_option id name = record (new_rule id) { long = Some name }

-- an option with one value, which may be given more than once
abbrev pub repeated_option : Text → Text → Rule
repeated_option id name = record (free_option id name) { action = Some Append }

-- an option without a default, whose value is a number from `least` to `most`
abbrev pub free_number_option : Text → Text → ℕ → ℕ → Rule
free_number_option id name least most =
    record (free_option id name) { parser = Some (Unsigned least most) }

-- an option without a value, also with a name of one letter
abbrev pub flag : Text → Text → ℕ → Rule
flag id name letter = record (new_rule id) {
  long = Some name;
  short = Some letter;
  action = Some SetTrue;
}

-- an option without a value, which has no letter
abbrev pub switch : Text → Text → Rule
switch id name = record (new_rule id) { long = Some name; action = Some SetTrue }

abbrev pub file_arg : Rule
file_arg = argument (codes "FILE")

abbrev pub book_arg : Rule
book_arg = argument (codes "BOOK")

abbrev pub most_number : ℕ
most_number = 999999999999999

-- ---- the orders

abbrev pub order_command : Text → List Rule → Shape
order_command name rules = record (new_shape name) { rules = rules }

abbrev pub try_command : Shape
try_command = order_command (codes "try") []

abbrev pub init_command : Shape
init_command = order_command (codes "init") (file_arg ∷ [])

abbrev pub book_command : Shape
book_command = order_command (codes "book") (file_arg ∷ book_arg ∷ [])

-- the port to listen on
abbrev pub port_option : Text → Rule
port_option default = number_option (codes "P") (codes "port") 0 65535 default

abbrev pub serve_command : Shape
serve_command = order_command (codes "serve")
    (file_arg ∷ port_option (codes "0")
    ∷ number_option (codes "N") (codes "connections") 1 1000000 (codes "1") ∷ [])

-- the Unix socket to listen at in place of a port
abbrev pub socket_option : Rule
socket_option = free_option (codes "PATH") (codes "socket")

-- the names that a request's Host may have
abbrev pub host_option : Rule
host_option = repeated_option (codes "NAME") (codes "host")

-- the maximum number of connections open at once
abbrev pub max_open_option : Rule
max_open_option = number_option (codes "M") (codes "max-open") 1 1000 (codes "256")

-- the seconds after which an idle connection is closed
abbrev pub idle_timeout_option : Rule
idle_timeout_option = number_option (codes "S") (codes "idle-timeout") 1 3600 (codes "60")

-- the MiB that all connections together may hold of long requests and replies
abbrev pub max_held_option : Rule
max_held_option = number_option (codes "MIB") (codes "max-held") 16 1024 (codes "64")

-- whether the file is created if it isn't there
abbrev pub create_switch : Rule
create_switch = switch (codes "create") (codes "create")

-- whether a line is printed for each request
abbrev pub log_switch : Rule
log_switch = switch (codes "log") (codes "log")

-- the folder of a site
abbrev pub site_option : Rule
site_option = free_option (codes "DIR") (codes "site")

abbrev pub run_command : Shape
run_command = order_command (codes "run")
    (file_arg ∷ port_option (codes "8080") ∷ socket_option ∷ host_option ∷ max_open_option
    ∷ idle_timeout_option ∷ max_held_option ∷ create_switch ∷ log_switch ∷ site_option ∷ [])

abbrev pub import_command : Shape
import_command =
    order_command (codes "import")
    (file_arg ∷ book_arg ∷ argument (codes "KEY") ∷ argument (codes "CSV") ∷ [])

abbrev pub export_command : Shape
export_command = order_command (codes "export")
    (file_arg ∷ book_arg ∷ option_arg (codes "F") (codes "form") (codes "cards")
    ∷ switch (codes "vcf") (codes "vcf") ∷ option_arg (codes "V") (codes "as") (codes "4.0") ∷ [])

abbrev pub tally_command : Shape
tally_command = order_command (codes "tally") (file_arg ∷ book_arg ∷ [])

abbrev pub forget_command : Shape
forget_command = order_command (codes "forget")
    (file_arg ∷ book_arg ∷ number_arg (codes "UPTO") 0 most_number ∷ [])

abbrev pub mirror_command : Shape
mirror_command = order_command (codes "mirror")
    (file_arg ∷ book_arg ∷ number_option (codes "L") (codes "limit") 0 most_number (codes "100")
    ∷ number_option (codes "P") (codes "pages") 1 1000000 (codes "1000") ∷ [])

abbrev pub expand_command : Shape
expand_command = order_command (codes "expand") (file_arg ∷ book_arg ∷ argument (codes "UID") ∷ [])

abbrev pub migrate_command : Shape
migrate_command = order_command (codes "migrate") (file_arg ∷ [])

-- the names of the books that are left out
abbrev pub without_option : Rule
without_option = repeated_option (codes "BOOK") (codes "without")

abbrev pub copy_command : Shape
copy_command = order_command (codes "copy")
    (file_arg ∷ argument (codes "NEW") ∷ without_option ∷ [])

-- how many change numbers each book takes
abbrev pub skip_option : Rule
skip_option = number_option (codes "N") (codes "skip") 2 1000000000 (codes "1000000")

abbrev pub resync_command : Shape
resync_command = order_command (codes "resync") (file_arg ∷ skip_option ∷ [])

abbrev pub restore_command : Shape
restore_command = order_command (codes "restore")
    (argument (codes "BACKUP") ∷ file_arg ∷ skip_option ∷ [])

abbrev pub check_command : Shape
check_command = order_command (codes "check") (file_arg ∷ [])

abbrev pub convert_command : Shape
convert_command = order_command (codes "convert")
    (repeated_argument (codes "FILE") ∷ free_option (codes "DIR") (codes "to")
    ∷ free_number_option (codes "ROWS") (codes "rows") 1 10000
    ∷ free_number_option (codes "OCTETS") (codes "octets") 1 8388608
    ∷ switch (codes "day-first") (codes "day-first")
    ∷ switch (codes "month-first") (codes "month-first")
    ∷ free_option (codes "COLUMNS") (codes "columns")
    ∷ free_option (codes "CHARSET") (codes "charset")
    ∷ free_option (codes "REPORT") (codes "report")
    ∷ free_option (codes "PHOTOS") (codes "photos") ∷ [])

abbrev pub books_command : Shape
books_command = order_command (codes "books") (file_arg ∷ [])

abbrev pub verify_command : Shape
verify_command = order_command (codes "verify") (file_arg ∷ [])

-- all orders, in the sequence of the help text
abbrev pub order_commands : List Shape
order_commands = try_command ∷ init_command ∷ book_command ∷ run_command ∷ serve_command
    ∷ import_command
    ∷ export_command ∷ tally_command
    ∷ forget_command ∷ mirror_command ∷ expand_command ∷ migrate_command ∷ copy_command
    ∷ restore_command ∷ resync_command ∷ check_command ∷ convert_command ∷ books_command ∷
    verify_command ∷ []

-- `--version` or `-V`; 86 is the letter V
abbrev pub version_flag : Rule
version_flag = flag (codes "version") (codes "version") 86

-- the whole command line after the program's name
abbrev pub contacts_command : App
contacts_command = record {
  top = record (new_shape (codes "contacts")) {
    rules = version_flag ∷ [];
    is_leaf = false;
    no_binary_name = true;
  };
  subs = order_commands;
}

-- ---- the `clap` values that the code builds

abbrev pub IsArgument : Rule → Arg → Type 0
IsArgument rule arg = (rule_of arg ≡ rule) × (arg.global ≡ false)

abbrev pub AreArguments : List Rule → List Arg → Type 0
AreArguments [] [] = ⊤
AreArguments (rule ∷ rules) (arg ∷ args) = IsArgument rule arg × AreArguments rules args
AreArguments _ _ = ⊥

abbrev pub IsOrderCommand : Shape → Command → Type 0
IsOrderCommand line command = (app_of command ≡ record { top = line; subs = [] })
    × ((fields_of command).has_globals ≡ false)

abbrev pub AreOrderCommands : List Shape → List Command → Type 0
AreOrderCommands [] [] = ⊤
AreOrderCommands (line ∷ lines) (command ∷ commands) =
    IsOrderCommand line command × AreOrderCommands lines commands
AreOrderCommands _ _ = ⊥
