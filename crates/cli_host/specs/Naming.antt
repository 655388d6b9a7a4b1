-- What an order names, for what is said of its stop, and which orders always say something.
use Rattle.std.specs.Prelude.{ℕ, Bool, true, false, List, [], Option, Some, None}
use Rattle.cli_args.specs.declared.order.Order.{Order}
use Rattle.cli_args.specs.declared.order.Order.TheVariants.{Try, Init, Book, Serve, Run, Import}
use Rattle.cli_args.specs.declared.order.Order.TheVariants.{Export, Tally, Forget, Mirror, Expand}
use Rattle.cli_args.specs.declared.order.Order.TheVariants.{Migrate, Check, Books, Verify, Copy}
use Rattle.cli_args.specs.declared.order.Order.TheVariants.{Restore, Resync, ExportCards}
use Rattle.cli_orders.specs.declared.order_names.OrderKind.{OrderKind}
use Rattle.cli_orders.specs.declared.order_names.OrderKind.TheVariants as kind
use Rattle.cli_orders.specs.declared.order_names.OrderNames.{OrderNames}

-- which order it is
abbrev pub kind_of : Order → OrderKind
kind_of Try = kind.Try
kind_of (Serve file port connections) = kind.Serve
kind_of (Run file port socket names max_open idle_timeout max_held creates is_logged site) =
    kind.Run
kind_of (Import file book key csv) = kind.Import
kind_of (Check file) = kind.Check
kind_of (Books file) = kind.Books
kind_of (Verify file) = kind.Verify
kind_of (Copy file target without) = kind.Copy
kind_of (Restore backup file pairs) = kind.Restore
kind_of (Resync file pairs) = kind.Resync
kind_of order = kind.Other

-- The orders beyond the formats say their sentence also where nobody watches. The others print the
-- lines of the formats alone there.
abbrev pub uses_words : OrderKind → Bool
uses_words kind.Run = true
uses_words kind.Check = true
uses_words kind.Books = true
uses_words kind.Verify = true
uses_words kind.Copy = true
uses_words kind.Restore = true
uses_words kind.Resync = true
uses_words order = false

-- the names of an order with these arguments
abbrev pub named : OrderKind → List ℕ → Bool → List ℕ → ℕ → OrderNames
named order file makes_file other port = record {
  kind = order;
  file = file;
  makes_file = makes_file;
  other = other;
  port = port;
}

-- the text, or none if there is none
abbrev pub given : Option (List ℕ) → List ℕ
given None = []
given (Some text) = text

-- the store file of an order that names no other; otherwise, nothing
abbrev pub names_in_file : Order → OrderNames
names_in_file (Book file book) = named kind.Other file false [] 0
names_in_file (Export file book form) = named kind.Other file false [] 0
names_in_file (ExportCards file book is_older) = named kind.Other file false [] 0
names_in_file (Tally file book) = named kind.Other file false [] 0
names_in_file (Forget file book upto) = named kind.Other file false [] 0
names_in_file (Mirror file book limit pages) = named kind.Other file false [] 0
names_in_file (Expand file book uid) = named kind.Other file false [] 0
names_in_file (Migrate file) = named kind.Other file false [] 0
names_in_file (Books file) = named kind.Books file false [] 0
names_in_file (Verify file) = named kind.Verify file false [] 0
names_in_file (Resync file pairs) = named kind.Resync file false [] 0
names_in_file order = named kind.Other [] false [] 0

-- an order's store file, and whether it makes that, its other file or its socket, and its port
abbrev pub names_of : Order → OrderNames
names_of (Init file) = named kind.Other file true [] 0
names_of (Serve file port connections) = named kind.Serve file false [] port
names_of (Run file port socket names max_open idle_timeout max_held creates is_logged site) =
    named kind.Run file creates (given socket) port
names_of (Import file book key csv) = named kind.Import file false csv 0
names_of (Check file) = named kind.Check [] false file 0
names_of (Copy file target without) = named kind.Copy file false target 0
names_of (Restore backup file pairs) = named kind.Restore file true backup 0
names_of Try = named kind.Try [] false [] 0
names_of order = names_in_file order
