-- What an order does: the command, the file, the port and the limits that it names.
use Rattle.std.specs.Prelude.{ℕ, ◌*◌, ◌-◌, ◌^◌, min, List, Option, Some, None}
use Rattle.book_commands.specs.declared.command.Command.TheVariants.{CreateBook, TallyOf, People}
use Rattle.book_commands.specs.declared.command.Command.TheVariants.{Export as ExportRows}
use Rattle.book_commands.specs.declared.command.Command.TheVariants.{Forget as ForgetUpto}
use Rattle.cli_args.specs.declared.order.Order.{Order}
use Rattle.cli_args.specs.declared.order.Order.TheVariants.{Try, Init, Book, Serve}
use Rattle.cli_args.specs.declared.order.Order.TheVariants.{Import, Export, Tally, Forget, Mirror}
use Rattle.cli_args.specs.declared.order.Order.TheVariants.{Expand, Migrate, Check, Books, Verify}
use Rattle.cli_args.specs.declared.order.Order.TheVariants.{Run, Version, Copy, Restore}
use Rattle.cli_args.specs.declared.order.Order.TheVariants.{Resync as ResyncFile}
use Rattle.cli_args.specs.declared.order.Order.TheVariants.{ExportCards as ExportVcards}
use Rattle.cli_orders.specs.declared.address.Address.{Address}
use Rattle.cli_orders.specs.declared.address.Address.TheVariants.{Port, Socket}
use Rattle.hub_server.specs.declared.limits.ServeLimits.{ServeLimits}
use Rattle.cli_host.specs.declared.work.Work.{Work}
use Rattle.cli_host.specs.declared.work.Work.TheVariants.{Nothing, PrintVersion, CheckFile}
use Rattle.cli_host.specs.declared.work.Work.TheVariants.{CreateFile, MigrateFile, CopyFile}
use Rattle.cli_host.specs.declared.work.Work.TheVariants.{RestoreFile, RunFile, ServeFile, UseFile}
use Rattle.cli_host.specs.declared.work.Work.TheVariants.{VerifyFile}
use Rattle.cli_host.specs.declared.work.StoreWork.TheVariants.{Perform, ImportFile, MirrorBook}
use Rattle.cli_host.specs.declared.work.StoreWork.TheVariants.{ExportCards, ListBooks, Resync}
use Rattle.cli_host.specs.declared.listing.Listing.TheVariants as listing

-- more connections than anybody makes, so that `run` serves until it is stopped
abbrev pub endless_connections : ℕ
endless_connections = 9223372036854775808

-- This number of seconds in milliseconds; a number that has more than 64 bits is cut to 2^64 - 1.
-- The command line allows at most 3,600 seconds.
abbrev pub milliseconds_of : ℕ → ℕ
milliseconds_of seconds = min (seconds * 1000) (2 ^ 64 - 1)

-- at the socket if there is one, and else at the port
abbrev pub address_of : ℕ → Option (List ℕ) → Address
address_of port None = Port port
address_of port (Some path) = Socket path

-- This number of MiB in octets; a number that has more than 64 bits is cut to 2^64 - 1. The command
-- line allows at most 1,024 MiB.
abbrev pub octets_of : ℕ → ℕ
octets_of mebibytes = min (mebibytes * 1048576) (2 ^ 64 - 1)

-- the limits of a server, with its patience in seconds, and in MiB what its connections may hold
abbrev pub limits_of : ℕ → ℕ → ℕ → ℕ → ServeLimits
limits_of connections together patience held = record {
  connections = connections;
  together = together;
  patience = milliseconds_of patience;
  held = octets_of held;
}

-- what an order does that uses the store in a file; for any other order, nothing
abbrev pub store_work_of : Order → Work
store_work_of (Book file book) = UseFile file (Perform (CreateBook book))
store_work_of (Import file book key csv) = UseFile file (ImportFile book key csv)
store_work_of (Export file book form) = UseFile file (Perform (ExportRows book form))
store_work_of (ExportVcards file book is_older) = UseFile file (ExportCards book is_older)
store_work_of (Tally file book) = UseFile file (Perform (TallyOf book))
store_work_of (Forget file book upto) = UseFile file (Perform (ForgetUpto book upto))
store_work_of (Mirror file book limit pages) = UseFile file (MirrorBook book limit pages)
store_work_of (Expand file book uid) = UseFile file (Perform (People book uid))
store_work_of (Books file) = UseFile file (ListBooks listing.Books)
store_work_of (ResyncFile file pairs) = UseFile file (Resync pairs)
store_work_of order = Nothing

-- what an order does that makes, copies or tests a whole file; otherwise, what it does to the store
abbrev pub file_work_of : Order → Work
file_work_of (Init file) = CreateFile file
file_work_of (Migrate file) = MigrateFile file
file_work_of (Copy file target without) = CopyFile file target without
file_work_of (Restore backup file pairs) = RestoreFile backup file pairs
file_work_of (Verify file) = VerifyFile file
file_work_of order = store_work_of order

-- each order's arguments in their places
abbrev pub work_of : Order → Work
work_of Try = Nothing
work_of Version = PrintVersion
work_of (Check file) = CheckFile file
work_of (Run file port socket names max_open idle_timeout max_held creates is_logged site) =
    RunFile file creates names (address_of port socket)
    (limits_of endless_connections max_open idle_timeout max_held) is_logged site
work_of (Serve file port connections) = ServeFile file port connections
work_of order = file_work_of order
