-- The list of commands has all orders, in the sequence of the help text.
-- Given here: the list before each order is added (`up_to_try` to `up_to_books`). The clause of
-- `with_command` holds for any list and any order, so each step has to name both.
-- A new order needs its own list at its place, and all `in_ok-lines` after it are numbered anew.
use Rattle.std.proofs.Common.{List, [], ◌∷◌, ◌++◌}
use Rattle.clap.specs.Simple.{Shape}
use Rattle.cli_args.specs.Subcommands.{book_command, books_command, check_command, convert_command}
use Rattle.cli_args.specs.Subcommands.{copy_command, expand_command, export_command, forget_command}
use Rattle.cli_args.specs.Subcommands.{import_command, init_command, migrate_command}
use Rattle.cli_args.specs.Subcommands.{mirror_command, restore_command, resync_command, run_command}
use Rattle.cli_args.specs.Subcommands.{serve_command, tally_command, try_command, verify_command}
use Rattle.cli_args.proofs.subcommands.order_commands.Goals as goal

-- the list of orders up to each of them
abbrev up_to_try : List Shape
up_to_try = try_command ∷ []

abbrev up_to_init : List Shape
up_to_init = up_to_try ++ init_command ∷ []

abbrev up_to_book : List Shape
up_to_book = up_to_init ++ book_command ∷ []

abbrev up_to_run : List Shape
up_to_run = up_to_book ++ run_command ∷ []

abbrev up_to_serve : List Shape
up_to_serve = up_to_run ++ serve_command ∷ []

abbrev up_to_import : List Shape
up_to_import = up_to_serve ++ import_command ∷ []

abbrev up_to_export : List Shape
up_to_export = up_to_import ++ export_command ∷ []

abbrev up_to_tally : List Shape
up_to_tally = up_to_export ++ tally_command ∷ []

abbrev up_to_forget : List Shape
up_to_forget = up_to_tally ++ forget_command ∷ []

abbrev up_to_mirror : List Shape
up_to_mirror = up_to_forget ++ mirror_command ∷ []

abbrev up_to_expand : List Shape
up_to_expand = up_to_mirror ++ expand_command ∷ []

abbrev up_to_migrate : List Shape
up_to_migrate = up_to_expand ++ migrate_command ∷ []

abbrev up_to_copy : List Shape
up_to_copy = up_to_migrate ++ copy_command ∷ []

abbrev up_to_restore : List Shape
up_to_restore = up_to_copy ++ restore_command ∷ []

abbrev up_to_resync : List Shape
up_to_resync = up_to_restore ++ resync_command ∷ []

abbrev up_to_check : List Shape
up_to_check = up_to_resync ++ check_command ∷ []

abbrev up_to_convert : List Shape
up_to_convert = up_to_check ++ convert_command ∷ []

abbrev up_to_books : List Shape
up_to_books = up_to_convert ++ books_command ∷ []

pub returns : goal.returns
returns c =
    let tries = c.in_ok-lines.ensures [] try_command (rw c.new.ensures.items tt)
    c.try_command.ensures in
    let inits = c.in_ok-lines-2.ensures up_to_try init_command tries c.init_command.ensures in
    let books = c.in_ok-lines-3.ensures up_to_init book_command inits c.book_command.ensures in
    let runs = c.in_ok-lines-4.ensures up_to_book run_command books c.run_command.ensures in
    let serves = c.in_ok-lines-5.ensures up_to_run serve_command runs c.serve_command.ensures in
    let imports = c.in_ok-lines-6.ensures up_to_serve import_command serves
    c.import_command.ensures in
    let exports = c.in_ok-lines-7.ensures up_to_import export_command imports
    c.export_command.ensures in
    let tallies = c.in_ok-lines-8.ensures up_to_export tally_command exports
    c.tally_command.ensures in
    let forgets = c.in_ok-lines-9.ensures up_to_tally forget_command tallies
    c.forget_command.ensures in
    let mirrors = c.in_ok-lines-10.ensures up_to_forget mirror_command forgets
    c.mirror_command.ensures in
    let expands = c.in_ok-lines-11.ensures up_to_mirror expand_command mirrors
    c.expand_command.ensures in
    let migrates = c.in_ok-lines-12.ensures up_to_expand migrate_command expands
    c.migrate_command.ensures in
    let copies = c.in_ok-lines-13.ensures up_to_migrate copy_command migrates
    c.copy_command.ensures in
    let restores = c.in_ok-lines-14.ensures up_to_copy restore_command copies
    c.restore_command.ensures in
    let resyncs = c.in_ok-lines-15.ensures up_to_restore resync_command restores
    c.resync_command.ensures in
    let checks = c.in_ok-lines-16.ensures up_to_resync check_command resyncs
    c.check_command.ensures in
    let converts = c.in_ok-lines-17.ensures up_to_check convert_command checks
    c.convert_command.ensures in
    let lists = c.in_ok-lines-18.ensures up_to_convert books_command converts
    c.books_command.ensures in
    c.with_command-19.ensures up_to_books verify_command lists c.verify_command.ensures
