-- The words for why an order stopped, and which order helps.
use Rattle.std.specs.Prelude.{ℕ, ℤ, pos, int_lt, List, codes, if◌then◌else◌}
use Rattle.book_model.specs.declared.refusal.Refusal.{Refusal}
use Rattle.book_model.specs.declared.refusal.Refusal.TheVariants.{NoSuchBook, BookExists}
use Rattle.book_model.specs.declared.refusal.Refusal.TheVariants.{BadBookName, NoSuchCard, BadCard}
use Rattle.book_model.specs.declared.refusal.Refusal.TheVariants.{UidMismatch, VersionMismatch}
use Rattle.book_model.specs.declared.refusal.Refusal.TheVariants.{UidTaken, SameBook, BadToken}
use Rattle.book_model.specs.declared.refusal.Refusal.TheVariants.{BadLimit, BookFull, ChangesSpent}
use Rattle.book_model.specs.declared.refusal.Refusal.TheVariants.{BadImport, BadKey, BadForget}
use Rattle.book_model.specs.declared.refusal.Refusal.TheVariants.{NotGroup, TooManyBooks}
use Rattle.cli_orders.specs.declared.advice.Advice.{Advice}
use Rattle.cli_orders.specs.declared.advice.Advice.TheVariants as advise
use Rattle.cli_orders.specs.declared.found_cause.FoundCause.{FoundCause}
use Rattle.cli_orders.specs.declared.found_cause.FoundCause.TheVariants as found
use Rattle.cli_orders.specs.declared.order_names.OrderKind.{OrderKind}
use Rattle.cli_orders.specs.declared.order_names.OrderKind.TheVariants as kind
use Rattle.store_schema.specs.declared.open_fault.OpenFault.{OpenFault}
use Rattle.store_schema.specs.declared.open_fault.OpenFault.TheVariants as open_fault

-- ---- a store file

-- why it can't be used
abbrev pub store_words : FoundCause → List ℕ
store_words found.Missing = codes "there is no such file"
store_words found.NoFolder = codes "there is no folder for it; make that first"
store_words found.IsFolder = codes "it is a folder; name a file"
store_words found.NotPlain = codes "it isn't a plain file with one name"
store_words found.Denied = codes "you may not read and write it"
store_words found.FolderDenied =
    codes "you may not make files in its folder, where its log belongs"
store_words found.ReadOnly = codes "its disk is read-only"
store_words found.DiskFull = codes "its disk is full; make room"
store_words found.Taken = codes "another program has it open"
store_words found.HasJournal =
    codes "a journal of SQLite is beside it; open it with sqlite3 first"
store_words found.Damaged =
    codes "its pages are damaged, or sqlite3 wrote to it; restore a backup"
store_words cause = codes "its disk failed or is full, or what it holds can't be read"

-- Which order helps: one that makes the file, if it is missing. Who looks for the books of a file
-- has no use for an empty one.
abbrev pub store_advice : OrderKind → FoundCause → Advice
store_advice kind.Run found.Missing = advise.RunWithCreate
store_advice kind.Serve found.Missing = advise.InitFile
store_advice kind.Import found.Missing = advise.InitFile
store_advice kind.Other found.Missing = advise.InitFile
store_advice order cause = advise.Nothing

-- what a file of another schema is; this program's is 2
abbrev pub schema_words : ℤ → List ℕ
schema_words has =
    if int_lt (pos 2) has then codes "a newer version of this program made it; use that one"
    else (if int_lt has (pos 2) then codes "it has an older schema"
    else codes "it has the current schema already")

abbrev pub schema_advice : ℤ → Advice
schema_advice has = if int_lt has (pos 2) then advise.MigrateFile else advise.Nothing

-- if a row isn't well formed, `verify` names it
abbrev pub damage_advice : OrderKind → Advice
damage_advice kind.Verify = advise.Nothing
damage_advice order = advise.VerifyFile

-- why it isn't opened, or no store is made in it
abbrev pub open_words : OpenFault → FoundCause → List ℕ
open_words open_fault.Store cause = store_words cause
open_words open_fault.NotOurs cause =
    codes "it isn't a file of this program, or its log isn't beside it"
open_words (open_fault.OtherSchema has) cause = schema_words has
open_words open_fault.Damaged cause = codes "it is damaged; restore a backup"
open_words open_fault.NotEmpty cause = codes "something is there already; nothing was changed"
open_words open_fault.Memory cause = codes "there isn't enough memory to open it"

abbrev pub open_advice : OrderKind → OpenFault → FoundCause → Advice
open_advice order open_fault.Store cause = store_advice order cause
open_advice order (open_fault.OtherSchema has) cause = schema_advice has
open_advice order open_fault.Damaged cause = damage_advice order
open_advice order fault cause = advise.Nothing

-- ---- devices

-- why a file that is no store can't be used, or a socket
abbrev pub other_words : FoundCause → List ℕ
other_words found.Missing = codes "there is no such file"
other_words found.IsFolder = codes "it is a folder; name a file"
other_words found.Denied = codes "you may not read it"
other_words found.TooLong =
    codes "it has more than 8,388,608 octets; make several files of it"
other_words found.NoFolder = codes "there is no folder for it; make that first"
other_words found.FolderDenied = codes "you may not make files in its folder"
other_words found.SocketTaken = codes "another program listens there"
other_words found.LongPath = codes "a socket's path has at most 107 octets; name a shorter one"
other_words found.NotSocket =
    codes "something else is there; move it away, or name another path"
other_words cause = codes "it can't be read"

-- what else than a file or a port can't be used
abbrev pub device_words : OrderKind → List ℕ
device_words kind.Try = codes "standard input can't be read, or standard output can't be written"
device_words kind.Serve =
    codes "standard output can't be written, or waiting for connections failed"
device_words kind.Run =
    codes "standard output can't be written, or waiting for connections failed"
device_words kind.Restore =
    codes "the system refuses to write or to rename a file, or to write standard output"
device_words order = codes "standard output can't be written"

-- ---- refusals

-- why the books don't allow what was asked
abbrev pub refusal_words : Refusal → List ℕ
refusal_words NoSuchBook = codes "there is no such book"
refusal_words BookExists = codes "there is a book of this name already"
refusal_words BadBookName = codes "a book's name is 1 to 40 of a to z, 0 to 9 and the hyphen"
refusal_words NoSuchCard = codes "there is no card with this UID in the book"
refusal_words (BadCard fault) = codes "the card isn't accepted"
refusal_words UidMismatch = codes "the UID isn't that of the card"
refusal_words (VersionMismatch has) = codes "the card has another version"
refusal_words UidTaken = codes "the other book has a card with this UID"
refusal_words SameBook = codes "both books are the same"
refusal_words (BadToken cause) = codes "the sync token isn't accepted"
refusal_words BadLimit = codes "the limit may not be 0"
refusal_words BookFull = codes "the book would have more cards than it may"
refusal_words ChangesSpent = codes "the book would have more changes than it may"
refusal_words (BadImport row cause) = codes "a row isn't accepted"
refusal_words BadKey =
    codes "a key is 1 to 64 of A to Z, a to z, 0 to 9, dot, underscore and hyphen"
refusal_words BadForget =
    codes "the number is below the book's horizon or above its last change"
refusal_words NotGroup = codes "the card isn't a group's"
refusal_words TooManyBooks = codes "it has as many books as it may"

-- which order helps
abbrev pub refusal_advice : Refusal → Advice
refusal_advice NoSuchBook = advise.ListBooks
refusal_advice refusal = advise.Nothing
