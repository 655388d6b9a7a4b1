-- The numbers and texts of refusals, faults and the causes of a refused token in replies.
-- `valid-sync-token` and `number-of-matches-within-limits` are the preconditions of RFC 6578,
-- sections 3.2 and 3.7; the others are this project's own.
use Rattle.std.specs.Prelude.{ℕ, List, codes}
use Rattle.book_model.specs.declared.refusal.Refusal.{Refusal}
use Rattle.book_model.specs.declared.refusal.Refusal.TheVariants.{NoSuchBook, BookExists}
use Rattle.book_model.specs.declared.refusal.Refusal.TheVariants.{BadBookName, NoSuchCard, BadCard}
use Rattle.book_model.specs.declared.refusal.Refusal.TheVariants.{UidMismatch, VersionMismatch}
use Rattle.book_model.specs.declared.refusal.Refusal.TheVariants.{UidTaken, SameBook, BadToken}
use Rattle.book_model.specs.declared.refusal.Refusal.TheVariants.{BadLimit, BookFull, ChangesSpent}
use Rattle.book_model.specs.declared.refusal.Refusal.TheVariants.{BadImport, BadKey, BadForget}
use Rattle.book_model.specs.declared.refusal.Refusal.TheVariants.{NotGroup, TooManyBooks}
use Rattle.book_model.specs.declared.refusal.TokenCause.{TokenCause}
use Rattle.book_model.specs.declared.refusal.TokenCause.TheVariants.{Malformed, OtherBook, TooNew}
use Rattle.book_model.specs.declared.refusal.TokenCause.TheVariants.{TooOld}
use Rattle.book_model.specs.declared.denied.Denied.{Denied}
use Rattle.book_model.specs.declared.denied.Denied.TheVariants.{Refused, Fault as Faulted}
use Rattle.book_model.specs.declared.denied.Fault.{Fault}
use Rattle.book_model.specs.declared.denied.Fault.TheVariants.{Store, Memory}

abbrev pub refusal_number : Refusal → ℕ
refusal_number NoSuchBook = 1
refusal_number BookExists = 2
refusal_number BadBookName = 3
refusal_number NoSuchCard = 4
refusal_number (BadCard fault) = 5
refusal_number UidMismatch = 6
refusal_number (VersionMismatch has) = 7
refusal_number UidTaken = 8
refusal_number SameBook = 9
refusal_number (BadToken cause) = 10
refusal_number BadLimit = 11
refusal_number BookFull = 12
refusal_number ChangesSpent = 13
refusal_number (BadImport row cause) = 14
refusal_number BadKey = 15
refusal_number BadForget = 16
refusal_number NotGroup = 17
refusal_number TooManyBooks = 18

abbrev pub refusal_text : Refusal → List ℕ
refusal_text NoSuchBook = codes "no-such-book"
refusal_text BookExists = codes "book-exists"
refusal_text BadBookName = codes "bad-book-name"
refusal_text NoSuchCard = codes "no-such-card"
refusal_text (BadCard fault) = codes "bad-card"
refusal_text UidMismatch = codes "uid-mismatch"
refusal_text (VersionMismatch has) = codes "version-mismatch"
refusal_text UidTaken = codes "uid-taken"
refusal_text SameBook = codes "same-book"
refusal_text (BadToken cause) = codes "valid-sync-token"
refusal_text BadLimit = codes "number-of-matches-within-limits"
refusal_text BookFull = codes "book-full"
refusal_text ChangesSpent = codes "changes-spent"
refusal_text (BadImport row cause) = codes "bad-import"
refusal_text BadKey = codes "bad-key"
refusal_text BadForget = codes "bad-forget"
refusal_text NotGroup = codes "not-group"
refusal_text TooManyBooks = codes "too-many-books"

abbrev pub book_fault_number : Fault → ℕ
book_fault_number Store = 19
book_fault_number Memory = 20

abbrev pub book_fault_text : Fault → List ℕ
book_fault_text Store = codes "store-fault"
book_fault_text Memory = codes "no-memory"

abbrev pub denied_text : Denied → List ℕ
denied_text (Refused refusal) = refusal_text refusal
denied_text (Faulted fault) = book_fault_text fault

abbrev pub token_cause_number : TokenCause → ℕ
token_cause_number Malformed = 1
token_cause_number OtherBook = 2
token_cause_number TooNew = 3
token_cause_number TooOld = 4
