use Rattle.std.proofs.Common.{ℕ, List}
use Rattle.contact_csv.specs.Contacts.{IsReady, columns_of, rows_of}
use Rattle.card_conversion.specs.Courses.{Knows, counts_of}
use Rattle.card_conversion.specs.internal.ContactStates.{Progress}
use Rattle.card_conversion.proofs.contacts.run.convert_more_contacts.Given as goal

-- the rows so far have their fates
abbrev pub invariant-loop-row_number : goal.invariant-loop-row_number
invariant-loop-row_number g l =
    IsReady l.fn.reader → (uids : List (List ℕ)) → Knows l.fn.course uids
    → Progress g.O.CardSink.writes g.R.Read.remaining (columns_of l.fn.reader) (rows_of l.fn.reader)
    uids (counts_of l.fn.course) l.fn.sink l.sink l.contacts l.course.uids (counts_of l.course)
