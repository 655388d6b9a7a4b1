-- The definitions tested on a worked history: each call is computed for small cards, and compared.
use Rattle.std.proofs.Common.{◌≡◌, ℕ, true, false, List, [], ◌∷◌, Option, Some, None, Result, Ok}
use Rattle.std.proofs.Common.{Err}
use Rattle.std.specs.Prelude.{codes}
use Rattle.std.specs.FinMap as finite
use Rattle.std.specs.FinMap.{gets}
use Rattle.vcard_lines.specs.declared.line.Line.{Line}
use Rattle.book_model.specs.declared.answers.PutAnswer.TheVariants.{Created, Edited, Unchanged}
use Rattle.book_model.specs.declared.change.Change.TheVariants.{Stores, TakesAway}
use Rattle.book_model.specs.declared.change.StoreReason.TheVariants.{Creation, Edit, Import}
use Rattle.book_model.specs.declared.change.StoreReason.TheVariants.{ImportEdit, MoveIn}
use Rattle.book_model.specs.declared.change.RemovalReason.TheVariants.{Deletion, MoveOut}
use Rattle.book_model.specs.declared.page.Entry.{Entry}
use Rattle.book_model.specs.declared.page.Entry.TheVariants.{Changed, Removed}
use Rattle.book_model.specs.declared.refusal.Refusal.{Refusal}
use Rattle.book_model.specs.declared.refusal.Refusal.TheVariants.{BadKey, BookExists, NoSuchCard}
use Rattle.book_model.specs.declared.refusal.Refusal.TheVariants.{UidTaken, SameBook}
use Rattle.book_model.specs.declared.refusal.Refusal.TheVariants.{VersionMismatch, BadToken}
use Rattle.book_model.specs.declared.refusal.Refusal.TheVariants.{BadLimit, BadForget, BookFull}
use Rattle.book_model.specs.declared.refusal.Refusal.TheVariants.{ChangesSpent, TooManyBooks}
use Rattle.book_model.specs.declared.refusal.TokenCause.TheVariants.{OtherBook, TooNew, TooOld}
use Rattle.book_model.specs.declared.token.Token.{Token}
use Rattle.book_model.specs.Bounds.{Bounds, bounds_of, standard_keep}
use Rattle.book_laws.specs.Calls.{Call, CreateBookCall, PutCall, RemoveCall, MoveCall, ImportCall}
use Rattle.book_laws.specs.Calls.{KeptImportCall, ForgetCall, ReportCall, BookLineCall, TallyCall}
use Rattle.book_laws.specs.Calls.{CallAnswer, ReturnedId, ReturnedPut, ReturnedRemoval}
use Rattle.book_laws.specs.Calls.{ReturnedMove, ReturnedImport, ReturnedDropped, ReturnedBookLine}
use Rattle.book_laws.specs.Calls.{ReturnedKeptImport, ReturnedPage, ReturnedTally, answers_to_calls}
use Rattle.book_laws.specs.Calls.{histories_after_calls}
use Rattle.book_laws.specs.EventLogs.{BookEvent}
use Rattle.book_laws.specs.StoreHistories.{BookHistory, BookHistories}
use Rattle.book_laws.specs.HistoryChanges.{event}

abbrev line : List ℕ → List ℕ → Line
line name value = record { group = None; name = name; params = []; value = value }

-- a card of a UID and a name
abbrev card : List ℕ → List ℕ → List Line
card uid name = line (codes "UID") uid ∷ line (codes "FN") name ∷ []

abbrev standard : Bounds
standard = bounds_of 100 10000 1000000000000 100

abbrev none : BookHistories
none = finite.empty

abbrev staff : List ℕ
staff = codes "staff"

abbrev clients : List ℕ
clients = codes "clients"

abbrev a : List ℕ
a = codes "a"

abbrev b : List ℕ
b = codes "b"

abbrev c : List ℕ
c = codes "c"

abbrev d : List ℕ
d = codes "d"

abbrev ann : List Line
ann = card a (codes "Ann")

abbrev anna : List Line
anna = card a (codes "Anna")

abbrev bob : List Line
bob = card b (codes "Bob")

abbrev rob : List Line
rob = card b (codes "Rob")

abbrev cy : List Line
cy = card c (codes "Cy")

abbrev dee : List Line
dee = card d (codes "Dee")

abbrev token : ℕ → ℕ → ℕ → Option Token
token book at base = Some (record { book = book; mark = record { at = at; base = base } })

abbrev page : List Entry → ℕ → ℕ → Result CallAnswer Refusal
page entries at base = Ok (ReturnedPage (record {
  book = 1;
  entries = entries;
  mark = record { at = at; base = base };
  truncated = false;
}))

abbrev cut : List Entry → ℕ → ℕ → Result CallAnswer Refusal
cut entries at base = Ok (ReturnedPage (record {
  book = 1;
  entries = entries;
  mark = record { at = at; base = base };
  truncated = true;
}))

abbrev history : ℕ → ℕ → List BookEvent → BookHistory
history id horizon log = record {
  id = id;
  log = log;
  horizon = horizon;
  keep = standard_keep;
  imports = finite.empty;
}

abbrev only_staff : ℕ → List BookEvent → BookHistories
only_staff horizon log = finite.insert none staff (history 1 horizon log)

-- ---- an empty book

pub empty_book_has_no_members : answers_to_calls standard none (CreateBookCall staff ∷ ReportCall
    staff None None ∷ []) ≡ Ok (ReturnedId 1) ∷ page [] 0 0 ∷ []
empty_book_has_no_members = simp gets

-- ---- puts, an edit and a removal

abbrev five : List BookEvent
five = event b (TakesAway Deletion) ∷ event a (Stores anna Edit) ∷ event c (Stores cy Creation) ∷
    event b (Stores bob Creation) ∷ event a (Stores ann Creation) ∷ []

abbrev first_calls : List Call
first_calls = CreateBookCall staff ∷ PutCall staff ann None ∷ PutCall staff bob None ∷ PutCall staff
    cy None ∷ PutCall staff anna None ∷ RemoveCall staff b None ∷ []

pub changes_take_numbers : answers_to_calls standard none first_calls ≡ Ok (ReturnedId 1) ∷ Ok
    (ReturnedPut (Created 1)) ∷ Ok (ReturnedPut (Created 2)) ∷ Ok (ReturnedPut (Created 3)) ∷ Ok
    (ReturnedPut (Edited 4)) ∷ Ok (ReturnedRemoval 5) ∷ []
changes_take_numbers = simp gets

pub changes_are_events : finite.get (histories_after_calls standard none first_calls) staff
    ≡ Some (history 1 0 five)
changes_are_events = simp gets

pub changes_are_tallied : answers_to_calls standard (only_staff 0 five) (TallyCall staff ∷ [])
    ≡ Ok (ReturnedTally (record {
      number = 5;
      horizon = 0;
      cards = 2;
      created = 3;
      edited = 1;
      imported = 0;
      import_edited = 0;
      moved_in = 0;
      deleted = 1;
      moved_out = 0;
      remembered = 1;
    })) ∷
    []
changes_are_tallied = simp gets

-- ---- an initial report in pages, and a whole one

pub first_page_is_cut : answers_to_calls standard (only_staff 0 five)
    (ReportCall staff None (Some 1) ∷ []) ≡ cut (Changed c 3 cy ∷ []) 3 5 ∷ []
first_page_is_cut = simp gets

pub just_as_many_are_whole : answers_to_calls standard (only_staff 0 five)
    (ReportCall staff (token 1 3 5) (Some 1) ∷ []) ≡ page (Changed a 4 anna ∷ []) 5 5 ∷ []
just_as_many_are_whole = simp gets

pub later_reports : answers_to_calls standard (only_staff 0 five) (ReportCall staff None None ∷
    ReportCall staff (token 1 2 2) None ∷ ReportCall staff (token 1 4 4) None ∷ ReportCall staff
    (token 1 5 6) None ∷ [])
    ≡ page (Changed c 3 cy ∷ Changed a 4 anna ∷ []) 5 5 ∷ page (Changed c 3 cy ∷ Changed a 4 anna ∷
    Removed b ∷ []) 5 5 ∷ page (Removed b ∷ []) 5 5 ∷ Err (BadToken TooNew) ∷ []
later_reports = simp gets

-- ---- forgetting

pub forgets : answers_to_calls standard (only_staff 0 five) (ForgetCall staff 5 ∷ ReportCall staff
    (token 1 3 5) (Some 1) ∷ ReportCall staff (token 1 4 4) None ∷ ForgetCall staff 4 ∷ ForgetCall
    staff 6 ∷ ForgetCall staff 5 ∷ [])
    ≡ Ok (ReturnedDropped 1) ∷ page (Changed a 4 anna ∷ []) 5 5 ∷ Err (BadToken TooOld) ∷ Err
    BadForget ∷ Err BadForget ∷ Ok (ReturnedDropped 0) ∷ []
forgets = simp gets

-- ---- a book that keeps one tombstone

abbrev shown : ℕ → ℕ → Result CallAnswer Refusal
shown number horizon = Ok (ReturnedBookLine (record {
  name = staff;
  id = 1;
  number = number;
  horizon = horizon;
}))

-- a book with this log that keeps one tombstone
abbrev one_kept : ℕ → List BookEvent → BookHistories
one_kept horizon log = finite.insert none staff (record {
  id = 1;
  log = log;
  horizon = horizon;
  keep = 1;
  imports = finite.empty;
})

abbrev three : List BookEvent
three = event c (Stores cy Creation) ∷ event b (Stores bob Creation) ∷ event a (Stores ann Creation)
    ∷ []

abbrev four : List BookEvent
four = event a (TakesAway Deletion) ∷ three

pub the_first_removal_is_remembered : answers_to_calls standard (one_kept 0 three)
    (RemoveCall staff a None ∷ BookLineCall staff ∷ []) ≡ Ok (ReturnedRemoval 4) ∷ shown 4 0 ∷ []
the_first_removal_is_remembered = simp gets

pub the_second_drops_the_first : answers_to_calls standard (one_kept 0 four)
    (RemoveCall staff b None ∷ BookLineCall staff ∷ []) ≡ Ok (ReturnedRemoval 5) ∷ shown 5 4 ∷ []
the_second_drops_the_first = simp gets

pub the_third_drops_the_second : answers_to_calls standard
    (one_kept 4 (event b (TakesAway Deletion) ∷ four)) (RemoveCall staff c None ∷ BookLineCall staff
    ∷ []) ≡ Ok (ReturnedRemoval 6) ∷ shown 6 5 ∷ []
the_third_drops_the_second = simp gets

-- ---- changes between pages

abbrev seven : List BookEvent
seven = event b (Stores bob Creation) ∷ event c (TakesAway Deletion) ∷ five

pub a_removed_member_comes_again : answers_to_calls standard (only_staff 0 five)
    (RemoveCall staff c None ∷ PutCall staff bob None ∷ []) ≡ Ok (ReturnedRemoval 6) ∷ Ok
    (ReturnedPut (Created 7)) ∷ []
a_removed_member_comes_again = simp gets

pub pages_continue : answers_to_calls standard (only_staff 0 seven) (ReportCall staff (token 1 3 5)
    (Some 1) ∷ ReportCall staff (token 1 4 5) (Some 2) ∷ ReportCall staff (token 1 4 5) (Some 1) ∷
    ReportCall staff (token 1 6 6) (Some 1) ∷ [])
    ≡ cut (Changed a 4 anna ∷ []) 4 5 ∷ page (Removed c ∷ Changed b 7 bob ∷ []) 7 7 ∷ cut
    (Removed c ∷ []) 6 6 ∷ page (Changed b 7 bob ∷ []) 7 7 ∷ []
pages_continue = simp gets

-- a member that was created and removed since the token is reported as removed
abbrev nine : List BookEvent
nine = event d (TakesAway Deletion) ∷ event d (Stores dee Creation) ∷ seven

pub short_lived_members_are_removed : answers_to_calls standard (only_staff 0 seven)
    (PutCall staff dee None ∷ RemoveCall staff d None ∷ ReportCall staff (token 1 7 7) None ∷ [])
    ≡ Ok (ReturnedPut (Created 8)) ∷ Ok (ReturnedRemoval 9) ∷ page (Removed d ∷ []) 9 9 ∷ []
short_lived_members_are_removed = simp gets

-- ---- two books

abbrev ten : List BookEvent
ten = event a (TakesAway MoveOut) ∷ nine

abbrev two_books : List BookEvent → List BookEvent → BookHistories
two_books log other = finite.insert (only_staff 0 log) clients (history 2 0 other)

pub a_card_moves : answers_to_calls standard (only_staff 0 nine) (CreateBookCall clients ∷ MoveCall
    staff clients a None ∷ []) ≡ Ok (ReturnedId 2) ∷ Ok (ReturnedMove (record {
      from = 10;
      version = 1;
    })) ∷ []
a_card_moves = simp gets

abbrev moved : BookHistories
moved = two_books ten (event a (Stores anna MoveIn) ∷ [])

pub moves_are_tallied : answers_to_calls standard moved (TallyCall staff ∷ TallyCall clients ∷ [])
    ≡ Ok (ReturnedTally (record {
      number = 10;
      horizon = 0;
      cards = 1;
      created = 5;
      edited = 1;
      imported = 0;
      import_edited = 0;
      moved_in = 0;
      deleted = 3;
      moved_out = 1;
      remembered = 3;
    }))
    ∷ Ok (ReturnedTally (record {
      number = 1;
      horizon = 0;
      cards = 1;
      created = 0;
      edited = 0;
      imported = 0;
      import_edited = 0;
      moved_in = 1;
      deleted = 0;
      moved_out = 0;
      remembered = 0;
    })) ∷ []
moves_are_tallied = simp gets

pub moves_are_refused : answers_to_calls standard moved (MoveCall staff clients a None ∷ PutCall
    clients bob None ∷ MoveCall staff clients b None ∷ MoveCall staff staff b None ∷ [])
    ≡ Err NoSuchCard ∷ Ok (ReturnedPut (Created 2)) ∷ Err UidTaken ∷ Err SameBook ∷ []
moves_are_refused = simp gets

pub an_equal_card_takes_no_number : answers_to_calls standard moved
    (PutCall staff bob None ∷ ReportCall staff (token 1 10 10) None ∷ PutCall staff rob (Some 6) ∷
    []) ≡ Ok (ReturnedPut (Unchanged 7)) ∷ page [] 10 10 ∷ Err (VersionMismatch 7) ∷ []
an_equal_card_takes_no_number = simp gets

pub tokens_are_judged : answers_to_calls standard moved (ReportCall staff None (Some 0) ∷ ReportCall
    staff (token 2 1 1) None ∷ ReportCall staff (token 1 99 99) None ∷ ReportCall staff
    (token 1 3 5) None ∷ [])
    ≡ Err BadLimit ∷ Err (BadToken OtherBook) ∷ Err (BadToken TooNew) ∷ page
    (Removed c ∷ Changed b 7 bob ∷ Removed d ∷ Removed a ∷ []) 10 10 ∷ []
tokens_are_judged = simp gets

-- ---- imports

abbrev with_clients : BookHistories
with_clients = two_books ten (event b (Stores bob Creation) ∷ event a (Stores anna MoveIn) ∷ [])

abbrev pat : List Line
pat = card (codes "p") (codes "Pat Lee")

abbrev quin : List Line
quin = card (codes "q") (codes "Quin")

abbrev quinn : List Line
quinn = card (codes "q") (codes "Quinn")

abbrev rae : List Line
rae = card (codes "r") (codes "Rae")

abbrev sy : List Line
sy = card (codes "s") (codes "Sy")

abbrev imported : ℕ → ℕ → ℕ → ℕ → Result CallAnswer Refusal
imported added edited same number =
    Ok (ReturnedImport (record { added = added; edited = edited; same = same; number = number }))

-- the second import with the key changes nothing, whatever its cards
pub imports_are_kept : answers_to_calls standard with_clients (ImportCall clients (codes "k1")
    (pat ∷ quin ∷ rae ∷ []) ∷ ImportCall clients (codes "k1") (sy ∷ []) ∷ TallyCall clients ∷ [])
    ≡ imported 3 0 0 5 ∷ imported 3 0 0 5 ∷ Ok (ReturnedTally (record {
      number = 5;
      horizon = 0;
      cards = 5;
      created = 1;
      edited = 0;
      imported = 3;
      import_edited = 0;
      moved_in = 1;
      deleted = 0;
      moved_out = 0;
      remembered = 0;
    })) ∷ []
imports_are_kept = simp gets

abbrev imported_three : BookHistories
imported_three = two_books ten (event (codes "r") (Stores rae Import) ∷ event (codes "q")
    (Stores quin Import) ∷ event (codes "p") (Stores pat Import) ∷ event b (Stores bob Creation) ∷
    event a (Stores anna MoveIn) ∷ [])

pub imports_edit : answers_to_calls standard imported_three (ImportCall clients (codes "k2")
    (pat ∷ quinn ∷ sy ∷ []) ∷ ImportCall clients (codes "k/3") [] ∷ []) ≡ imported 1 1 1 7 ∷ Err
    BadKey ∷ []
imports_edit = simp gets

pub import_edits_are_tallied : answers_to_calls standard
    (two_books ten (event (codes "s") (Stores sy Import) ∷ event (codes "q")
    (Stores quinn ImportEdit) ∷ event (codes "r") (Stores rae Import) ∷ event (codes "q")
    (Stores quin Import) ∷ event (codes "p") (Stores pat Import) ∷ event b (Stores bob Creation) ∷
    event a (Stores anna MoveIn) ∷ [])) (TallyCall clients ∷ [])
    ≡ Ok (ReturnedTally (record {
      number = 7;
      horizon = 0;
      cards = 6;
      created = 1;
      edited = 0;
      imported = 4;
      import_edited = 1;
      moved_in = 1;
      deleted = 0;
      moved_out = 0;
      remembered = 0;
    })) ∷ []
import_edits_are_tallied = simp gets

-- an import of no cards takes no number, and is kept
pub empty_imports_are_kept : answers_to_calls (bounds_of 100 1 2 1)
    (only_staff 0 (event b (TakesAway Deletion) ∷ event b (Stores bob Creation) ∷ []))
    (ImportCall staff (codes "k") [] ∷ ImportCall staff (codes "m") (sy ∷ []) ∷ KeptImportCall staff
    (codes "k") ∷ KeptImportCall staff (codes "m") ∷ [])
    ≡ imported 0 0 0 2 ∷ Err ChangesSpent ∷ Ok
    (ReturnedKeptImport (Some (record { added = 0; edited = 0; same = 0; number = 2 }))) ∷ Ok
    (ReturnedKeptImport None) ∷ []
empty_imports_are_kept = simp gets

-- ---- limits

pub changes_are_limited : answers_to_calls (bounds_of 100 10000 3 100) none
    (CreateBookCall staff ∷ PutCall staff ann None ∷ PutCall staff bob None ∷ PutCall staff anna
    None ∷ PutCall staff cy None ∷ PutCall staff bob None ∷ [])
    ≡ Ok (ReturnedId 1) ∷ Ok (ReturnedPut (Created 1)) ∷ Ok (ReturnedPut (Created 2)) ∷ Ok
    (ReturnedPut (Edited 3)) ∷ Err ChangesSpent ∷ Ok (ReturnedPut (Unchanged 2)) ∷ []
changes_are_limited = simp gets

pub cards_are_limited : answers_to_calls (bounds_of 100 2 1000 100) none
    (CreateBookCall staff ∷ PutCall staff ann None ∷ PutCall staff bob None ∷ PutCall staff cy None
    ∷ PutCall staff anna None ∷ [])
    ≡ Ok (ReturnedId 1) ∷ Ok (ReturnedPut (Created 1)) ∷ Ok (ReturnedPut (Created 2)) ∷ Err BookFull
    ∷ Ok (ReturnedPut (Edited 3)) ∷ []
cards_are_limited = simp gets

pub books_are_limited : answers_to_calls (bounds_of 100 10000 1000 1) none
    (CreateBookCall staff ∷ CreateBookCall staff ∷ CreateBookCall clients ∷ []) ≡ Ok (ReturnedId 1)
    ∷ Err BookExists ∷ Err TooManyBooks ∷ []
books_are_limited = simp gets
