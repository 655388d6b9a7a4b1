-- Replies as JSON. The member names are this project's own, in the order of their octets.
use Rattle.std.specs.Prelude.{ℕ, List, [], ◌∷◌, codes, map}
use Rattle.serde_json.specs.Data.{Data, string, array}
use Rattle.serde_json.specs.View.{items_of}
use Rattle.vcard_lines.specs.declared.line.Line.{Line}
use Rattle.vcard_text.specs.Cards.{canonical_text}
use Rattle.vcard_lines.specs.FaultNumbers.{card_fault_number}
use Rattle.book_model.specs.BookQueries.{tally_numbers}
use Rattle.book_model.specs.RefusalNumbers.{refusal_number, refusal_text, token_cause_number}
use Rattle.book_model.specs.declared.answers.BookLine.{BookLine}
use Rattle.book_model.specs.declared.answers.ImportTally.{ImportTally}
use Rattle.book_model.specs.declared.answers.Moved.{Moved}
use Rattle.book_model.specs.declared.answers.PutAnswer.{PutAnswer}
use Rattle.book_model.specs.declared.answers.PutAnswer.TheVariants.{Created, Edited, Unchanged}
use Rattle.book_model.specs.declared.answers.Tally.{Tally}
use Rattle.book_model.specs.declared.refusal.Refusal.{Refusal}
use Rattle.book_model.specs.declared.refusal.Refusal.TheVariants.{BadCard, BadImport, BadToken}
use Rattle.book_model.specs.declared.refusal.Refusal.TheVariants.{VersionMismatch}
use Rattle.card_core.specs.declared.expansion.Expansion.{Expansion}
use Rattle.http_replies.specs.Objects.{object_of, json_number}

-- ---- results of changes

abbrev pub created_value : ℕ → Data
created_value id = object_of ((codes "id", json_number id) ∷ [])

abbrev pub put_object : List ℕ → ℕ → Data
put_object what version =
    object_of ((codes "put", string what) ∷ (codes "version", json_number version) ∷ [])

abbrev pub put_value : PutAnswer → Data
put_value (Created version) = put_object (codes "created") version
put_value (Edited version) = put_object (codes "edited") version
put_value (Unchanged version) = put_object (codes "unchanged") version

abbrev pub gone_value : ℕ → Data
gone_value number = object_of ((codes "number", json_number number) ∷ [])

abbrev pub moved_value : Moved → Data
moved_value moved =
    object_of
    ((codes "from", json_number moved.from) ∷ (codes "version", json_number moved.version) ∷ [])

abbrev pub imported_value : ImportTally → Data
imported_value tally = object_of (
    (codes "edited", json_number tally.edited)
    ∷ (codes "new", json_number tally.added)
    ∷ (codes "number", json_number tally.number)
    ∷ (codes "same", json_number tally.same)
    ∷ []
    )

abbrev pub forgot_value : ℕ → ℕ → Data
forgot_value dropped horizon =
    object_of ((codes "dropped", json_number dropped) ∷ (codes "horizon", json_number horizon) ∷ [])

-- ---- results of reads

abbrev pub book_value : BookLine → Data
book_value book = object_of (
    (codes "horizon", json_number book.horizon)
    ∷ (codes "id", json_number book.id)
    ∷ (codes "name", string book.name)
    ∷ (codes "number", json_number book.number)
    ∷ []
    )

abbrev pub books_value : List BookLine → Data
books_value books = object_of ((codes "books", array (items_of (map book_value books))) ∷ [])

abbrev pub card_value : List ℕ → ℕ → List Line → Data
card_value uid version card = object_of (
    (codes "card", string (canonical_text card))
    ∷ (codes "uid", string uid)
    ∷ (codes "version", json_number version)
    ∷ []
    )

-- a member for each number of a tally
abbrev pub tally_value : Tally → Data
tally_value tally = object_of (map (λ row. (row.0, json_number row.1)) (tally_numbers tally))

abbrev pub texts_value : List (List ℕ) → Data
texts_value texts = array (items_of (map string texts))

abbrev pub people_value : Expansion → Data
people_value reached = object_of (
    (codes "missing", texts_value reached.missing)
    ∷ (codes "people", texts_value reached.people)
    ∷ []
    )

-- ---- refusals and faults

-- a refusal or a fault, by its text and number
abbrev pub fault_value : List ℕ → ℕ → Data
fault_value text number =
    object_of ((codes "fault", string text) ∷ (codes "number", json_number number) ∷ [])

-- a refusal and its cause
abbrev pub cause_value : ℕ → List ℕ → ℕ → Data
cause_value cause text number = object_of (
    (codes "cause", json_number cause)
    ∷ (codes "fault", string text)
    ∷ (codes "number", json_number number)
    ∷ []
    )

-- a version mismatch and the version that the live card has
abbrev pub mismatch_value : ℕ → List ℕ → ℕ → Data
mismatch_value has text number = object_of (
    (codes "fault", string text)
    ∷ (codes "has", json_number has)
    ∷ (codes "number", json_number number)
    ∷ []
    )

-- a refused import: the row of the body and its cause
abbrev pub row_value : ℕ → ℕ → List ℕ → ℕ → Data
row_value row cause text number = object_of (
    (codes "cause", json_number cause)
    ∷ (codes "fault", string text)
    ∷ (codes "number", json_number number)
    ∷ (codes "row", json_number row)
    ∷ []
    )

abbrev pub refusal_value : Refusal → Data
refusal_value (BadCard fault) =
    cause_value (card_fault_number fault) (refusal_text (BadCard fault))
    (refusal_number (BadCard fault))
refusal_value (VersionMismatch has) =
    mismatch_value has (refusal_text (VersionMismatch has)) (refusal_number (VersionMismatch has))
refusal_value (BadToken cause) =
    cause_value (token_cause_number cause) (refusal_text (BadToken cause))
    (refusal_number (BadToken cause))
refusal_value (BadImport row cause) =
    row_value row cause (refusal_text (BadImport row cause))
    (refusal_number (BadImport row cause))
refusal_value refusal = fault_value (refusal_text refusal) (refusal_number refusal)
