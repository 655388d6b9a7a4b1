-- Which logs a book can have.
use Rattle.std.specs.Prelude.{ℕ, ◌≡◌, ◌≢◌, List, [], ◌∷◌, Option, None, IsSome, IsSomeAnd}
use Rattle.std.specs.FinMap as finite
use Rattle.vcard_lines.specs.declared.line.Line.{Line}
use Rattle.vcard_text.specs.Cards.{uid_of}
use Rattle.book_model.specs.declared.answers.Stored.{Stored}
use Rattle.book_model.specs.declared.change.Change.{Change}
use Rattle.book_model.specs.declared.change.Change.TheVariants.{Stores, TakesAway}
use Rattle.book_model.specs.declared.change.StoreReason.{StoreReason}
use Rattle.book_model.specs.declared.change.StoreReason.TheVariants.{Creation, Edit, Import}
use Rattle.book_model.specs.declared.change.StoreReason.TheVariants.{ImportEdit, MoveIn}
use Rattle.book_laws.specs.EventLogs.{BookEvent, live}

-- a card is added where its UID isn't live, and an edit replaces a different card
abbrev pub MayStore : StoreReason → List Line → Option Stored → Type 0
MayStore Creation card before = before ≡ None
MayStore Edit card before = IsSomeAnd before (λ stored. stored.card ≢ card)
MayStore Import card before = before ≡ None
MayStore ImportEdit card before = IsSomeAnd before (λ stored. stored.card ≢ card)
MayStore MoveIn card before = before ≡ None

-- whether a change is possible for a member, given its live card: a removal needs one
abbrev pub IsPossibleChange : List ℕ → Change → Option Stored → Type 0
IsPossibleChange uid (Stores card why) before = (uid_of card ≡ uid) × MayStore why card before
IsPossibleChange uid (TakesAway why) before = IsSome before

-- each event is possible after the earlier ones
abbrev pub IsValidLog : List BookEvent → Type 0
IsValidLog [] = Unit {0}
IsValidLog (e ∷ h) = IsPossibleChange e.uid e.change (finite.get (live h) e.uid) × IsValidLog h
