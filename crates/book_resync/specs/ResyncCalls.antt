-- The commands that a resync stands for.
use Rattle.std.specs.Prelude.{ℕ, zero, suc, List, [], ◌∷◌, ◌++◌, flat_map, Option, Some, None}
use Rattle.std.specs.Prelude.{Result, Ok}
use Rattle.std.specs.FinMap as finite
use Rattle.vcard_lines.specs.declared.line.Line.{Line}
use Rattle.vcard_text.specs.Cards.{IsCard, uid_of}
use Rattle.book_model.specs.declared.answers.Stored.{Stored}
use Rattle.book_model.specs.declared.refusal.Refusal.{Refusal}
use Rattle.book_model.specs.Bounds.{Bounds}
use Rattle.book_model.specs.Books.{Book, Books}
use Rattle.book_model.specs.CallOutcomes.{◌>>=◌}
use Rattle.book_resync.specs.Resyncing.{number_after_resync, renewed_card}
use Rattle.book_laws.specs.Calls.{Call, PutCall, RemoveCall, ForgetCall}
use Rattle.book_laws.specs.RowsAfterCalls.{rows_after_accepted_call}

-- the rows after all calls, in order, where none is refused
abbrev pub rows_after_accepted_calls : Bounds → Books → List Call → Result Books Refusal
rows_after_accepted_calls limits books [] = Ok books
rows_after_accepted_calls limits books (call ∷ calls) = do
  after ← rows_after_accepted_call limits books call
  rows_after_accepted_calls limits after calls

-- the card is created in the book and removed, this many times
abbrev pub creations_and_removals : List ℕ → List Line → ℕ → List Call
creations_and_removals name card zero = []
creations_and_removals name card (suc pairs) =
    PutCall name card None
    ∷ RemoveCall name (uid_of card) None
    ∷ creations_and_removals name card pairs

-- the book's card of this UID is removed and created again, this many times
abbrev pub removals_and_creations : List ℕ → List Line → ℕ → List Call
removals_and_creations name card zero = []
removals_and_creations name card (suc pairs) =
    RemoveCall name (uid_of card) None
    ∷ PutCall name card None
    ∷ removals_and_creations name card pairs

-- the pairs with the card that is renewed, or else with a card whose UID isn't live
abbrev pub pairs_of_calls
    : List ℕ → List Line → Option (List ℕ × Stored) → ℕ → List Call
pairs_of_calls name spare None pairs = creations_and_removals name spare pairs
pairs_of_calls name spare (Some renewed) pairs = removals_and_creations name renewed.1.card pairs

-- a book's commands: the pairs, and then it forgets all removals
abbrev pub resync_calls_of_book : Bounds → List Line → ℕ → List ℕ × Book → List Call
resync_calls_of_book limits spare pairs named =
    pairs_of_calls named.0 spare (renewed_card limits named.1) pairs
    ++ ForgetCall named.0 (number_after_resync named.1 pairs) ∷ []

-- a put of a card that a text can spell, a removal or a forget
abbrev pub IsResyncCall : Call → Type 0
IsResyncCall (PutCall name card expect) = IsCard card
IsResyncCall (RemoveCall name uid expect) = Unit {0}
IsResyncCall (ForgetCall name upto) = Unit {0}
IsResyncCall call = ⊥

-- the commands of all books, one book after the other
abbrev pub resync_calls : Bounds → List Line → ℕ → Books → List Call
resync_calls limits spare pairs books =
    flat_map (resync_calls_of_book limits spare pairs) (finite.entries books)
