-- Lists in replies contain no floats.
use Rattle.std.proofs.Common.{◌≡◌, ℕ, List, [], ◌∷◌, map, false, refl}
use Rattle.serde_json.specs.Data.{string}
use Rattle.serde_json.specs.View.{items_of}
use Rattle.serde_json.specs.Written.{has_float, items_have_float}
use Rattle.book_model.specs.declared.answers.BookLine.{BookLine}
use Rattle.card_core.specs.declared.expansion.Expansion.{Expansion}
use Rattle.http_replies.specs.ReplyValues.{book_value, books_value, people_value}

book_values_have_none : (books : List BookLine) → items_have_float (items_of (map book_value books))
    ≡ false
book_values_have_none [] = refl
book_values_have_none (book ∷ books) = book_values_have_none books

strings_have_none : (texts : List (List ℕ)) → items_have_float (items_of (map string texts)) ≡ false
strings_have_none [] = refl
strings_have_none (text ∷ texts) = strings_have_none texts

pub books_have_no_float : (books : List BookLine) → has_float (books_value books) ≡ false
books_have_no_float books = rw (book_values_have_none books) refl

pub people_have_no_float : (reached : Expansion) → has_float (people_value reached) ≡ false
people_have_no_float reached =
    rw (strings_have_none reached.missing, strings_have_none reached.people) refl
