-- The output texts of the program's orders. Each line ends in LF.
use Rattle.std.specs.Prelude.{ℕ, Bool, List, [], ◌∷◌, ◌++◌, codes, decimal, flat_map, if◌then◌else◌}
use Rattle.std.specs.Prelude.{Option, Some, None}
use Rattle.std.specs.FinMap as finite
use Rattle.base_types.specs.Octets.{line_feed, space}
use Rattle.sync_core.specs.TokenTexts.{token_octets}
use Rattle.book_model.specs.Books.{LiveCards}
use Rattle.book_model.specs.BookQueries.{tally_numbers}
use Rattle.book_model.specs.declared.answers.ImportTally.{ImportTally}
use Rattle.book_model.specs.declared.answers.Tally.{Tally}
use Rattle.book_model.specs.declared.token.Token.{Token}
use Rattle.book_service.specs.declared.mirrored.Mirrored.{Mirrored}
use Rattle.card_core.specs.declared.expansion.Expansion.{Expansion}
use Rattle.cli_orders.specs.OutputPadding.{left_aligned, right_aligned}

-- ---- single lines

-- the output of `init`
abbrev pub made_output : List ℕ
made_output = codes "made" ++ line_feed ∷ []

-- the output of `book`
abbrev pub book_output : ℕ → List ℕ
book_output id = codes "book " ++ (decimal id ++ line_feed ∷ [])

-- the output of `import`
abbrev pub import_output : ImportTally → List ℕ
import_output tally =
    codes "new " ++ (decimal tally.added ++ (codes " edited " ++ (decimal tally.edited
    ++ (codes " same " ++ (decimal tally.same ++ (codes " number " ++ (decimal tally.number
    ++ line_feed ∷ [])))))))

-- the output of `forget`
abbrev pub forget_output : ℕ → ℕ → List ℕ
forget_output dropped horizon =
    codes "dropped " ++ (decimal dropped ++ (codes " horizon " ++ (decimal horizon
    ++ line_feed ∷ [])))

-- the output of `migrate`
abbrev pub migrate_output : ℕ → List ℕ
migrate_output books = codes "migrated " ++ (decimal books ++ line_feed ∷ [])

-- the output of `copy`
abbrev pub copy_output : ℕ → List ℕ
copy_output books = codes "copied " ++ (decimal books ++ line_feed ∷ [])

-- the output of `resync`
abbrev pub resync_output : ℕ → List ℕ
resync_output books = codes "resynced " ++ (decimal books ++ line_feed ∷ [])

-- ---- tallies

-- a line: the padded name and its number
abbrev pub tally_row : List ℕ → ℕ → List ℕ
tally_row name number =
    left_aligned 14 name ++ (right_aligned 13 (decimal number) ++ line_feed ∷ [])

-- the output of `tally`: a line for each of its numbers
abbrev pub tally_lines : Tally → List ℕ
tally_lines tally = flat_map (λ row. tally_row row.0 row.1) (tally_numbers tally)

-- ---- mirrors

abbrev pub yes_or_no : Bool → List ℕ
yes_or_no holds = if holds then codes "yes" else codes "no"

-- the number of applied pages, and whether the copy is complete
abbrev pub pages_line : ℕ → Bool → List ℕ
pages_line pages done =
    codes "pages " ++ (decimal pages ++ (codes " done " ++ (yes_or_no done ++ line_feed ∷ [])))

-- a card's version and UID
abbrev pub copy_line : List ℕ → ℕ → List ℕ
copy_line uid version = right_aligned 13 (decimal version) ++ (space ∷ uid ++ line_feed ∷ [])

-- the cards in byte order of UID
abbrev pub copy_lines : LiveCards → List ℕ
copy_lines copy = flat_map (λ card. copy_line card.0 card.1.version) (finite.entries copy)

-- the token, if there is one
abbrev pub token_line : Option Token → List ℕ
token_line None = []
token_line (Some token) = codes "token " ++ (token_octets token ++ line_feed ∷ [])

abbrev pub mirror_lines : Mirrored → List ℕ
mirror_lines mirrored =
    pages_line mirrored.pages mirrored.done
    ++ (copy_lines mirrored.device.copy ++ token_line mirrored.device.token)

-- ---- groups

abbrev pub person_line : List ℕ → List ℕ
person_line uid = codes "person " ++ (uid ++ line_feed ∷ [])

abbrev pub people_lines : List (List ℕ) → List ℕ
people_lines people = flat_map person_line people

-- a member value that names no card
abbrev pub missing_line : List ℕ → List ℕ
missing_line value = codes "missing " ++ (value ++ line_feed ∷ [])

abbrev pub missing_lines : List (List ℕ) → List ℕ
missing_lines values = flat_map missing_line values

-- the output of `expand`: the people, then the member values that name no card
abbrev pub expand_lines : Expansion → List ℕ
expand_lines expansion = people_lines expansion.people ++ missing_lines expansion.missing
