-- The router's rows, and the route that they lead to.
use Rattle.std.proofs.Common.{◌≡◌, ◌<◌, ◌∙◌, ℕ, false, List, [], ◌∷◌, ◌++◌, Option, Some, codes}
use Rattle.std.proofs.Common.{option_map, drop, refl, ap}
use Rattle.matchit.proofs.OnLiterals.{matchit_on_literals}
use Rattle.matchit.specs.Rows.{RowsOf, param_token}
use Rattle.matchit.specs.Router.{RouteOf}
use Rattle.matchit.specs.Seek.{first, has_slash, slash, step, with_suffix}
use Rattle.http_routes.proofs.SeekLemmas.{AllEnd, after_text, after_param, cuts-slash, first-end}
use Rattle.http_routes.proofs.SeekLemmas.{first-octet, first-slash, first-stop, first-text}
use Rattle.http_routes.proofs.SeekLemmas.{continues, longest-slash, stops}
use Rattle.http_routes.specs.RouterRows.{router_rows}
use Rattle.http_routes.specs.declared.route.Route.{Route}
use Rattle.http_routes.specs.declared.route.Route.TheVariants as route

-- the rows after the part that names a book
abbrev after_book : RowsOf (RouteOf Route)
after_book =
    step param_token (step slash (step 115
    (step 107 (step 111 (step 111 (step 98 (step slash router_rows)))))))

abbrev books_row : RowsOf (RouteOf Route)
books_row = step 115 (step 107 (step 111 (step 111 (step 98 (step slash (drop 9 router_rows))))))

rows_are : router_rows ≡ after_text (codes "/books")
    (after_text (slash ∷ []) (after_param after_book) ++ books_row)
unfolding matchit_on_literals router_rows
rows_are = refl

all_end : AllEnd after_book
unfolding matchit_on_literals router_rows
all_end = (
  continues _,
  (
    continues _,
    (
      continues _,
      (continues _, (continues _, (continues _, (continues _, (continues _, (stops, tt)))))),
    ),
  ),
)

-- the rows that continue after the part that names a book
abbrev pub in_book : RowsOf (RouteOf Route)
in_book = with_suffix (slash ∷ []) after_book

abbrev books_key : RouteOf Route
books_key = record {
  pattern = codes "/books";
  text = codes "/books";
  names = [];
  value = route.Books;
}

pub first-in_book : (b : ℕ) (part rest : List ℕ) → b < 256 → has_slash (b ∷ part) ≡ false
    → first router_rows (codes "/books" ++ slash ∷ ((b ∷ part) ++ slash ∷ rest))
    ≡ first in_book (slash ∷ rest)
unfolding matchit_on_literals router_rows
first-in_book b part rest small none =
    let path = (b ∷ part) ++ slash ∷ rest in
    let longest = longest-slash ((b ∷ part) ++ slash ∷ []) after_book (cuts-slash b part) all_end
    refl in
    ap (λ rows. first rows (codes "/books" ++ slash ∷ path)) rows_are
    ∙ first-text (codes "/books") (slash ∷ path) (after_text (slash ∷ []) (after_param after_book)
    ++ books_row) refl
    ∙ first-stop slash path (after_text (slash ∷ []) (after_param after_book)) books_key
    ∙ first-text (slash ∷ []) path (after_param after_book) refl
    ∙ first-slash b part rest after_book small none longest

-- the parts that may follow the part that names a book
abbrev pub route_in_book : List ℕ → Option Route
route_in_book rest = option_map (λ found. found.value) (first in_book rest)

pub tally_in_book : route_in_book (codes "/tally") ≡ Some route.Tally
unfolding matchit_on_literals router_rows
tally_in_book = refl

pub sync_in_book : route_in_book (codes "/sync") ≡ Some route.Sync
unfolding matchit_on_literals router_rows
sync_in_book = refl

pub export_in_book : route_in_book (codes "/export") ≡ Some route.Export
unfolding matchit_on_literals router_rows
export_in_book = refl

pub import_in_book : route_in_book (codes "/import") ≡ Some route.Import
unfolding matchit_on_literals router_rows
import_in_book = refl

pub forget_in_book : route_in_book (codes "/forget") ≡ Some route.Forget
unfolding matchit_on_literals router_rows
forget_in_book = refl

pub book-is : (b : ℕ) (part : List ℕ) → b < 256 → has_slash (b ∷ part) ≡ false
    → option_map (λ found. found.value) (first router_rows (codes "/books" ++ slash ∷ b ∷ part))
    ≡ Some route.Book
unfolding matchit_on_literals router_rows
book-is b part small none =
    ap (λ found. option_map (λ row. row.value) found) (
    ap (λ rows. first rows (codes "/books" ++ slash ∷ b ∷ part)) rows_are
    ∙ first-text (codes "/books") (slash ∷ b ∷ part)
    (after_text (slash ∷ []) (after_param after_book) ++ books_row) refl
    ∙ first-stop slash (b ∷ part) (after_text (slash ∷ []) (after_param after_book)) books_key
    ∙ first-text (slash ∷ []) (b ∷ part) (after_param after_book) refl
    ∙ first-end b part after_book small none all_end
    )

-- the rows after the part that names a card
abbrev in_cards : RowsOf (RouteOf Route)
in_cards =
    step param_token (step slash (step 115
    (step 100 (step 114 (step 97 (step 99 (step slash in_book)))))))

cards_are : step 99 (step slash in_book) ≡ after_text (codes "ards/") (after_param in_cards)
unfolding matchit_on_literals router_rows
cards_are = refl

cards_end : AllEnd in_cards
unfolding matchit_on_literals router_rows
cards_end = (continues _, (continues _, (stops, tt)))

in-cards : (path : List ℕ) → first in_book (codes "/cards/" ++ path) ≡ first (after_param in_cards)
    path
unfolding matchit_on_literals router_rows
in-cards path =
    first-octet slash (codes "cards/" ++ path) in_book refl refl
    ∙ first-octet 99 (codes "ards/" ++ path) (step slash in_book) refl refl
    ∙ ap (λ rows. first rows (codes "ards/" ++ path)) cards_are
    ∙ first-text (codes "ards/") path (after_param in_cards) refl

-- a card's part after a book's
pub card_in_book : (b : ℕ) (part : List ℕ) → b < 256 → has_slash (b ∷ part) ≡ false
    → route_in_book (codes "/cards/" ++ b ∷ part) ≡ Some route.Card
unfolding matchit_on_literals router_rows
card_in_book b part small none =
    ap (λ found. option_map (λ row. row.value) found) (in-cards (b ∷ part)
    ∙ first-end b part in_cards small none cards_end)

pub move_in_book : (b : ℕ) (part : List ℕ) → b < 256 → has_slash (b ∷ part) ≡ false
    → route_in_book (codes "/cards/" ++ ((b ∷ part) ++ codes "/move")) ≡ Some route.Move
unfolding matchit_on_literals router_rows
move_in_book b part small none =
    let longest = longest-slash ((b ∷ part) ++ slash ∷ []) in_cards (cuts-slash b part) cards_end
    refl in
    ap (λ found. option_map (λ row. row.value) found)
    (in-cards ((b ∷ part) ++ codes "/move") ∙ first-slash b part (codes "move") in_cards small none
    longest)

pub people_in_book : (b : ℕ) (part : List ℕ) → b < 256 → has_slash (b ∷ part) ≡ false
    → route_in_book (codes "/cards/" ++ ((b ∷ part) ++ codes "/people")) ≡ Some route.People
unfolding matchit_on_literals router_rows
people_in_book b part small none =
    let longest = longest-slash ((b ∷ part) ++ slash ∷ []) in_cards (cuts-slash b part) cards_end
    refl in
    ap (λ found. option_map (λ row. row.value) found)
    (in-cards ((b ∷ part) ++ codes "/people") ∙ first-slash b part (codes "people") in_cards small
    none longest)

pub books-is : option_map (λ found. found.value) (first router_rows (codes "/books"))
    ≡ Some route.Books
unfolding matchit_on_literals router_rows
books-is = refl
