-- A path is its parts with slashes between them, and one of a route's form leads to that route.
use Rattle.std.proofs.Common.{◌≡◌, ◌<◌, ◌∙◌, ℕ, ◌==◌, Bool, true, false, cond, List, [], ◌∷◌, ◌++◌}
use Rattle.std.proofs.Common.{Option, Some, None, codes, bytes_eq, find, nat_lt, option_map, refl}
use Rattle.std.proofs.Common.{ap, sym, subst}
use Rattle.std.specs.List.{AllByRecursion, join_with_byte, onto_first}
use Rattle.std.proofs.lemmas.List.Splits.{join_with_byte-slice_split}
use Rattle.std.proofs.lemmas.Slice.Eq.{bytes_eq-Decides}
use Rattle.std.proofs.lemmas.Bool.{and_parts}
use Rattle.matchit.specs.Seek.{has_slash, slash}
use Rattle.http_routes.proofs.RouterLemmas.{book-is, books-is, card_in_book, first-in_book}
use Rattle.http_routes.proofs.RouterLemmas.{export_in_book, forget_in_book, import_in_book}
use Rattle.http_routes.proofs.RouterLemmas.{move_in_book, people_in_book, route_in_book}
use Rattle.http_routes.proofs.RouterLemmas.{sync_in_book, tally_in_book}
use Rattle.http_routes.specs.Paths.{fits_part, fits_parts, is_placeholder, is_path_of, parts_of}
use Rattle.http_routes.specs.Paths.{route_of, routes}
use Rattle.http_routes.specs.RouterRows.{matched_route}
use Rattle.http_routes.specs.Routes.{path_of}
use Rattle.http_routes.specs.declared.route.Route.{Route}
use Rattle.http_routes.specs.declared.route.Route.TheVariants as route

-- octets, none of them a slash
abbrev pub IsPart : List ℕ → Type 0
IsPart [] = Unit {0}
IsPart (b ∷ rest) = (b < 256) × ((b == slash) ≡ false) × IsPart rest

abbrev pub AreParts : List (List ℕ) → Type 0
AreParts [] = Unit {0}
AreParts (part ∷ parts) = IsPart part × AreParts parts

abbrev pub AreOctets : List ℕ → Type 0
AreOctets path = AllByRecursion (λ b. b < 256) path

no_slash : (part : List ℕ) → IsPart part → has_slash part ≡ false
no_slash [] is = refl
no_slash (b ∷ rest) is = rw is.1 (no_slash rest is.2)

onto-part : (b : ℕ) (parts : List (List ℕ)) → b < 256 → (b == slash) ≡ false → AreParts parts
    → AreParts (onto_first b parts)
onto-part b [] small other are = ((small, other, tt), tt)
onto-part b (part ∷ parts) small other are = ((small, other, are.0), are.1)

parts-are : (path : List ℕ) → AreOctets path → AreParts (parts_of path)
parts-are [] small = (tt, tt)
parts-are (b ∷ path) small = by (b == slash) refl (parts-are path small.1)
  where
    by : (v : Bool) → (b == slash) ≡ v → AreParts (parts_of path)
        → AreParts (cond v ([] ∷ parts_of path) (onto_first b (parts_of path)))
    by true is are = (tt, are)
    by false is are = onto-part b (parts_of path) small.0 is are

-- the parts at a fixed part of a route, at a name, and at its end
fits-word : (own : List ℕ) (others parts : List (List ℕ)) → is_placeholder own ≡ false
    → fits_parts (own ∷ others) parts ≡ true → (rest : List (List ℕ)) × (parts ≡ own ∷ rest)
    × (fits_parts others rest ≡ true)
fits-word own others [] plain fits = absurd (never fits)
  where
    never : false ≡ true → ⊥
    never e = cc
fits-word own others (part ∷ rest) plain fits =
    let both = and_parts (fits_part own part) (fits_parts others rest) fits in
    let word : bytes_eq own part ≡ true = rw plain at both.0 in
    (rest, ap (λ one. one ∷ rest) (sym ((bytes_eq-Decides own part).0 word)), both.1)

fits-name : (own : List ℕ) (others parts : List (List ℕ)) → is_placeholder own ≡ true
    → fits_parts (own ∷ others) parts ≡ true → (b : ℕ) × (part : List ℕ) × (rest : List (List ℕ))
    × (parts ≡ (b ∷ part) ∷ rest) × (fits_parts others rest ≡ true)
fits-name own others [] named fits = absurd (never fits)
  where
    never : false ≡ true → ⊥
    never e = cc
fits-name own others ([] ∷ rest) named fits =
    let both = and_parts (fits_part own []) (fits_parts others rest) fits in
    let some : nat_lt 0 0 ≡ true = rw named at both.0 in
    absurd (never some)
  where
    never : false ≡ true → ⊥
    never e = cc
fits-name own others ((b ∷ part) ∷ rest) named fits =
    let both = and_parts (fits_part own (b ∷ part)) (fits_parts others rest) fits in
    (b, part, rest, refl, both.1)

fits-end : (parts : List (List ℕ)) → fits_parts [] parts ≡ true → parts ≡ []
fits-end [] fits = refl
fits-end (part ∷ parts) fits = absurd (never fits)
  where
    never : false ≡ true → ⊥
    never e = cc

-- a path of books
in_books : (others parts : List (List ℕ)) → fits_parts ([] ∷ codes "books" ∷ others) parts ≡ true
    → (rest : List (List ℕ)) × (parts ≡ [] ∷ codes "books" ∷ rest) × (fits_parts others rest ≡ true)
in_books others parts fits =
    let empty = fits-word [] (codes "books" ∷ others) parts refl fits in
    let books = fits-word (codes "books") others empty.0 refl empty.2 in
    (books.0, empty.1 ∙ ap (λ more. [] ∷ more) books.1, books.2)

-- a path in a book
of_book : (others parts : List (List ℕ)) → fits_parts ([] ∷ codes "books" ∷ codes "{book}" ∷ others)
    parts ≡ true → (b : ℕ) × (part : List ℕ) × (rest : List (List ℕ))
    × (parts ≡ [] ∷ codes "books" ∷ (b ∷ part) ∷ rest) × (fits_parts others rest ≡ true)
of_book others parts fits =
    let books = in_books (codes "{book}" ∷ others) parts fits in
    let book = fits-name (codes "{book}") others books.0 refl books.2 in
    (book.0, book.1, book.2, books.1 ∙ ap (λ more. [] ∷ codes "books" ∷ more) book.3, book.4)

-- a path of a card
abbrev card_parts : ℕ → List ℕ → ℕ → List ℕ → List (List ℕ) → List (List ℕ)
card_parts b part d uid rest =
    [] ∷ codes "books" ∷ (b ∷ part) ∷ codes "cards" ∷ (d ∷ uid) ∷ rest

of_card : (others parts : List (List ℕ))
    → fits_parts ([] ∷ codes "books" ∷ codes "{book}" ∷ codes "cards" ∷ codes "{uid}" ∷ others)
    parts ≡ true → (b : ℕ) × (part : List ℕ) × (d : ℕ) × (uid : List ℕ) × (rest : List (List ℕ))
    × (parts ≡ card_parts b part d uid rest) × (fits_parts others rest ≡ true)
of_card others parts fits =
    let book = of_book (codes "cards" ∷ codes "{uid}" ∷ others) parts fits in
    let cards = fits-word (codes "cards") (codes "{uid}" ∷ others) book.2 refl book.4 in
    let card = fits-name (codes "{uid}") others cards.0 refl cards.2 in (
      book.0,
      book.1,
      card.0,
      card.1,
      card.2,
      book.3
          ∙ ap (λ more. [] ∷ codes "books" ∷ (book.0 ∷ book.1) ∷ more) (cards.1
          ∙ ap (λ more. codes "cards" ∷ more) card.3),
      card.4,
    )

abbrev leads_to : List (List ℕ) → Option Route
leads_to parts = matched_route (join_with_byte slash parts)

leads-books : (parts : List (List ℕ)) → fits_parts ([] ∷ codes "books" ∷ []) parts ≡ true
    → leads_to parts ≡ Some route.Books
leads-books parts fits =
    let books = in_books [] parts fits in
    let whole : parts ≡ [] ∷ codes "books" ∷ [] =
    books.1 ∙ ap (λ more. [] ∷ codes "books" ∷ more) (fits-end books.0 books.2) in
    ap leads_to whole ∙ books-is

leads-book : (parts : List (List ℕ)) → AreParts parts
    → fits_parts ([] ∷ codes "books" ∷ codes "{book}" ∷ []) parts ≡ true
    → leads_to parts ≡ Some route.Book
leads-book parts are fits =
    let book = of_book [] parts fits in
    let whole : parts ≡ [] ∷ codes "books" ∷ (book.0 ∷ book.1) ∷ [] =
    book.3 ∙ ap (λ more. [] ∷ codes "books" ∷ (book.0 ∷ book.1) ∷ more)
    (fits-end book.2 book.4) in
    let part : IsPart (book.0 ∷ book.1) = (subst AreParts whole are).1.1.0 in
    ap leads_to whole ∙ book-is book.0 book.1 part.0 (no_slash (book.0 ∷ book.1) part)

leads-word : (word : List ℕ) (to : Route) (parts : List (List ℕ)) → is_placeholder word ≡ false
    → route_in_book (slash ∷ word) ≡ Some to → AreParts parts
    → fits_parts ([] ∷ codes "books" ∷ codes "{book}" ∷ word ∷ []) parts ≡ true
    → leads_to parts ≡ Some to
leads-word word to parts plain leads are fits =
    let book = of_book (word ∷ []) parts fits in
    let last = fits-word word [] book.2 plain book.4 in
    let whole : parts ≡ [] ∷ codes "books" ∷ (book.0 ∷ book.1) ∷ word ∷ [] =
    book.3 ∙ ap (λ more. [] ∷ codes "books" ∷ (book.0 ∷ book.1) ∷ more) (last.1
    ∙ ap (λ more. word ∷ more) (fits-end last.0 last.2)) in
    let part : IsPart (book.0 ∷ book.1) = (subst AreParts whole are).1.1.0 in
    ap leads_to whole
    ∙ ap (λ found. option_map (λ row. row.value) found) (first-in_book book.0 book.1 word part.0
    (no_slash (book.0 ∷ book.1) part))
    ∙ leads

-- the octets after the book's part of a card's path
abbrev card_rest : ℕ → List ℕ → List (List ℕ) → List ℕ
card_rest d uid rest = codes "cards" ++ slash ∷ join_with_byte slash ((d ∷ uid) ∷ rest)

leads-card : (to : Route) (b : ℕ) (part : List ℕ) (d : ℕ) (uid : List ℕ) (rest : List (List ℕ))
    → AreParts (card_parts b part d uid rest) → (d < 256 → has_slash (d ∷ uid) ≡ false
    → route_in_book (slash ∷ card_rest d uid rest) ≡ Some to)
    → leads_to (card_parts b part d uid rest) ≡ Some to
leads-card to b part d uid rest are leads =
    let book : IsPart (b ∷ part) = are.1.1.0 in
    let card : IsPart (d ∷ uid) = are.1.1.1.1.0 in
    ap (λ found. option_map (λ row. row.value) found) (first-in_book b part (card_rest d uid rest)
    book.0 (no_slash (b ∷ part) book))
    ∙ leads card.0 (no_slash (d ∷ uid) card)

leads-card_end : (parts : List (List ℕ)) → AreParts parts
    → fits_parts ([] ∷ codes "books" ∷ codes "{book}" ∷ codes "cards" ∷ codes "{uid}" ∷ []) parts
    ≡ true → leads_to parts ≡ Some route.Card
leads-card_end parts are fits =
    let card = of_card [] parts fits in
    let whole : parts ≡ card_parts card.0 card.1 card.2 card.3 [] =
    card.5 ∙ ap (λ more. card_parts card.0 card.1 card.2 card.3 more)
    (fits-end card.4 card.6) in
    ap leads_to whole
    ∙ leads-card route.Card card.0 card.1 card.2 card.3 [] (subst AreParts whole are)
    (λ small none. card_in_book card.2 card.3 small none)

leads-card_word : (word : List ℕ) (to : Route) (parts : List (List ℕ)) → is_placeholder word ≡ false
    → ((d : ℕ) (uid : List ℕ) → d < 256 → has_slash (d ∷ uid) ≡ false
    → route_in_book (codes "/cards/" ++ ((d ∷ uid) ++ slash ∷ word)) ≡ Some to) → AreParts parts
    → fits_parts ([] ∷ codes "books" ∷ codes "{book}" ∷ codes "cards" ∷ codes "{uid}" ∷ word ∷ [])
    parts ≡ true → leads_to parts ≡ Some to
leads-card_word word to parts plain leads are fits =
    let card = of_card (word ∷ []) parts fits in
    let last = fits-word word [] card.4 plain card.6 in
    let whole : parts ≡ card_parts card.0 card.1 card.2 card.3 (word ∷ []) =
    card.5 ∙ ap (λ more. card_parts card.0 card.1 card.2 card.3 more) (last.1
    ∙ ap (λ more. word ∷ more) (fits-end last.0 last.2)) in
    ap leads_to whole
    ∙ leads-card to card.0 card.1 card.2 card.3 (word ∷ []) (subst AreParts whole are)
    (λ small none. leads card.2 card.3 small none)

leads-parts : (to : Route) (parts : List (List ℕ)) → AreParts parts
    → fits_parts (parts_of (path_of to)) parts ≡ true → leads_to parts ≡ Some to
leads-parts route.Books parts are fits = leads-books parts fits
leads-parts route.Book parts are fits = leads-book parts are fits
leads-parts route.Tally parts are fits =
    leads-word (codes "tally") route.Tally parts refl tally_in_book are fits
leads-parts route.Sync parts are fits = leads-word (codes "sync") route.Sync parts refl sync_in_book
    are fits
leads-parts route.Import parts are fits =
    leads-word (codes "import") route.Import parts refl import_in_book are fits
leads-parts route.Export parts are fits =
    leads-word (codes "export") route.Export parts refl export_in_book are fits
leads-parts route.Forget parts are fits =
    leads-word (codes "forget") route.Forget parts refl forget_in_book are fits
leads-parts route.Card parts are fits = leads-card_end parts are fits
leads-parts route.Move parts are fits =
    leads-card_word (codes "move") route.Move parts refl move_in_book are fits
leads-parts route.People parts are fits =
    leads-card_word (codes "people") route.People parts refl people_in_book are fits

-- a path of a route's form leads to the route
pub leads : (to : Route) (path : List ℕ) → AreOctets path → is_path_of to path ≡ true
    → matched_route path ≡ Some to
leads to path small fits =
    ap matched_route (sym (join_with_byte-slice_split slash path))
    ∙ leads-parts to (parts_of path) (parts-are path small) fits

-- what is answered where the route that the path leads to is looked at once more
abbrev pub looked_at : Option Route → List ℕ → Option Route
looked_at None path = None
looked_at (Some to) path = cond (is_path_of to path) (Some to) None

find-is : {X : Type 0} (p : X → Bool) (xs : List X) (x : X) → find p xs ≡ Some x → p x ≡ true
find-is p [] x is = cc
find-is p (y ∷ ys) x is = by (p y) refl is (find-is p ys x)
  where
    by : (v : Bool) → p y ≡ v → cond v (Some y) (find p ys) ≡ Some x
        → (find p ys ≡ Some x → p x ≡ true) → p x ≡ true
    by true at found later = let same : y ≡ x = cc in ap p (sym same) ∙ at
    by false at found later = later found

find-none : {X : Type 0} (p : X → Bool) (x : X) (xs : List X) → find p (x ∷ xs) ≡ None
    → (p x ≡ false) × (find p xs ≡ None)
find-none p x xs is = by (p x) refl is
  where
    by : (v : Bool) → p x ≡ v → cond v (Some x) (find p xs) ≡ None → (p x ≡ false)
        × (find p xs ≡ None)
    by true at none = absurd (never none)
      where
        never : Some x ≡ None → ⊥
        never e = cc
    by false at none = (at, none)

-- none of them passes
abbrev NoneOf : {X : Type 0} → (X → Bool) → List X → Type 0
NoneOf p [] = Unit {0}
NoneOf p (x ∷ xs) = (p x ≡ false) × NoneOf p xs

none-of : {X : Type 0} (p : X → Bool) (xs : List X) → find p xs ≡ None → NoneOf p xs
none-of p [] none = tt
none-of p (x ∷ xs) none =
    let both = find-none p x xs none in
    (both.0, none-of p xs both.1)

-- no route's, so not this one's
none-is : (p : Route → Bool) (to : Route) → find p routes ≡ None → p to ≡ false
none-is p to none =
    let all : NoneOf p routes = none-of p routes none in
    elim to as (λ r. p r ≡ false) [
      | route.Books ↦ all.0
      | route.Book ↦ all.1.0
      | route.Tally ↦ all.1.1.0
      | route.Sync ↦ all.1.1.1.0
      | route.Import ↦ all.1.1.1.1.0
      | route.Export ↦ all.1.1.1.1.1.0
      | route.Forget ↦ all.1.1.1.1.1.1.0
      | route.Card ↦ all.1.1.1.1.1.1.1.0
      | route.Move ↦ all.1.1.1.1.1.1.1.1.0
      | route.People ↦ all.1.1.1.1.1.1.1.1.1.0
    ]

looked-none : (path : List ℕ) → find (λ r. is_path_of r path) routes ≡ None → (found : Option Route)
    → looked_at found path ≡ None
looked-none path none None = refl
looked-none path none (Some to) =
    ap (λ v. cond v (Some to) None) (none-is (λ r. is_path_of r path) to none)

looked-found : (path : List ℕ) (to : Route) → AreOctets path → find (λ r. is_path_of r path) routes
    ≡ Some to → looked_at (matched_route path) path ≡ Some to
looked-found path to small found =
    let fits : is_path_of to path ≡ true = find-is (λ r. is_path_of r path) routes to found in
    ap (λ one. looked_at one path) (leads to path small fits) ∙ ap (λ v. cond v (Some to) None) fits

looked : (path : List ℕ) (v : Option Route) → AreOctets path → find (λ r. is_path_of r path) routes
    ≡ v → looked_at (matched_route path) path ≡ v
looked path None small is = looked-none path is (matched_route path)
looked path (Some to) small is = looked-found path to small is

pub looked_at-is : (path : List ℕ) → AreOctets path → looked_at (matched_route path) path
    ≡ route_of path
unfolding route_of
looked_at-is path small = looked path (find (λ r. is_path_of r path) routes) small refl

-- the answer of each way that the look-up goes
pub route-none : (path : List ℕ) → AreOctets path → None ≡ matched_route path → None ≡ route_of path
route-none path small led = ap (λ one. looked_at one path) led ∙ looked_at-is path small

-- the comparison with the route's parts, as the code has them
pub fits-is : (to : Route) (own parts : List (List ℕ)) (fits is : Bool)
    → own ≡ parts_of (path_of to) → fits ≡ fits_parts own parts → fits ≡ is
    → fits_parts (parts_of (path_of to)) parts ≡ is
fits-is to own parts fits is same at gives =
    ap (λ others. fits_parts others parts) (sym same) ∙ sym at ∙ gives

pub route-yes : (path : List ℕ) (parts : List (List ℕ)) (to : Route) → AreOctets path
    → Some to ≡ matched_route path → fits_parts (parts_of (path_of to)) parts ≡ true
    → parts ≡ parts_of path → Some to ≡ route_of path
route-yes path parts to small led fits same =
    let is : is_path_of to path ≡ true = ap (fits_parts (parts_of (path_of to))) (sym same)
    ∙ fits in
    sym (ap (λ v. cond v (Some to) None) is) ∙ ap (λ one. looked_at one path) led
    ∙ looked_at-is path small

pub route-no : (path : List ℕ) (parts : List (List ℕ)) (to : Route) → AreOctets path
    → Some to ≡ matched_route path → fits_parts (parts_of (path_of to)) parts ≡ false
    → parts ≡ parts_of path → None ≡ route_of path
route-no path parts to small led fits same =
    let is : is_path_of to path ≡ false = ap (fits_parts (parts_of (path_of to))) (sym same)
    ∙ fits in
    sym (ap (λ v. cond v (Some to) None) is) ∙ ap (λ one. looked_at one path) led
    ∙ looked_at-is path small
