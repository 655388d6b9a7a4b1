-- The route of a path, by its parts between slashes, which aren't decoded (RFC 3986, section 3.3).
use Rattle.std.specs.Prelude.{ℕ, Bool, true, false, ◌&&◌, ◌==◌, List, [], ◌∷◌, Option, bytes_eq}
use Rattle.std.specs.Prelude.{find, get_or, length, nat_lt, if◌then◌else◌}
use Rattle.std.specs.List.{slice_split}
use Rattle.base_types.specs.Octets.{slash}
use Rattle.http_routes.specs.Routes.{path_of}
use Rattle.http_routes.specs.declared.route.Route.{Route}
use Rattle.http_routes.specs.declared.route.Route.TheVariants.{Books, Book, Tally, Sync, Import}
use Rattle.http_routes.specs.declared.route.Route.TheVariants.{Export, Forget, Card, Move, People}

-- `{`
abbrev pub open_brace : ℕ
open_brace = 123

abbrev pub parts_of : List ℕ → List (List ℕ)
parts_of path = slice_split (λ octet. octet == slash) path

-- a name in braces
abbrev pub is_placeholder : List ℕ → Bool
is_placeholder [] = false
is_placeholder (octet ∷ octets) = octet == open_brace

-- a name in braces matches any part that isn't empty, and every other part matches itself
abbrev pub fits_part : List ℕ → List ℕ → Bool
fits_part own part = if is_placeholder own then nat_lt 0 (length part) else bytes_eq own part

abbrev pub fits_parts : List (List ℕ) → List (List ℕ) → Bool
fits_parts [] [] = true
fits_parts [] (part ∷ parts) = false
fits_parts (own ∷ others) [] = false
fits_parts (own ∷ others) (part ∷ parts) = fits_part own part && fits_parts others parts

-- the path matches the route
abbrev pub is_path_of : Route → List ℕ → Bool
is_path_of route path = fits_parts (parts_of (path_of route)) (parts_of path)

abbrev pub routes : List Route
routes =
    Books ∷ Book ∷ Tally ∷ Sync ∷ Import ∷ Export ∷ Forget ∷ Card ∷ Move ∷ People ∷ []

-- the route that the path matches; a path that doesn't start with a slash has none
unfoldable pub route_of : List ℕ → Option Route
route_of path = find (λ route. is_path_of route path) routes

-- the part of a path that names a book, and the one that names a card
abbrev pub book_part : List ℕ → List ℕ
book_part path = get_or (parts_of path) 2 []

abbrev pub uid_part : List ℕ → List ℕ
uid_part path = get_or (parts_of path) 4 []
