-- The table of routes: the path and the methods of each.
use Rattle.std.specs.Prelude.{ℕ, List, [], ◌∷◌, ◌++◌, codes, map}
use Rattle.http_routes.specs.Actions.{actions_of}
use Rattle.http_routes.specs.declared.route.Route.{Route}
use Rattle.http_routes.specs.declared.route.Route.TheVariants.{Books, Book, Tally, Sync, Import}
use Rattle.http_routes.specs.declared.route.Route.TheVariants.{Export, Forget, Card, Move, People}

-- a name in braces matches one part between slashes that isn't empty
abbrev pub path_of : Route → List ℕ
path_of Books = codes "/books"
path_of Book = codes "/books/{book}"
path_of Tally = codes "/books/{book}/tally"
path_of Sync = codes "/books/{book}/sync"
path_of Import = codes "/books/{book}/import"
path_of Export = codes "/books/{book}/export"
path_of Forget = codes "/books/{book}/forget"
path_of Card = codes "/books/{book}/cards/{uid}"
path_of Move = codes "/books/{book}/cards/{uid}/move"
path_of People = codes "/books/{book}/cards/{uid}/people"

-- the methods of the route
abbrev pub methods_of : Route → List (List ℕ)
methods_of route = map (λ each. each.0) (actions_of route)

-- the texts with a comma and a space between them
abbrev pub comma_list : List (List ℕ) → List ℕ
comma_list [] = []
comma_list (word ∷ []) = word
comma_list (word ∷ next ∷ words) = word ++ codes ", " ++ comma_list (next ∷ words)

-- the methods as the value of an Allow field (RFC 9110, section 10.2.1)
abbrev pub allow_of : Route → List ℕ
allow_of route = comma_list (methods_of route)
