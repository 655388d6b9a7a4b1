-- The actions of each route by method, and the names of their queries.
use Rattle.std.specs.Prelude.{ℕ, List, [], ◌∷◌, Option, Some, None, bytes_eq, codes, if◌then◌else◌}
use Rattle.http_routes.specs.declared.action.Action.{Action}
use Rattle.http_routes.specs.declared.action.Action.TheVariants as action
use Rattle.http_routes.specs.declared.route.Route.{Route}
use Rattle.http_routes.specs.declared.route.Route.TheVariants.{Books, Book, Tally, Sync, Import}
use Rattle.http_routes.specs.declared.route.Route.TheVariants.{Export, Forget, Card, Move, People}

-- each method of a route, with its action
abbrev pub actions_of : Route → List (List ℕ × Action)
actions_of Books = (codes "GET", action.Books) ∷ []
actions_of Book = (codes "PUT", action.CreateBook) ∷ []
actions_of Tally = (codes "GET", action.TallyOf) ∷ []
actions_of Sync = (codes "GET", action.Report) ∷ []
actions_of Import = (codes "POST", action.Import) ∷ []
actions_of Export = (codes "GET", action.Export) ∷ []
actions_of Forget = (codes "POST", action.Forget) ∷ []
actions_of Card =
    (codes "GET", action.Get) ∷ (codes "PUT", action.Put) ∷ (codes "DELETE", action.Remove) ∷ []
actions_of Move = (codes "POST", action.MoveCard) ∷ []
actions_of People = (codes "GET", action.People) ∷ []

-- the action listed for the method
abbrev pub action_named : List ℕ → List (List ℕ × Action) → Option Action
action_named method [] = None
action_named method (each ∷ others) =
    if bytes_eq each.0 method then Some each.1 else action_named method others

-- the action of the method on the route, if the route has the method
unfoldable pub action_of : Route → List ℕ → Option Action
action_of route method = action_named method (actions_of route)

-- the required names of a query
abbrev pub required_names : Action → List (List ℕ)
required_names action.Import = codes "key" ∷ []
required_names action.Forget = codes "upto" ∷ []
required_names action.MoveCard = codes "to" ∷ []
required_names other = []

-- the optional names of a query
abbrev pub optional_names : Action → List (List ℕ)
optional_names action.Report = codes "token" ∷ codes "limit" ∷ []
optional_names action.Export = codes "form" ∷ []
optional_names action.Put = codes "version" ∷ []
optional_names action.Remove = codes "version" ∷ []
optional_names action.MoveCard = codes "version" ∷ []
optional_names other = []
