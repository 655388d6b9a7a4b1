-- The rows of a router that has all routes and nothing else. A row of the library `matchit` is a
-- path as the library parses it, with its value, here the route.
use Rattle.std.specs.Prelude.{ℕ, List, [], Option, Result, Ok, Err, fold, option_map}
use Rattle.matchit.specs.Order.{placed}
use Rattle.matchit.specs.Route.{Scan, parse_route}
use Rattle.matchit.specs.Router.{RouteOf, route_from}
use Rattle.matchit.specs.Rows.{RowsOf}
use Rattle.matchit.specs.Seek.{first}
use Rattle.matchit.specs.declared.error.InsertError.{InsertError}
use Rattle.http_routes.specs.Paths.{routes}
use Rattle.http_routes.specs.Routes.{path_of}
use Rattle.http_routes.specs.declared.route.Route.{Route}

-- the rows with one more route
abbrev pub placed_scan
    : Result Scan InsertError → Route → RowsOf (RouteOf Route) → RowsOf (RouteOf Route)
placed_scan (Ok scan) route rows = placed (scan.pattern, route_from scan route) rows
placed_scan (Err error) route rows = rows

abbrev pub with_route : RowsOf (RouteOf Route) → Route → RowsOf (RouteOf Route)
with_route rows route = placed_scan (parse_route (path_of route)) route rows

-- the rows with all routes
unfoldable pub router_rows : RowsOf (RouteOf Route)
router_rows = fold with_route [] routes

-- the route that the rows give the path
abbrev pub matched_route : List ℕ → Option Route
matched_route path = option_map (λ row. row.value) (first router_rows path)
