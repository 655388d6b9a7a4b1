-- The routes of some example paths.
use Rattle.std.specs.Prelude.{◌≡◌, Some, None, codes}
use Rattle.http_routes.specs.Paths.{route_of}
use Rattle.http_routes.specs.declared.route.Route.TheVariants as route

abbrev pub WorkedPaths : Type 0
WorkedPaths =
    (route_of (codes "/books") ≡ Some route.Books)
    × (route_of (codes "/books/") ≡ None)
    × (route_of (codes "/books//tally") ≡ None)
    × (route_of (codes "/books/staff/tally") ≡ Some route.Tally)
    × (route_of (codes "/books/%2F/cards/a") ≡ Some route.Card)
    × (route_of (codes "books") ≡ None)
    × (route_of (codes "/books/tally") ≡ Some route.Book)
