use Rattle.std.proofs.Common.{refl}
use Rattle.http_routes.specs.Paths.{route_of}
use Rattle.http_routes.proofs.laws.worked_paths_are_routes.Goals as goal

pub returns : goal.returns
unfolding route_of
returns c = (refl, refl, refl, refl, refl, refl, refl)
