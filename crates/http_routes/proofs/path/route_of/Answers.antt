use Rattle.std.proofs.Common.{◌<◌, ◌∙◌, arith, sym}
use Rattle.std.proofs.lemmas.List.Elements.{All-from_get_or, recursion_from_All}
use Rattle.http_routes.proofs.PathLemmas.{fits-is, route-no, route-none, route-yes}
use Rattle.http_routes.proofs.path.route_of.Goals as goal

pub returns-in_default : goal.returns-in_default
returns-in_default c premise =
    let path = c.args.path.now in
    let small = recursion_from_All (λ b. b < 256) path (All-from_get_or (λ b. b < 256) path 0
    (λ i within. omega (arith, c.type_inv.path i))) in
    route-none path small (sym c.in_default.is ∙ c.match_path-found.ensures)

pub returns-then-fits : goal.returns-then-fits
returns-then-fits c premise =
    let path = c.args.path.now in
    let small = recursion_from_All (λ b. b < 256) path (All-from_get_or (λ b. b < 256) path 0
    (λ i within. omega (arith, c.type_inv.path i))) in
    let fits = fits-is c.in-Some.route _ _ _ _ c.parts.ensures c.fits_parts-fits.ensures
    c.if-fits.true in
    route-yes path _ c.in-Some.route small (sym c.in-Some.is ∙ c.match_path-found.ensures) fits
    premise

pub returns-else-fits : goal.returns-else-fits
returns-else-fits c premise =
    let path = c.args.path.now in
    let small = recursion_from_All (λ b. b < 256) path (All-from_get_or (λ b. b < 256) path 0
    (λ i within. omega (arith, c.type_inv.path i))) in
    let fits = fits-is c.in-Some.route _ _ _ _ c.parts.ensures c.fits_parts-fits.ensures
    c.if-fits.false in
    route-no path _ c.in-Some.route small (sym c.in-Some.is ∙ c.match_path-found.ensures) fits
    premise
