-- The number, the status (RFC 9110, section 15.5), the text and the Allow field of each fault of a
-- request. The numbers and texts are this project's own.
use Rattle.std.specs.Prelude.{ℕ, List, Option, Some, None, codes}
use Rattle.http_routes.specs.Routes.{allow_of}
use Rattle.http_routes.specs.declared.fault.RouteFault.{RouteFault}
use Rattle.http_routes.specs.declared.fault.RouteFault.TheVariants.{NoRoute, BadMethod, BadPath}
use Rattle.http_routes.specs.declared.fault.RouteFault.TheVariants.{BadQuery}

abbrev pub route_fault_number : RouteFault → ℕ
route_fault_number NoRoute = 27
route_fault_number (BadMethod route) = 28
route_fault_number BadPath = 29
route_fault_number BadQuery = 30

abbrev pub route_fault_status : RouteFault → ℕ
route_fault_status NoRoute = 404
route_fault_status (BadMethod route) = 405
route_fault_status BadPath = 400
route_fault_status BadQuery = 400

abbrev pub route_fault_text : RouteFault → List ℕ
route_fault_text NoRoute = codes "no-route"
route_fault_text (BadMethod route) = codes "bad-method"
route_fault_text BadPath = codes "bad-path"
route_fault_text BadQuery = codes "bad-query"

abbrev pub route_fault_allow : RouteFault → Option (List ℕ)
route_fault_allow NoRoute = None
route_fault_allow (BadMethod route) = Some (allow_of route)
route_fault_allow BadPath = None
route_fault_allow BadQuery = None
