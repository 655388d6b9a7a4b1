use Rattle.std.proofs.Common.{length}
use Rattle.http_routes.proofs.path.+fits_parts.Given as goal

abbrev pub decreases-fits_parts : goal.decreases-fits_parts
decreases-fits_parts l = length l.own.now
