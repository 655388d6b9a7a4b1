use Rattle.std.proofs.Common.{length}
use Rattle.store_schema.proofs.forms.+are_places.Given as goal

abbrev pub decreases-are_places : goal.decreases-are_places
decreases-are_places l = length l.own.now
