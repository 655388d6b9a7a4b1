use Rattle.std.proofs.Common.{length}
use Rattle.store_schema.proofs.forms.+are_indexes.Given as goal

abbrev pub decreases-are_indexes : goal.decreases-are_indexes
decreases-are_indexes l = length l.forms.now
