use Rattle.std.proofs.Common.{length}
use Rattle.store_schema.proofs.forms.+are_references.Given as goal

abbrev pub decreases-are_references : goal.decreases-are_references
decreases-are_references l = length l.columns.now
