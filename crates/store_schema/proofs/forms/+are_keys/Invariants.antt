use Rattle.std.proofs.Common.{length}
use Rattle.store_schema.proofs.forms.+are_keys.Given as goal

abbrev pub decreases-are_keys : goal.decreases-are_keys
decreases-are_keys l = length l.own.now
