use Rattle.std.proofs.Common.{[], subst, sym}
use Rattle.card_conversion.specs.Deliveries.{HasUids}
use Rattle.card_conversion.proofs.ProgressLemmas.{none_known}
use Rattle.card_conversion.proofs.course.Course.new.Goals as goal

pub returns-clause-uids : goal.returns-clause-uids
returns-clause-uids c = subst (λ map. HasUids map []) (sym c.new.ensures) none_known
