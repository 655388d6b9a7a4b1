use Rattle.http_hub.proofs.PlaceCountLemmas.{counts_none}
use Rattle.http_hub.proofs.hub.Hub.new.Goals as goal

pub invariant_of-result : goal.invariant_of-result
invariant_of-result c = counts_none c.loop-place.slots.items c.loop-place._place
    c.loop-place.invariant
