use Rattle.std.specs.List.{IsDistinct}
use Rattle.test_connections.proofs.service.calls.import_nothing.Goals as goal

-- an empty list has no two cards with one UID
pub import-requires : goal.import-requires
unfolding IsDistinct
import-requires g = record { distinct = tt }
