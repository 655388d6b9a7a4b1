use Rattle.std.proofs.Common.{refl}
use Rattle.http_replies.proofs.bodies.fault_json.Goals as goal

pub returns : goal.returns
returns c = c.text_of.ensures _ refl c.fault_value.ensures
