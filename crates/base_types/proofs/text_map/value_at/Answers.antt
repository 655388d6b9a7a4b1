use Rattle.std.proofs.Common.{sym, ◌∙◌}
use Rattle.base_types.proofs.TextMapLemmas.{get-texts}
use Rattle.base_types.proofs.text_map.value_at.Goals as goal

pub returns : goal.returns
returns g c = c.get.ensures.value ∙ sym (get-texts c.args.map.now c.args.key.now)
