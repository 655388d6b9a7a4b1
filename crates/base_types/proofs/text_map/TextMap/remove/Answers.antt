use Rattle.std.proofs.Common.{sym, ap, ◌∙◌}
use Rattle.std.specs.FinMap as finite
use Rattle.base_types.proofs.TextMapLemmas.{get-texts, texts-remove}
use Rattle.base_types.proofs.text_map.TextMap.remove.Goals as goal

pub returns-clause-value : goal.returns-clause-value
returns-clause-value g c = c.remove.ensures.value
    ∙ sym (get-texts c.self.inside.inner c.args.key.now)
    ∙ ap (λ m. finite.get m c.args.key.now) c.self.view_is

pub returns-clause-removed : goal.returns-clause-removed
returns-clause-removed g c =
    texts-remove c.args.key.now c.self.inside.inner c.remove.new.self c.remove.ensures.updates
    ∙ ap (λ m. finite.remove m c.args.key.now) c.self.view_is
