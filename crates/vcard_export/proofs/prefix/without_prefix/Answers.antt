use Rattle.std.proofs.Common.{ap, ◌∙◌}
use Rattle.vcard_export.proofs.PrefixLemmas.{stripped}
use Rattle.vcard_export.proofs.prefix.without_prefix.Goals as goal

pub returns : goal.returns
returns c = ap (λ t. t.now) c.unwrap_or.ensures
    ∙ stripped c.args.text c.args.prefix.now c.strip_prefix.result c.strip_prefix.ensures.cases
