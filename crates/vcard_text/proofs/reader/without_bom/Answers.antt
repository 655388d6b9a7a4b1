use Rattle.std.proofs.Common.{ap, ◌∙◌}
use Rattle.vcard_text.proofs.MarkLemmas.{stripped}
use Rattle.vcard_text.proofs.reader.without_bom.Goals as goal

pub returns : goal.returns
returns c = ap (λ t. t.now) c.unwrap_or.ensures
    ∙ stripped c.args.text c.strip_prefix.result c.strip_prefix.ensures.cases
