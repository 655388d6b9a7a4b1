use Rattle.std.proofs.Common.{◌∙◌, codes}
use Rattle.vcard_import.proofs.ValueLemmas.{text_keeps}
use Rattle.vcard_import.proofs.card_lines.nested_line.Goals as goal

pub returns-clause-text : goal.returns-clause-text
returns-clause-text c =
    text_keeps (codes "X-AGENT") c.args.octets.now c.as_str.result.now c.text_line.result
    (c.as_str.ensures.value ∙ c.in_ok-text.ensures) c.text_line.ensures.name
    c.text_line.ensures.kept
