use Rattle.vcard_changes.proofs.ProperLemmas.{extension_is_proper}
use Rattle.vcard_changes.proofs.proper_line.extension_line.Goals as goal

pub returns-clause-proper : goal.returns-clause-proper
returns-clause-proper c = λ proper. rw (c.in_ok-name.ensures, c.as_str.ensures)
    (extension_is_proper c.args.line proper)
