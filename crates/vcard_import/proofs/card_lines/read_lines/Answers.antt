use Rattle.std.proofs.Common.{[]}
use Rattle.vcard_import.proofs.card_lines.read_lines.Goals as goal

pub returns-clause-makes : goal.returns-clause-makes
returns-clause-makes c = c.in_ok-push_raws.ensures.makes []
    (c.new-made.ensures.makes c.args.reading.version)
