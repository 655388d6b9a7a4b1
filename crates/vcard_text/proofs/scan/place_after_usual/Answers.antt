use Rattle.std.proofs.Common.{rules}
use Rattle.vcard_text.proofs.UsualLemmas.{after_begin, after_version, after_end}
use Rattle.vcard_text.proofs.scan.place_after_usual.Goals as goal

pub returns-in-First : goal.returns-in-First
returns-in-First c = after_begin c.args.place c.args.text.now c.in-First.is (search rules)

pub returns-in-Second : goal.returns-in-Second
returns-in-Second c = after_version c.args.place c.args.text.now c.in-Second.is (search rules)

pub returns-in-Body : goal.returns-in-Body
returns-in-Body c = after_end c.args.place c.args.text.now c.in-Body.is (search rules)
