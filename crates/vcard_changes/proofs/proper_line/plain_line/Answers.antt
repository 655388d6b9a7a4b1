use Rattle.std.proofs.Common.{string_bytes}
use Rattle.std.proofs.lemmas.Str.{IsUtf8-string_bytes}
use Rattle.vcard_changes.proofs.ProperLemmas.{plain_is_proper}
use Rattle.vcard_changes.proofs.proper_line.plain_line.Goals as goal

pub returns-clause-proper : goal.returns-clause-proper
returns-clause-proper c = λ name upper permitted.
    rw (c.in_ok-copy_of.ensures, c.new.ensures, c.new-2.ensures)
    (plain_is_proper c.args.name.now (string_bytes c.args.value) name upper permitted
    (IsUtf8-string_bytes c.args.value))
