use Rattle.std.proofs.Common.{◌≡◌, rules}
use Rattle.std.specs.Prelude.{IfOk, string_bytes}
use Rattle.vcard_values.specs.Escapes.{SpellsSame, rewritten_value}
use Rattle.vcard_values.proofs.EscapeLemmas.{follows}
use Rattle.vcard_values.proofs.ReadBackLemmas.{spells_of}
use Rattle.vcard_values.proofs.escapes.with_escapes.Goals as goal

pub returns-in-Text-clause-spells : goal.returns-in-Text-clause-spells
returns-in-Text-clause-spells c =
    let is : IfOk c.escaped_text.result (λ new. string_bytes new
    ≡ rewritten_value c.args.form c.args.value.now) = search rules in
    follows (λ new. string_bytes new ≡ rewritten_value c.args.form c.args.value.now)
    (λ new. SpellsSame c.args.form c.args.value.now (string_bytes new)) c.escaped_text.result
    (λ new e. spells_of c.args.form c.args.value.now (string_bytes new) c.utf8.value e) is
