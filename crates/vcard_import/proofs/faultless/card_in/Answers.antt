use Rattle.std.proofs.Common.{subst}
use Rattle.std.specs.Prelude.{IfErr, ◌≢◌}
use Rattle.vcard_lines.specs.declared.fault.CardFault.TheVariants.{Memory}
use Rattle.vcard_text.specs.Making.{IsFirstFaultOfLines}
use Rattle.vcard_import.proofs.RefusedLemmas.{long_of}
use Rattle.vcard_import.proofs.faultless.card_in.Goals as goal

pub returns-clause-too_long : goal.returns-clause-too_long
returns-clause-too_long c = λ faultless.
    long_of c.args.lines c.card_of_lines.result faultless
    (subst (λ lines. IfErr c.card_of_lines.result (λ fault. fault ≢ Memory
    → IsFirstFaultOfLines lines fault)) c.into_vec.ensures c.card_of_lines.ensures.fault)
