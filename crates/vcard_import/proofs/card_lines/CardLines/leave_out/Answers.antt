use Rattle.std.proofs.Common.{rules, refl}
use Rattle.vcard_import.proofs.StepLemmas.{left}
use Rattle.vcard_import.proofs.card_lines.CardLines.leave_out.Goals as goal

pub returns : goal.returns
returns c = λ reading may stays unjoined.
    left reading c.args.raw.now c.args.self.now _ (record {
      place = c.args.raw.now.place;
      kind = c.args.kind;
    }) refl may stays unjoined (search rules) (search rules) (search rules)
