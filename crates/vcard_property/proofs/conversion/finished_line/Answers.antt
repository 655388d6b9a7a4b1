use Rattle.std.proofs.Common.{rules, ◌∙◌}
use Rattle.vcard_property.specs.NewTypes.{HasTypesOf}
use Rattle.vcard_property.proofs.conversion.finished_line.Goals as goal

pub returns-clause-head : goal.returns-clause-head
returns-clause-head c = record {
  proper = search rules;
  kind = search rules;
  named = c.in_ok-line-2.ensures.named;
  typed = λ clear.
      let typed : HasTypesOf c.args.octets.now c.in_ok-line.line = c.in_ok-line.ensures.typed clear
      in record {
        others = typed.others;
        params = c.in_ok-line-2.ensures.params ∙ typed.params;
      };
}
