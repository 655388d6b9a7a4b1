use Rattle.std.proofs.Common.{◌∙◌, ap}
use Rattle.vcard_text.specs.Making.{upper_lines}
use Rattle.card_conversion.specs.Moved.{lines_under}
use Rattle.card_conversion.proofs.MovedLemmas.{lines_stay, no_card}
use Rattle.card_conversion.proofs.moved.card_under.Goals as goal

pub returns-in-Ok-clause-moved : goal.returns-in-Ok-clause-moved
returns-in-Ok-clause-moved c =
    c.in-Ok.ensures.card ∙ ap upper_lines (c.in_ok-lines.ensures
    ∙ ap (lines_under c.args.uid.now) c.lines.ensures.lines)
    ∙ lines_stay c.args.uid.now c.args.card.now c.lines.ensures.rules.proper

pub returns-in_default : goal.returns-in_default
returns-in_default c = record {
  moved = tt;
  rules = tt;
  none = λ e. no_card c.args.uid.now c.args.card.now c.in_ok-lines.lines.items c.in-Err.fault
      c.lines.ensures.rules
      (c.in_ok-lines.ensures ∙ ap (lines_under c.args.uid.now) c.lines.ensures.lines)
      c.in_default.not-Memory c.in-Err.ensures.every;
}
