use Rattle.std.proofs.Common.{◌≡◌, [], rules, refl, true, false, inl, inr, subst, sym, codes}
use Rattle.std.specs.Str.{trim}
use Rattle.vcard_property.specs.Labels.{GotLabel}
use Rattle.vcard_text.specs.Cards.{line_is_named}
use Rattle.vcard_import.specs.internal.Steps.{breaks_rule}
use Rattle.vcard_import.proofs.ValueLemmas.{breaking_may_go}
use Rattle.vcard_import.proofs.card_lines.line_after.Goals as goal

pub returns-then-is_empty_name-clause-made : goal.returns-then-is_empty_name-clause-made
returns-then-is_empty_name-clause-made c =
    let named : line_is_named (codes "FN") c.in_ok-line.line ≡ true = search rules in
    let blank : trim c.in_ok-line.line.value ≡ [] = search rules in
    record {
      line = c.in_ok-line.line;
      becomes = c.in_ok-line.ensures.becomes;
      placed = inr (inr (inr (record {
        named = named;
        blank = blank;
        new_named = c.in_ok-text_line.ensures.name;
      })));
    }

pub returns-then-breaks_rule-clause-made : goal.returns-then-breaks_rule-clause-made
returns-then-breaks_rule-clause-made c =
    let breaks : breaks_rule c.args.seen c.args.reading c.in_ok-line.line ≡ true = search rules in
    record {
      line = c.in_ok-line.line;
      becomes = c.in_ok-line.ensures.becomes;
      placed = inr (inl (record {
        may_be_aside = breaking_may_go c.args.seen c.args.reading c.in_ok-line.line breaks;
        new_is = c.in_ok-extension_line.ensures.line;
      }));
    }

pub returns-in-Some-clause-allowed : goal.returns-in-Some-clause-allowed
returns-in-Some-clause-allowed c =
    let free : breaks_rule c.args.seen c.args.reading c.in_ok-line.line ≡ false = search rules in
    let got : GotLabel c.in_ok-line.line c.in-Some.labelled = search rules in
    subst (λ line. breaks_rule c.args.seen c.args.reading line ≡ false) (sym got.new_is) free

pub returns-in-Some-clause-made : goal.returns-in-Some-clause-made
returns-in-Some-clause-made c =
    let got : GotLabel c.in_ok-line.line c.in-Some.labelled = search rules in
    record {
      line = c.in_ok-line.line;
      becomes = c.in_ok-line.ensures.becomes;
      placed = inr (inr (inl got));
    }

pub returns-clause-made : goal.returns-clause-made
returns-clause-made c = record {
  line = c.in_ok-line.line;
  becomes = c.in_ok-line.ensures.becomes;
  placed = inl refl;
}
