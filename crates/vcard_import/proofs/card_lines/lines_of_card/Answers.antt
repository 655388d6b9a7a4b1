use Rattle.std.proofs.Common.{subst}
use Rattle.std.specs.Prelude.{IfOk}
use Rattle.vcard_import.specs.internal.Steps.{Makes}
use Rattle.vcard_import.proofs.LeftOutLemmas.{ok_need_none}
use Rattle.vcard_import.proofs.card_lines.lines_of_card.Goals as goal

pub returns-then-have_addresses-clause-makes : goal.returns-then-have_addresses-clause-makes
returns-then-have_addresses-clause-makes c =
    subst (λ version. Makes version c.args.raws.now c.in_ok-made.made)
    c.reading_of-joining.ensures.version c.in_ok-made.ensures.makes

pub returns-clause-makes : goal.returns-clause-makes
returns-clause-makes c =
    subst (λ version. IfOk c.lines_with_name-2.result (Makes version c.args.raws.now))
    c.reading_of.ensures.version c.lines_with_name-2.ensures.makes

pub returns-clause-labels : goal.returns-clause-labels
returns-clause-labels c = ok_need_none c.lines_with_name-2.result
    (c.lines_with_name-2.ensures.unjoined c.reading_of.ensures.joins)
