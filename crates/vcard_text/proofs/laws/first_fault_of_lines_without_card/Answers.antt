use Rattle.vcard_text.proofs.MadeFaultLemmas.{made_card_or_fault, made_not_both}
use Rattle.vcard_text.proofs.laws.first_fault_of_lines_without_card.Goals as goal

pub returns-clause-either : goal.returns-clause-either
returns-clause-either c = made_card_or_fault

pub returns-clause-not_both : goal.returns-clause-not_both
returns-clause-not_both c = made_not_both
