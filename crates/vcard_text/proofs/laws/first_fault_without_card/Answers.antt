use Rattle.vcard_text.proofs.FirstFaultLemmas.{one_first_fault, card_or_fault, not_both}
use Rattle.vcard_text.proofs.laws.first_fault_without_card.Goals as goal

pub returns-clause-one : goal.returns-clause-one
returns-clause-one c = one_first_fault

pub returns-clause-either : goal.returns-clause-either
returns-clause-either c = card_or_fault

pub returns-clause-not_both : goal.returns-clause-not_both
returns-clause-not_both c = not_both
