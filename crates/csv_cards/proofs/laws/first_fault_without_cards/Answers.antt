use Rattle.csv_cards.proofs.CauseLemmas.{FaultsAreOne}
use Rattle.csv_cards.proofs.EitherLemmas.{CardsOrFaults, cards_or_fault}
use Rattle.csv_cards.proofs.FirstFaultLemmas.{no_first_fault}
use Rattle.csv_cards.proofs.OneFaultLemmas.{first_faults_one}
use Rattle.csv_cards.proofs.laws.first_fault_without_cards.Goals as goal

pub returns-clause-one : goal.returns-clause-one
returns-clause-one c =
    let one : FaultsAreOne = record {
      text = c.first_fault_without_card.ensures.one;
      made = c.first_fault_of_lines_is_computed.ensures;
    } in
    first_faults_one c.card_is_unique.ensures one

pub returns-clause-either : goal.returns-clause-either
returns-clause-either c =
    let laws : CardsOrFaults = record {
      one_card = c.card_is_unique.ensures;
      either = c.first_fault_without_card.ensures.either;
      not_both = c.first_fault_without_card.ensures.not_both;
      made_either = c.first_fault_of_lines_without_card.ensures.either;
      made_not_both = c.first_fault_of_lines_without_card.ensures.not_both;
      one_fault = record {
        text = c.first_fault_without_card.ensures.one;
        made = c.first_fault_of_lines_is_computed.ensures;
      };
    } in
    cards_or_fault laws

pub returns-clause-not_both : goal.returns-clause-not_both
returns-clause-not_both c = no_first_fault c.card_is_unique.ensures
