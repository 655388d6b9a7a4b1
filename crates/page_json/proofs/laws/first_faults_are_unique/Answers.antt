use Rattle.page_json.proofs.OneFaultLemmas.{first_fault_one}
use Rattle.page_json.proofs.laws.first_faults_are_unique.Goals as goal

pub returns : goal.returns
returns c = first_fault_one c.card_is_unique.ensures
