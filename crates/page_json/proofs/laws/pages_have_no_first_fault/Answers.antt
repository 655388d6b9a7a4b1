use Rattle.page_json.proofs.OneFaultLemmas.{no_first_fault}
use Rattle.page_json.proofs.laws.pages_have_no_first_fault.Goals as goal

pub returns : goal.returns
returns c = no_first_fault c.card_is_unique.ensures
