use Rattle.vcard_text.proofs.FirstFaultLemmas.{first_fault_of_text_is_computed}
use Rattle.vcard_text.proofs.laws.first_fault_of_text_is_computed.Goals as goal

pub returns : goal.returns
returns c = first_fault_of_text_is_computed
