use Rattle.vcard_text.proofs.MadeFaultLemmas.{first_fault_of_lines_is_computed}
use Rattle.vcard_text.proofs.laws.first_fault_of_lines_is_computed.Goals as goal

pub returns : goal.returns
returns c = first_fault_of_lines_is_computed
