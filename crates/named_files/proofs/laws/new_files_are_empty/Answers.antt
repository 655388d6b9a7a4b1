use Rattle.named_files.proofs.NothingLemmas.{nothing_found}
use Rattle.named_files.proofs.laws.new_files_are_empty.Goals as goal

pub returns : goal.returns
returns c = nothing_found
