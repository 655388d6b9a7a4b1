use Rattle.store_check.proofs.NameLemmas.{no_name}
use Rattle.store_check.proofs.names.is_name_text.Goals as goal

pub returns-in-Err : goal.returns-in-Err
returns-in-Err c = no_name c.args.octets.now c.in-Err.ensures.cases.0
