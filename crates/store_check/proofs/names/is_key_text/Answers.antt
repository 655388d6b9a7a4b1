use Rattle.store_check.proofs.NameLemmas.{no_key}
use Rattle.store_check.proofs.names.is_key_text.Goals as goal

pub returns-in-Err : goal.returns-in-Err
returns-in-Err c = no_key c.args.octets.now c.in-Err.ensures.cases.0
