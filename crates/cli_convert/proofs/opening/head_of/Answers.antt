use Rattle.std.proofs.Common.{rules}
use Rattle.cli_convert.proofs.HeadLemmas.{head_read}
use Rattle.cli_convert.proofs.opening.head_of.Goals as goal

pub returns-in-Ok : goal.returns-in-Ok
returns-in-Ok g c = search (rules, head_read)
