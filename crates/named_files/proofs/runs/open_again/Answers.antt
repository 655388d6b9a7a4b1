use Rattle.named_files.proofs.RestartLemmas.{fails_with_cause, failed_leaves, found_honest}
use Rattle.named_files.proofs.RestartLemmas.{opens_as}
use Rattle.named_files.proofs.runs.open_again.Goals as goal

pub returns-clause-opens : goal.returns-clause-opens
returns-clause-opens g c = opens_as c.args.files c.open_files.result c.open_files.ensures.opened
    c.open_files.ensures.found

pub returns-clause-cause : goal.returns-clause-cause
returns-clause-cause g c = fails_with_cause c.args.files c.open_files.result
    c.open_files.ensures.cause

pub returns-clause-honest : goal.returns-clause-honest
returns-clause-honest g c = found_honest c.args.files c.open_files.result c.open_files.ensures.found

pub returns-clause-leaves : goal.returns-clause-leaves
returns-clause-leaves g c = failed_leaves c.args.files c.open_files.result
    c.open_files.ensures.unharmed
