use Rattle.cli_host.proofs.serving.run_file.Goals as goal

pub returns-in-None-clause-stopped : goal.returns-in-None-clause-stopped
returns-in-None-clause-stopped g c = rw c.in-None.is c.run_guarded.ensures.stopped
