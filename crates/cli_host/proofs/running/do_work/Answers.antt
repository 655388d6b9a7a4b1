use Rattle.cli_host.proofs.running.do_work.Goals as goal

pub returns-in-ServeFile-clause-stopped : goal.returns-in-ServeFile-clause-stopped
returns-in-ServeFile-clause-stopped g c = rw c.in-ServeFile.is c.run_serve.ensures.stopped

pub returns-in-UseFile-clause-stopped : goal.returns-in-UseFile-clause-stopped
returns-in-UseFile-clause-stopped g c = rw c.in-UseFile.is c.use_file.ensures.stopped

pub returns-in-RunFile-clause-stopped : goal.returns-in-RunFile-clause-stopped
returns-in-RunFile-clause-stopped g c = rw c.in-RunFile.is c.run_file.ensures.stopped

pub returns-in-VerifyFile-clause-stopped : goal.returns-in-VerifyFile-clause-stopped
returns-in-VerifyFile-clause-stopped g c = rw c.in-VerifyFile.is c.run_verify.ensures.stopped
