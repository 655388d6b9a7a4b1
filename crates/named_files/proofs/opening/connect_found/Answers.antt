use Rattle.std.proofs.Common.{IfErr, IfOk, IfSome, List, ℕ, subst}
use Rattle.sqlite.specs.Files.{file_state}
use Rattle.sqlite.specs.Recovery.{Image}
use Rattle.sqlite.specs.Start.{FindsIn}
use Rattle.sqlite.specs.State.{HasCleanDisk}
use Rattle.named_files.specs.Connections.{FailsToConnect}
use Rattle.named_files.proofs.opening.connect_found.Goals as goal

pub returns-in-Ok-true-clause-found : goal.returns-in-Ok-true-clause-found
returns-in-Ok-true-clause-found g c =
    subst (λ (image : List ℕ → Image). IfOk c.connect.result (λ conn.
    HasCleanDisk (file_state conn) → FindsIn (image c.args.path.now) (file_state conn)))
    c.exists.ensures.same c.connect.ensures.found

pub returns-in-Ok-true-clause-cause : goal.returns-in-Ok-true-clause-cause
returns-in-Ok-true-clause-cause g c =
    subst (λ (image : List ℕ → Image). IfErr c.connect.result (λ e. IfSome e.1
    (FailsToConnect (image c.args.path.now) e.0))) c.exists.ensures.same c.connect.ensures.cause
