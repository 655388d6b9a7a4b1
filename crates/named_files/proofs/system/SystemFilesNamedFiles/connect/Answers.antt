use Rattle.sqlite.specs.WalFiles.{image_at}
use Rattle.store_schema.proofs.LeftoverLemmas.{seen_alike}
use Rattle.named_files.proofs.ConnectionLemmas.{failed_connection}
use Rattle.named_files.proofs.system.SystemFilesNamedFiles.connect.Goals as goal

pub returns-clause-cause : goal.returns-clause-cause
returns-clause-cause g c =
    failed_connection _ _ (image_at g.S.Start) c.open_from.result c.open_from.ensures.cause
    (λ files log db. seen_alike g.S.Start.log g.S.Start.db log.0 log.1 db.0 db.1)
