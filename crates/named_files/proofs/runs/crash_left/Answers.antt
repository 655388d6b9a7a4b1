use Rattle.sqlite.specs.Files.{image_of}
use Rattle.named_files.proofs.SealedLemmas.{left_clean, left_may}
use Rattle.named_files.proofs.runs.crash_left.Goals as goal

pub returns-clause-crash : goal.returns-clause-crash
returns-clause-crash g c =
    left_may c.args.left c.into_files.result.log c.into_files.result.db c.into_files.ensures
    (image_of g.D.Disk c.crash_files.result) c.crash_files.ensures.crash

pub returns-clause-again : goal.returns-clause-again
returns-clause-again g c image may =
    left_may c.args.left c.into_files.result.log c.into_files.result.db c.into_files.ensures image
    (c.crash_files.ensures.again image may)

pub returns-clause-clean : goal.returns-clause-clean
returns-clause-clean g c clean =
    left_clean c.args.left c.into_files.result.log c.into_files.result.db c.into_files.ensures
    (c.crash_files.ensures.clean clean)
