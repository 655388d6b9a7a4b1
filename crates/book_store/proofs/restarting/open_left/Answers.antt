use Rattle.book_store.proofs.RestartLemmas.{fails_again, opens_left}
use Rattle.book_store.proofs.restarting.open_left.Goals as goal

pub returns-clause-restarts : goal.returns-clause-restarts
returns-clause-restarts g c =
    opens_left c.args.left c.in-Ok.store c.crash_left-files.result c.args.limits c.in-Ok.ensures.limits
    c.crash_left-files.ensures.crash c.crash_left-files.ensures.clean c.in-Ok.ensures.honest
    c.in-Ok.ensures.opens c.assert_settled.ensures

pub returns-in-Err-clause-again : goal.returns-in-Err-clause-again
returns-in-Err-clause-again g c =
    fails_again c.args.left c.crash_left-files.result c.in-Err.refused.1 c.in-Err.refused.0
    c.crash_left-files.ensures.crash c.crash_left-files.ensures.again c.crash_left-files.ensures.clean
    c.in-Err.ensures.cause c.in-Err.ensures.leaves
