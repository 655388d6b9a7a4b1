use Rattle.std.proofs.Common.{ap, ◌∙◌}
use Rattle.sqlite.specs.Files.{file_state}
use Rattle.book_store.specs.StoreViews.{StoreView}
use Rattle.book_store.proofs.RestartLemmas.{restarted, still_leaves}
use Rattle.book_store.proofs.restarting.SqlStore+FileStore+D.restart.Goals as goal

pub returns-clause-restarts : goal.returns-clause-restarts
returns-clause-restarts g c =
    restarted c.args.self c.in-Ok.store c.crash.result (c.in-Ok.ensures.limits
    ∙ ap (λ (v : StoreView _). v.limits) c.self.view_is) c.crash.ensures.leaves
    c.in-Ok.ensures.honest c.in-Ok.ensures.opens c.assert_settled.ensures

pub returns-in-Err-clause-cause : goal.returns-in-Err-clause-cause
returns-in-Err-clause-cause g c = record {
  files = c.crash.result;
  holds = c.crash.ensures.leaves;
  cause = c.in-Err.ensures.cause;
  unharmed = c.in-Err.ensures.unharmed;
  still = still_leaves (file_state c.args.self.conn) c.crash.result c.in-Err.refused.1
      c.crash.ensures.leaves c.crash.ensures.again c.in-Err.ensures.leaves;
}
