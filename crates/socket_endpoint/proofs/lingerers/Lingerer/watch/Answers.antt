use Rattle.std.proofs.Common.{sym, subst}
use Rattle.socket_endpoint.specs.Lingering.{IsWatched}
use Rattle.socket_endpoint.proofs.LookLemmas.{watched_by}
use Rattle.socket_endpoint.proofs.lingerers.Lingerer.watch.Goals as goal

pub returns-clause-watched : goal.returns-clause-watched
returns-clause-watched g c =
    let log = g.S.Sockets.log in
    let stream = c.args.self.now.stream in
    subst (λ done. IsWatched stream c.args.slots c.args.slot done (log c.args.system.now) (log
    c.watch_input-done.new.self)) (sym c.is_ok.ensures.value)
    (watched_by stream c.args.slots c.args.slot c.in-Some.token.0 c.watch_input-done.result (log
    c.args.system.now) (log c.watch_input-done.new.self) c.in-Some.ensures.one
    c.watch_input-done.ensures.logged)
