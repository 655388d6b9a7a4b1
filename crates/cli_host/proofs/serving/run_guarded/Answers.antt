use Rattle.std.proofs.Common.{Ok, Err, rules}
use Rattle.std.proofs.lemmas.Result.{err_from_is_err_and}
use Rattle.book_http.specs.OctetPromise.{ServiceStep}
use Rattle.cli_host.specs.Hosts.{LogsCalls}
use Rattle.cli_host.specs.OrdersOnHost.{GetsStore}
use Rattle.http_fronts.specs.Fronts.{with_front}
use Rattle.http_requests.specs.GuardedHandlers.{guarded}
use Rattle.cli_host.proofs.StoreCallLemmas.{store_missing, store_served, store_unserved}
use Rattle.cli_host.proofs.StoreCallLemmas.{store_without_memory}
use Rattle.cli_host.proofs.serving.run_guarded.Goals as goal

pub returns-in_err-store-clause-stopped : goal.returns-in_err-store-clause-stopped
returns-in_err-store-clause-stopped g c =
    let got : LogsCalls g.M.Host.calls c.args.host.now c.get_store.new.host
    (GetsStore c.args.file c.args.creates (Err c.in_err-store.field-0.0)) = search (rules) in
    let p = err_from_is_err_and c.from_residual.result c.from_residual.ensures.1 in
    rw (p.1, p.2)
    (store_missing (guarded (with_front g.M.Front.Front.answers (ServiceStep g.S.BookStore.model)))
    g.P.Endpoint.calls (λ store. (c.args.names, store)) g.M.Host.calls c.args.host.now
    c.get_store.new.host c.args.file c.args.creates c.args.address c.args.limits
    c.in_err-store.field-0.0 (g.W.Write.contents c.args.writer.now) got)

pub returns-in_err-service-clause-stopped : goal.returns-in_err-service-clause-stopped
returns-in_err-service-clause-stopped g c =
    let got : LogsCalls g.M.Host.calls c.args.host.now c.get_store.new.host
    (GetsStore c.args.file c.args.creates (Ok c.in_ok-store.store)) = search (rules) in
    let p = err_from_is_err_and c.from_residual-in_err-service.result
    c.from_residual-in_err-service.ensures.1 in
    rw (p.1, p.2)
    (store_without_memory (guarded (with_front g.M.Front.Front.answers
    (ServiceStep g.S.BookStore.model))) g.P.Endpoint.calls (λ store. (c.args.names, store))
    g.M.Host.calls c.args.host.now c.get_store.new.host c.args.file c.args.creates
    c.args.address c.args.limits c.in_ok-store.store (g.W.Write.contents c.args.writer.now) got)

pub returns-clause-done : goal.returns-clause-done
returns-clause-done g c =
    let got : LogsCalls g.M.Host.calls c.args.host.now c.get_store.new.host
    (GetsStore c.args.file c.args.creates (Ok c.in_ok-store.store)) = search (rules) in
    let serves = rw (c.new-handler.ensures, c.new-fronted.ensures, c.in_ok-service.ensures) at
    c.serve_at.ensures.done in
    store_served (guarded (with_front g.M.Front.Front.answers (ServiceStep g.S.BookStore.model)))
    g.P.Endpoint.calls (λ store. (c.args.names, store)) g.M.Host.calls c.serve_at.result
    c.args.host.now c.get_store.new.host c.serve_at.new.host c.args.file c.args.creates
    c.args.address c.args.limits c.in_ok-store.store (g.W.Write.contents c.args.writer.now)
    (g.W.Write.contents c.serve_at.new.writer) got serves

pub returns-clause-stopped : goal.returns-clause-stopped
returns-clause-stopped g c =
    let got : LogsCalls g.M.Host.calls c.args.host.now c.get_store.new.host
    (GetsStore c.args.file c.args.creates (Ok c.in_ok-store.store)) = search (rules) in
    let stops = rw (c.new-handler.ensures, c.new-fronted.ensures, c.in_ok-service.ensures) at
    c.serve_at.ensures.stopped in
    store_unserved (guarded (with_front g.M.Front.Front.answers (ServiceStep g.S.BookStore.model)))
    g.P.Endpoint.calls (λ store. (c.args.names, store)) g.M.Host.calls c.serve_at.result
    c.args.host.now c.get_store.new.host c.serve_at.new.host c.args.file c.args.creates
    c.args.address c.args.limits c.in_ok-store.store (g.W.Write.contents c.args.writer.now)
    (g.W.Write.contents c.serve_at.new.writer) got stops
