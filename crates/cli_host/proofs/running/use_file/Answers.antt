use Rattle.std.proofs.Common.{false, rules, Ok, Err}
use Rattle.std.proofs.lemmas.Result.{err_from_is_err_and}
use Rattle.cli_host.specs.Hosts.{Opens}
use Rattle.cli_host.specs.OrdersOnHost.{DoesStoreWork}
use Rattle.cli_host.proofs.CallLemmas.{store_opened_at}
use Rattle.cli_host.proofs.StoreCallLemmas.{file_stopped, file_unopened}
use Rattle.cli_host.proofs.CallLemmas.{store_used_well}
use Rattle.cli_host.proofs.running.use_file.Goals as goal

pub returns-in_err-store-clause-stopped : goal.returns-in_err-store-clause-stopped
returns-in_err-store-clause-stopped g c =
    let made : g.M.Host.calls (Opens c.args.file (Err c.in_err-store.field-0.0)) c.args.host.now
    c.open_watched.new.host = search (rules) in
    let p = err_from_is_err_and c.from_residual.result c.from_residual.ensures.1 in
    rw (p.1, p.2)
    (file_unopened g.S.BookStore.model g.M.Host.calls c.args.host.now c.open_watched.new.host
    c.args.file c.args.work c.in_err-store.field-0.0 (g.W.Write.contents c.args.writer.now)
    made)

pub returns-clause-done : goal.returns-clause-done
returns-clause-done g c =
    let made : g.M.Host.calls (Opens c.args.file (Ok c.in_ok-store.store)) c.args.host.now
    c.open_watched.new.host = search (rules) in
    let before = g.W.Write.contents c.args.writer.now in
    let after = g.W.Write.contents c.do_store_work-done.new.writer in
    store_used_well g.M.Host.calls c.do_store_work-done.result c.args.host.now
    c.open_watched.new.host c.do_store_work-done.new.host c.close.new.self c.args.file false
    (λ old new later. DoesStoreWork g.S.BookStore.model old c.args.work before after new later)
    c.in_ok-store.store c.do_store_work-done.new.store
    (store_opened_at g.M.Host.calls c.args.host.now c.open_watched.new.host c.args.file
    c.in_ok-store.store made) c.do_store_work-done.ensures.done c.close.ensures

pub returns-clause-stopped : goal.returns-clause-stopped
returns-clause-stopped g c =
    let made : g.M.Host.calls (Opens c.args.file (Ok c.in_ok-store.store)) c.args.host.now
    c.open_watched.new.host = search (rules) in
    file_stopped g.S.BookStore.model g.M.Host.calls c.do_store_work-done.result c.args.host.now
    c.open_watched.new.host c.do_store_work-done.new.host c.close.new.self c.args.file c.args.work
    c.in_ok-store.store c.do_store_work-done.new.store (g.W.Write.contents c.args.writer.now)
    (g.W.Write.contents c.do_store_work-done.new.writer)
    (store_opened_at g.M.Host.calls c.args.host.now c.open_watched.new.host c.args.file
    c.in_ok-store.store made) c.do_store_work-done.ensures.stopped c.close.ensures
