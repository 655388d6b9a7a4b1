use Rattle.std.proofs.lemmas.Result.{err_from_is_err_and}
use Rattle.cli_host.proofs.SiteLemmas.{folder_served, folder_unread, folder_unserved}
use Rattle.cli_host.proofs.serving.run_folder.Goals as goal

pub returns-in_err-site-clause-stopped : goal.returns-in_err-site-clause-stopped
returns-in_err-site-clause-stopped g c =
    let p = err_from_is_err_and c.from_residual.result c.from_residual.ensures.1 in
    rw (p.1, p.2)
    (folder_unread g.S.BookStore.model g.M.Front.Front.answers g.P.Endpoint.calls g.M.Host.calls
    c.args.host.now c.read_site.new.self c.args.dir c.args.file c.args.creates c.args.names
    c.args.address c.args.limits c.in_err-site.field-0.0 (g.W.Write.contents c.args.writer.now)
    (rw c.as_str.ensures at c.in_err-site.ensures.called) c.in_err-site.ensures.stop)

pub returns-clause-done : goal.returns-clause-done
returns-clause-done g c =
    folder_served g.S.BookStore.model g.M.Front.Front.answers g.P.Endpoint.calls g.M.Host.calls
    c.run_site.result c.args.host.now c.read_site.new.self c.run_site.new.host c.args.dir
    c.args.file c.in_ok-site.site c.args.creates c.args.names c.args.address c.args.limits
    (g.W.Write.contents c.args.writer.now) (g.W.Write.contents c.run_site.new.writer)
    (rw c.as_str.ensures at c.in_ok-site.ensures.called) c.run_site.ensures.done

pub returns-clause-stopped : goal.returns-clause-stopped
returns-clause-stopped g c =
    folder_unserved g.S.BookStore.model g.M.Front.Front.answers g.P.Endpoint.calls g.M.Host.calls
    c.run_site.result c.args.host.now c.read_site.new.self c.run_site.new.host c.args.dir
    c.args.file c.in_ok-site.site c.args.creates c.args.names c.args.address c.args.limits
    (g.W.Write.contents c.args.writer.now) (g.W.Write.contents c.run_site.new.writer)
    (rw c.as_str.ensures at c.in_ok-site.ensures.called) c.run_site.ensures.stopped
