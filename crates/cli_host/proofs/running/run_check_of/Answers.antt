use Rattle.std.proofs.lemmas.Result.{err_from_is_err_and}
use Rattle.cli_host.proofs.CallLemmas.{file_checked, file_refused, octets_unread}
use Rattle.cli_host.proofs.running.run_check_of.Goals as goal

pub returns-in_err-octets-clause-stopped : goal.returns-in_err-octets-clause-stopped
returns-in_err-octets-clause-stopped g c =
    let p = err_from_is_err_and c.from_residual.result c.from_residual.ensures.1 in
    rw (p.1, p.2)
    (octets_unread g.M.Host.calls c.args.host.now c.read_rows.new.self c.args.file.now
    c.in_err-octets.field-0.0 (g.W.Write.contents c.args.writer.now)
    c.in_err-octets.ensures.called c.in_err-octets.ensures.stop)

pub returns-clause-done : goal.returns-clause-done
returns-clause-done g c =
    file_checked g.M.Host.calls c.run_check.result c.args.host.now c.read_rows.new.self
    c.args.file.now c.in_ok-octets.octets (g.W.Write.contents c.args.writer.now)
    (g.W.Write.contents c.run_check.new.writer) c.in_ok-octets.ensures.called
    (rw (c.kind_of_file.ensures, c.as_slice.ensures) at c.run_check.ensures.passed)

pub returns-clause-stopped : goal.returns-clause-stopped
returns-clause-stopped g c =
    file_refused g.M.Host.calls c.run_check.result c.args.host.now c.read_rows.new.self
    c.args.file.now c.in_ok-octets.octets (g.W.Write.contents c.args.writer.now)
    (g.W.Write.contents c.run_check.new.writer) c.in_ok-octets.ensures.called
    (rw (c.kind_of_file.ensures, c.as_slice.ensures) at c.run_check.ensures.stopped)
