use Rattle.std.proofs.lemmas.Result.{err_from_is_err_and}
use Rattle.cli_host.proofs.StoreCallLemmas.{rows_file_imported, rows_file_unimported, rows_unread}
use Rattle.cli_host.proofs.running.import_rows.Goals as goal

pub returns-in_err-body-clause-stopped : goal.returns-in_err-body-clause-stopped
returns-in_err-body-clause-stopped g c =
    let p = err_from_is_err_and c.from_residual.result c.from_residual.ensures.1 in
    rw (p.1, p.2)
    (rows_unread g.S.BookStore.model g.M.Host.calls c.args.host.now c.read_rows.new.self
    c.args.store.now c.args.book c.args.key c.args.csv.now c.in_err-body.field-0.0
    (g.W.Write.contents c.args.writer.now) c.in_err-body.ensures.called
    c.in_err-body.ensures.stop)

pub returns-clause-done : goal.returns-clause-done
returns-clause-done g c =
    rows_file_imported g.S.BookStore.model g.M.Host.calls c.run_import.result c.args.host.now
    c.read_rows.new.self c.args.store.now c.run_import.new.store c.args.book c.args.key
    c.args.csv.now c.in_ok-body.body (g.W.Write.contents c.args.writer.now)
    (g.W.Write.contents c.run_import.new.writer) c.in_ok-body.ensures.called
    c.run_import.ensures.printed

pub returns-clause-stopped : goal.returns-clause-stopped
returns-clause-stopped g c =
    rows_file_unimported g.S.BookStore.model g.M.Host.calls c.run_import.result c.args.host.now
    c.read_rows.new.self c.args.store.now c.run_import.new.store c.args.book c.args.key
    c.args.csv.now c.in_ok-body.body (g.W.Write.contents c.args.writer.now)
    (g.W.Write.contents c.run_import.new.writer) c.in_ok-body.ensures.called
    c.run_import.ensures.stopped
