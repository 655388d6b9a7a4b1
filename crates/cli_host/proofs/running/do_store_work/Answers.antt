use Rattle.cli_host.proofs.StoreCallLemmas.{export_stopped, resync_stopped}
use Rattle.cli_host.proofs.running.do_store_work.Goals as goal

pub returns-in-Resync-clause-stopped : goal.returns-in-Resync-clause-stopped
returns-in-Resync-clause-stopped g c =
    rw c.in-Resync.is
    (resync_stopped g.S.BookStore.model g.M.Host.calls c.run_resync.result c.args.host.now
    c.args.store.now c.run_resync.new.store c.in-Resync.pairs
    (g.W.Write.contents c.args.writer.now) (g.W.Write.contents c.run_resync.new.writer)
    c.run_resync.ensures.stopped)

pub returns-in-ExportCards-clause-stopped : goal.returns-in-ExportCards-clause-stopped
returns-in-ExportCards-clause-stopped g c =
    rw c.in-ExportCards.is
    (export_stopped g.S.BookStore.model g.M.Host.calls c.run_card_export.result c.args.host.now
    c.args.store.now c.run_card_export.new.store c.in-ExportCards.book c.in-ExportCards.is_older
    (g.W.Write.contents c.args.writer.now) (g.W.Write.contents c.run_card_export.new.writer)
    (rw c.as_str-in-ExportCards.ensures at c.run_card_export.ensures.stopped))
