use Rattle.cli_host.proofs.CallLemmas.{store_got, store_opened}
use Rattle.cli_host.proofs.serving.get_store.Goals as goal

pub returns-then-creates : goal.returns-then-creates
returns-then-creates g c = store_got g.M.Host.calls c.args.host.now c.open_or_create.new.host
    c.args.file.now c.args.creates c.open_or_create.result c.if-creates.true
    c.open_or_create.ensures

pub returns-else-creates : goal.returns-else-creates
returns-else-creates g c = store_opened g.M.Host.calls c.args.host.now c.open_watched.new.host
    c.args.file.now c.args.creates c.open_watched.result c.if-creates.false c.open_watched.ensures
