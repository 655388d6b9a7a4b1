use Rattle.cli_host.proofs.CallLemmas.{used_opened, vacant_created}
use Rattle.cli_host.proofs.serving.open_or_create.Goals as goal

pub returns-then-is_vacant : goal.returns-then-is_vacant
returns-then-is_vacant g c = vacant_created g.M.Host.calls c.args.host.now c.is_vacant.new.self
    c.create.new.self c.args.file.now c.is_vacant.result c.create.result c.if-is_vacant.true
    c.is_vacant.ensures c.create.ensures

pub returns-else-is_vacant : goal.returns-else-is_vacant
returns-else-is_vacant g c = used_opened g.M.Host.calls c.args.host.now c.is_vacant.new.self
    c.open_watched.new.host c.args.file.now c.is_vacant.result c.open_watched.result
    c.if-is_vacant.false c.is_vacant.ensures c.open_watched.ensures
