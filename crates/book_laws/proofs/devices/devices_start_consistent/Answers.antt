use Rattle.book_laws.proofs.DeviceLemmas.{devices_start_consistent}
use Rattle.book_laws.proofs.devices.devices_start_consistent.Goals as goal

pub returns : goal.returns
returns c = devices_start_consistent
