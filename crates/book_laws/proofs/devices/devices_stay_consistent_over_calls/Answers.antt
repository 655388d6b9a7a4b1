use Rattle.book_laws.proofs.DeviceRunLemmas.{calls_keep_device}
use Rattle.book_laws.proofs.devices.devices_stay_consistent_over_calls.Goals as goal

pub returns : goal.returns
returns c = calls_keep_device
