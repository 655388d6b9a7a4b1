use Rattle.book_laws.proofs.DeviceLemmas.{copies_stay_consistent}
use Rattle.book_laws.proofs.devices.copies_stay_consistent.Goals as goal

pub returns : goal.returns
returns c = copies_stay_consistent
