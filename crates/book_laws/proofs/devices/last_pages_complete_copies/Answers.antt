use Rattle.book_laws.proofs.DeviceLemmas.{last_pages_complete_copies, last_pages_complete_all}
use Rattle.book_laws.proofs.DeviceLemmas.{nobody_due_is_complete}
use Rattle.book_laws.proofs.devices.last_pages_complete_copies.Goals as goal

pub returns-clause-copies : goal.returns-clause-copies
returns-clause-copies c = last_pages_complete_copies

pub returns-clause-devices : goal.returns-clause-devices
returns-clause-devices c = last_pages_complete_all

pub returns-clause-due : goal.returns-clause-due
returns-clause-due c = nobody_due_is_complete
