use Rattle.book_laws.proofs.DeviceLemmas.{partial_page_keeps_copy}
use Rattle.book_laws.proofs.devices.partial_pages_keep_copies_consistent.Goals as goal

pub returns : goal.returns
returns c = partial_page_keeps_copy
