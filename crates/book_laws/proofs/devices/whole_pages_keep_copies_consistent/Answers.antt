use Rattle.book_laws.proofs.DeviceLemmas.{whole_page_keeps_copy}
use Rattle.book_laws.proofs.devices.whole_pages_keep_copies_consistent.Goals as goal

pub returns : goal.returns
returns c = whole_page_keeps_copy
