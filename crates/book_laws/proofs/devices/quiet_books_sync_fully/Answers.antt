use Rattle.book_laws.proofs.PagingLemmas.{quiet_books_sync_fully, quiet_devices_catch_up}
use Rattle.book_laws.proofs.devices.quiet_books_sync_fully.Goals as goal

pub returns-clause-places : goal.returns-clause-places
returns-clause-places c = quiet_books_sync_fully

pub returns-clause-devices : goal.returns-clause-devices
returns-clause-devices c = quiet_devices_catch_up
