use Rattle.book_laws.proofs.DeviceLemmas.{event_keeps_device, new_book_keeps_device}
use Rattle.book_laws.proofs.DeviceLemmas.{partial_page_keeps_device, whole_page_keeps_device}
use Rattle.book_laws.proofs.devices.devices_stay_consistent_among_books.Goals as goal

pub returns-clause-events : goal.returns-clause-events
returns-clause-events c = event_keeps_device

pub returns-clause-books : goal.returns-clause-books
returns-clause-books c = new_book_keeps_device

pub returns-clause-parts : goal.returns-clause-parts
returns-clause-parts c = partial_page_keeps_device

pub returns-clause-pages : goal.returns-clause-pages
returns-clause-pages c = whole_page_keeps_device
