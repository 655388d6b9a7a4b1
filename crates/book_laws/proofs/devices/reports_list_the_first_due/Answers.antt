use Rattle.book_laws.proofs.PagingLemmas.{due_rises, entries_are_first_due, pages_fit}
use Rattle.book_laws.proofs.devices.reports_list_the_first_due.Goals as goal

pub returns-clause-order : goal.returns-clause-order
returns-clause-order c = due_rises

pub returns-clause-entries : goal.returns-clause-entries
returns-clause-entries c = entries_are_first_due

pub returns-clause-size : goal.returns-clause-size
returns-clause-size c = pages_fit
