use Rattle.book_laws.proofs.PagingLemmas.{events_add_at_most_one, truncated_pages_leave_rest}
use Rattle.book_laws.proofs.PagingLemmas.{truncated_pages_leave_fewer, last_pages_leave_nobody}
use Rattle.book_laws.proofs.devices.due_members_are_counted.Goals as goal

pub returns-clause-event : goal.returns-clause-event
returns-clause-event c = events_add_at_most_one

pub returns-clause-rest : goal.returns-clause-rest
returns-clause-rest c = truncated_pages_leave_rest

pub returns-clause-fewer : goal.returns-clause-fewer
returns-clause-fewer c = truncated_pages_leave_fewer

pub returns-clause-none : goal.returns-clause-none
returns-clause-none c = last_pages_leave_nobody
