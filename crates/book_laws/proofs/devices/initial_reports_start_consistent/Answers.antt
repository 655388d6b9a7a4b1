use Rattle.book_laws.proofs.DeviceLemmas.{empty_copy_agrees, live_are_due_first}
use Rattle.book_laws.proofs.devices.initial_reports_start_consistent.Goals as goal

pub returns-clause-copies : goal.returns-clause-copies
returns-clause-copies c = empty_copy_agrees

pub returns-clause-due : goal.returns-clause-due
returns-clause-due c = live_are_due_first
