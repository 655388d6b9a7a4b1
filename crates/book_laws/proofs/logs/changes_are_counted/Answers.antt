use Rattle.book_laws.proofs.CountLemmas.{reasons_are_counted, events_are_counted, live_are_counted}
use Rattle.book_laws.proofs.logs.changes_are_counted.Goals as goal

pub returns-clause-reasons : goal.returns-clause-reasons
returns-clause-reasons c = reasons_are_counted

pub returns-clause-events : goal.returns-clause-events
returns-clause-events c = events_are_counted

pub returns-clause-live : goal.returns-clause-live
returns-clause-live c = live_are_counted
