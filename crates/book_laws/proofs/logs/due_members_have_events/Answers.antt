use Rattle.book_laws.proofs.DueLemmas.{due_have_events}
use Rattle.book_laws.proofs.logs.due_members_have_events.Goals as goal

pub returns : goal.returns
returns c = due_have_events
