use Rattle.book_laws.proofs.ImportCountLemmas.{imports_count_live_cards, imports_take_events}
use Rattle.book_laws.proofs.logs.imports_count_live_cards.Goals as goal

pub returns-clause-counts : goal.returns-clause-counts
returns-clause-counts c = imports_count_live_cards

pub returns-clause-events : goal.returns-clause-events
returns-clause-events c = imports_take_events
