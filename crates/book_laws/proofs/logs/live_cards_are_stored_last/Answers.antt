use Rattle.book_laws.proofs.LiveLemmas.{live_are_stored_last}
use Rattle.book_laws.proofs.logs.live_cards_are_stored_last.Goals as goal

pub returns : goal.returns
returns c = live_are_stored_last
