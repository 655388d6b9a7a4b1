use Rattle.store_rows.proofs.CardLemmas.{members_cards}
use Rattle.store_rows.proofs.reading.members_of_is_cards.Goals as goal

pub returns : goal.returns
returns c = members_cards
