use Rattle.csv_cards.proofs.OneReadingLemmas.{cards_one}
use Rattle.csv_cards.proofs.laws.cards_of_rows_are_unique.Goals as goal

pub returns : goal.returns
returns c = cards_one c.card_is_unique.ensures
