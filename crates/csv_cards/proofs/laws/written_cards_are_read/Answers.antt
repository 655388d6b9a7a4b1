use Rattle.csv_cards.proofs.ReadBackLemmas.{cards_read_back}
use Rattle.csv_cards.proofs.laws.written_cards_are_read.Goals as goal

pub returns : goal.returns
returns c = cards_read_back c.canonical_text_spells.ensures
