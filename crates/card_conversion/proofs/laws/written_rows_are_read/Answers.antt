use Rattle.card_conversion.proofs.ReadBackLemmas.{cards_read_back, rows_in_turn}
use Rattle.card_conversion.proofs.laws.written_rows_are_read.Goals as goal

pub returns-clause-read : goal.returns-clause-read
returns-clause-read c = cards_read_back c.canonical_text_spells.ensures

pub returns-clause-text : goal.returns-clause-text
returns-clause-text c = rows_in_turn
