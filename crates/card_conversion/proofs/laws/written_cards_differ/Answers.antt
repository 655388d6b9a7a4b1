use Rattle.std.proofs.Common.{[]}
use Rattle.card_conversion.proofs.PartLemmas.{all_cards, all_pairs}
use Rattle.card_conversion.proofs.laws.written_cards_differ.Goals as goal

pub returns-clause-rules : goal.returns-clause-rules
returns-clause-rules c = all_cards []

pub returns-clause-distinct : goal.returns-clause-distinct
returns-clause-distinct c = all_pairs []
