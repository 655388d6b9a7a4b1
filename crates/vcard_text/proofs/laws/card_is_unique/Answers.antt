use Rattle.vcard_text.proofs.TextLemmas.{one_card}
use Rattle.vcard_text.proofs.laws.card_is_unique.Goals as goal

pub returns : goal.returns
returns c = one_card
