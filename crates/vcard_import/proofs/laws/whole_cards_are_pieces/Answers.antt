use Rattle.vcard_import.proofs.WholeCardLemmas.{card_is_piece}
use Rattle.vcard_import.proofs.laws.whole_cards_are_pieces.Goals as goal

pub returns : goal.returns
returns c = card_is_piece
