use Rattle.book_store.proofs.LegalLemmas.{accepted_cards, legal_cards}
use Rattle.book_store.proofs.laws.stored_cards_are_legal.Goals as goal

pub returns-clause-files : goal.returns-clause-files
returns-clause-files c = legal_cards c.card_is_computed.ensures c.spelled_is_card.ensures

pub returns-clause-openings : goal.returns-clause-openings
returns-clause-openings c = accepted_cards c.card_is_computed.ensures c.spelled_is_card.ensures
