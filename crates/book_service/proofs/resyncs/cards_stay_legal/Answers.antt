use Rattle.book_service.proofs.LegalCardLemmas.{cards_stay_legal, new_stores_have_legal_cards}
use Rattle.book_service.proofs.resyncs.cards_stay_legal.Goals as goal

pub returns-clause-starts : goal.returns-clause-starts
returns-clause-starts c = new_stores_have_legal_cards

pub returns-clause-stay : goal.returns-clause-stay
returns-clause-stay c = cards_stay_legal c.rows_are_per_book.ensures c.spelled_is_card.ensures
