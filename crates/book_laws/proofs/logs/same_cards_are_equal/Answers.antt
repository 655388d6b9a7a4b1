use Rattle.book_model.proofs.SameCardLemmas.{card-Decides}
use Rattle.book_laws.proofs.logs.same_cards_are_equal.Goals as goal

pub returns-clause-lines : goal.returns-clause-lines
returns-clause-lines c = card-Decides

pub returns-clause-texts : goal.returns-clause-texts
returns-clause-texts c a b is_a is_b =
    let cards = card-Decides a b in
    let texts = c.equal_texts.ensures a b is_a is_b in
    (λ e. texts.1 (cards.0 e), λ e. cards.1 (texts.0 e))
