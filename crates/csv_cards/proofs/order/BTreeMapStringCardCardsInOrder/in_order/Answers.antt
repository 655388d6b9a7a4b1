use Rattle.std.proofs.Common.{rules, ◌≡◌, List, [], ◌∷◌, String, map, refl, sym, ap, ◌∙◌}
use Rattle.std.specs.Map.Iter.{deref_pair}
use Rattle.std.proofs.lemmas.Map.Iter.{iter_end}
use Rattle.base_types.proofs.TextMapLemmas.{entries-texts, octet_entry}
use Rattle.csv_cards.proofs.order.BTreeMapStringCardCardsInOrder.in_order.Goals as goal

-- the cards are the same, whatever is seen of their keys
cards_of : {A V : Type 0} (es : List (String A × V)) → map (λ e. e.1) (map octet_entry es)
    ≡ map (λ e. e.1) es
cards_of [] = refl
cards_of (e ∷ es) = ap (λ vs. e.1 ∷ vs) (cards_of es)

pub returns : goal.returns
returns c =
    let all : map deref_pair c.loop-card.yielded ≡ c.args.self.now.entries =
    search (rules, iter_end) in
    c.loop-card.invariant ∙ ap (map (λ e. e.1)) all ∙ sym (cards_of c.args.self.now.entries)
    ∙ ap (map (λ e. e.1)) (sym (entries-texts c.args.self.now c.iter-card-items.ensures.ordered))
