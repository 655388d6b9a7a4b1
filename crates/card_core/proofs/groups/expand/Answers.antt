use Rattle.card_core.proofs.ExpansionLemmas.{expansion_of_walk}
use Rattle.card_core.proofs.groups.expand.Goals as goal

pub returns-clause-expansion : goal.returns-clause-expansion
returns-clause-expansion g c =
    expansion_of_walk (g.C.CardsByUid.cards c.args.cards.now) c.args.group.now c.in_ok-walk.walk
    (record { people = c.in_ok-into_items.field-0; missing = c.in_ok-into_items-2.field-0 })
    c.in_ok-walk.ensures
    c.in_ok-into_items.ensures.texts c.in_ok-into_items-2.ensures.texts
    c.in_ok-into_items.ensures.order c.in_ok-into_items-2.ensures.order
