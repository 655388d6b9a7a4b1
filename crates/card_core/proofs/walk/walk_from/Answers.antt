use Rattle.std.proofs.Common.{map, ap}
use Rattle.card_core.specs.declared.walk.Walk.{Walk}
use Rattle.card_core.proofs.WalkLemmas.{meeting_begins, whole_walk}
use Rattle.card_core.proofs.walk.walk_from.Given as given
use Rattle.card_core.proofs.walk.walk_from.Goals as goal

-- the walk before the first group
abbrev none_found : (g : given.Over) → goal.In_ok-visit_waiting g → Walk
none_found g c = record {
  people = c.new.result;
  groups = c.new-2.result;
  missing = c.new-3.result;
  waiting = c.new-4.result;
}

pub returns : goal.returns
returns g c =
    whole_walk (g.C.CardsByUid.cards c.args.cards.now) c.args.group.now c.visit_waiting.new.walk
    (c.in_ok-visit_waiting.ensures.keeps_walk c.args.group.now
    (meeting_begins (g.C.CardsByUid.cards c.args.cards.now) c.args.group.now c.args.card.now
    (none_found g c) c.add_group.new.walk c.requires.found c.requires.is_group
    c.new.ensures c.new-2.ensures c.new-3.ensures (ap (map (λ card. card.now))
    c.new-4.ensures.items) c.in_ok-add_group.ensures))
    (ap (map (λ card. card.now)) c.in_ok-visit_waiting.ensures.none_waits)
