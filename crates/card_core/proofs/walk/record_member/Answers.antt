use Rattle.std.proofs.Common.{refl}
use Rattle.std.proofs.lemmas.Bool.{false≢true}
use Rattle.std.proofs.lemmas.Result.{on_ok_weaker}
use Rattle.card_core.specs.internal.Walks.{value_names_group, value_names_person}
use Rattle.card_core.proofs.walk.record_member.Goals as goal

pub returns-then-is_group : goal.returns-then-is_group
returns-then-is_group g c =
    on_ok_weaker c.add_group.result (λ meets. value_names_group c.in-Some.uid.now c.in-Some.card.now
    c.in-Some.ensures (c.if-is_group.ensures.0 refl) meets) c.add_group.ensures

pub returns-else-is_group : goal.returns-else-is_group
returns-else-is_group g c =
    on_ok_weaker c.insert-else-is_group.result
    (λ gains. value_names_person c.in-Some.uid.now c.in-Some.card.now c.in-Some.ensures
    (λ is. false≢true (c.if-is_group.ensures.1 is)) gains refl (record {
      groups = refl;
      waiting = refl;
    }))
    c.insert-else-is_group.ensures
