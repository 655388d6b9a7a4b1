use Rattle.std.proofs.Common.{◌≡◌, ◌+◌, ◌≤◌, List, [], ◌∷◌, ◌++◌, map, Bor, refl, sym, ap, ◌∙◌}
use Rattle.std.proofs.Common.{arith}
use Rattle.std.proofs.lemmas.List.{map-append, append-nil}
use Rattle.vcard_lines.specs.declared.line.Line.{Line}
use Rattle.card_core.specs.declared.walk.Walk.{Walk}
use Rattle.card_core.specs.internal.Walks.{groups_left}
use Rattle.card_core.proofs.CountLemmas.{taking_left}
use Rattle.card_core.proofs.WalkLemmas.{takes_out, takes_none}
use Rattle.card_core.proofs.walk.visit_waiting.Given as given
use Rattle.card_core.proofs.walk.visit_waiting.Goals as goal

taken_out : (old new : List (Bor (List Line))) (card : Bor (List Line)) → old ≡ new ++ card ∷ []
    → map (λ c. c.now) old ≡ map (λ c. c.now) new ++ card.now ∷ []
taken_out old new card is = ap (map (λ c. c.now)) is ∙ map-append (λ c. c.now) new (card ∷ [])

-- the walk after a group was removed
abbrev rest_of : (g : given.Over) → goal.In_ok-record_members g → Walk
rest_of g c = record c.loop-card.walk { waiting = c.pop.new.self }

pub loop-card-preserved : goal.loop-card-preserved
loop-card-preserved g c = λ group before.
    c.in_ok-record_members.ensures.keeps_walk group
    (takes_out (g.C.CardsByUid.cards c.args.cards.now) group c.in-Some.card.now c.loop-card.walk
    (rest_of g c)
    (taken_out c.loop-card.walk.waiting.items c.pop.new.self.items c.in-Some.card
    c.in-Some.ensures.items)
    (record { people = refl; missing = refl }) refl
    (c.loop-card.invariant group before))

pub loop-card-smaller : goal.loop-card-smaller
loop-card-smaller g c =
    let fewer : groups_left (g.C.CardsByUid.cards c.args.cards.now) (rest_of g c) + 1 ≤ groups_left
    (g.C.CardsByUid.cards c.args.cards.now) c.loop-card.walk =
    taking_left (g.C.CardsByUid.cards c.args.cards.now) c.in-Some.card.now c.loop-card.walk
    (rest_of g c) (taken_out c.loop-card.walk.waiting.items c.pop.new.self.items c.in-Some.card
    c.in-Some.ensures.items) refl in
    let no_more : groups_left (g.C.CardsByUid.cards c.args.cards.now) c.record_members.new.walk ≤
    groups_left (g.C.CardsByUid.cards c.args.cards.now) (rest_of g c) =
    c.in_ok-record_members.ensures.decreases in
    omega arith

pub returns-clause-keeps_walk : goal.returns-clause-keeps_walk
returns-clause-keeps_walk g c = λ group before.
    takes_none (g.C.CardsByUid.cards c.args.cards.now) group c.loop-card.walk
    (record c.loop-card.walk { waiting = c.pop.new.self })
    (record { people = refl; missing = refl })
    (record {
      groups = refl;
      waiting = ap (map (λ c. c.now)) (sym (c.in_default.ensures.items
          ∙ append-nil c.pop.new.self.items));
    })
    (c.loop-card.invariant group before)
