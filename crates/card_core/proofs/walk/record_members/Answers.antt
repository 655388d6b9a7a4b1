use Rattle.std.proofs.Common.{◌≡◌, ◌<◌, ◌∙◌, length, get_or, codes, sym, ap, arith}
use Rattle.std.specs.Str.{bytes_eq}
use Rattle.vcard_text.specs.Cards.{line_is_named}
use Rattle.card_core.specs.internal.Walks.{RecordsMember}
use Rattle.card_core.proofs.MemberLemmas.{noted_one, noted_no_more, noted_all}
use Rattle.card_core.proofs.CountLemmas.{step_left}
use Rattle.card_core.proofs.walk.record_members.Goals as goal
use Rattle.card_core.proofs.walk.record_members.Goals.{then-eq+in_ok-record_member, else-eq}

pub loop-line-preserved : goal.loop-line-preserved
loop-line-preserved g c =
    let cards = g.C.CardsByUid.cards c.args.cards.now in
    let lines = c.args.card.now in
    let line = c.line-item.result in
    let within : c.loop-line.line-index < length lines =
    omega (arith, ap length c.lines-line-items.ensures.lines) in
    let at : line ≡ get_or lines c.loop-line.line-index line = c.line-item.is
    ∙ ap (λ ls. get_or ls c.loop-line.line-index line) c.lines-line-items.ensures.lines in
    let named : line_is_named (codes "MEMBER") line ≡ c.eq.result =
    ap (λ name. bytes_eq name (codes "MEMBER")) (sym c.as_str.ensures) ∙ sym c.eq.ensures in
    elim c.if-eq.branch [
      | then-eq+in_ok-record_member w ↦
          let step : RecordsMember cards line.value c.loop-line.walk c.if-eq.walk =
          rw (w.walk-is, ← w.as_str-then-eq.ensures) w.in_ok-record_member.ensures in
          record {
            noted = noted_one cards lines c.args.walk.now c.loop-line.walk c.if-eq.walk
                c.loop-line.line-index line within at (named
                ∙ w.if-eq.true) c.loop-line.invariant.noted step;
            fewer = omega (
              arith,
              step_left cards line.value c.loop-line.walk c.if-eq.walk step,
              c.loop-line.invariant.fewer,
            );
          }
      | else-eq w ↦
          record {
            noted = rw w.walk-is (noted_no_more cards lines c.args.walk.now c.loop-line.walk
                c.loop-line.line-index line within at (named ∙ w.if-eq.false)
                c.loop-line.invariant.noted);
            fewer = rw w.walk-is c.loop-line.invariant.fewer;
          }
    ]

pub returns-clause-keeps_walk : goal.returns-clause-keeps_walk
returns-clause-keeps_walk g c =
    noted_all (g.C.CardsByUid.cards c.args.cards.now) c.args.card.now c.args.walk.now
    c.loop-line.walk c.loop-line.line-index
    (omega (arith, ap length c.lines-line-items.ensures.lines)) c.loop-line.invariant.noted
