use Rattle.std.proofs.Common.{◌∙◌, subst, string_bytes}
use Rattle.vcard_text.specs.Cards.{uid_of}
use Rattle.card_conversion.specs.Deliveries.{Delivers}
use Rattle.card_conversion.specs.Moved.{own_uid}
use Rattle.card_conversion.proofs.UidLemmas.{one_kept, two_kept}
use Rattle.card_conversion.proofs.pieces.write_new.Goals as goal

pub returns-in_ok-insert-in-Written : goal.returns-in_ok-insert-in-Written
returns-in_ok-insert-in-Written g c known has = (
  two_kept c.args.uids.now c.insert.new.self c.insert-in-Written.new.self known
      (uid_of c.args.made.now.card) (own_uid c.args.piece.now c.args.made.now)
      (string_bytes c.in_ok-uid.uid) (string_bytes c.in_ok-own.own)
      c.in_ok-insert-in-Written.ensures.ok c.in_ok-insert.ensures.ok (c.in_ok-uid.ensures.ok
      ∙ c.uid.ensures) c.in_ok-own.ensures has,
  subst (λ d. Delivers (g.O.CardSink.writes c.args.made.now.card) d c.args.sink.now c.put.new.self)
      c.in-Written.is c.in_ok-put.ensures,
)

pub returns-in-Refused : goal.returns-in-Refused
returns-in-Refused g c known has = (
  one_kept c.args.uids.now c.insert.new.self known (uid_of c.args.made.now.card)
      (string_bytes c.in_ok-uid.uid)
      c.in_ok-insert.ensures.ok (c.in_ok-uid.ensures.ok ∙ c.uid.ensures) has,
  subst (λ d. Delivers (g.O.CardSink.writes c.args.made.now.card) d c.args.sink.now c.put.new.self)
      c.in-Refused.is c.in_ok-put.ensures,
)
