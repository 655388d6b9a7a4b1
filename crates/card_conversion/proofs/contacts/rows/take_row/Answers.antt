use Rattle.std.proofs.Common.{rules, ◌≡◌, Ok, sym, subst}
use Rattle.std.proofs.lemmas.Result.{IfOk-weaker}
use Rattle.vcard_text.specs.Cards.{IsCard}
use Rattle.card_conversion.specs.internal.ContactStates.{TakesRow}
use Rattle.card_conversion.proofs.contacts.rows.take_row.Goals as goal

pub returns-in-Ok : goal.returns-in-Ok
returns-in-Ok g c =
    let same : c.args.row ≡ Ok c.in-Ok.conversion = search rules in
    let card : IsCard c.in-Ok.conversion.card = search rules in
    IfOk-weaker c.deliver_row.result _ _ (λ fate takes.
    subst (λ row. TakesRow g.O.CardSink.writes row c.args.uids.now c.deliver_row.new.uids
    c.args.sink.now c.deliver_row.new.sink fate) (sym same) (takes card))
    c.deliver_row.ensures
