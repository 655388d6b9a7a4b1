use Rattle.std.proofs.Common.{rules, ◌≡◌, ◌∙◌, ap, subst, IfSome, refl}
use Rattle.std.specs.List.{Contains}
use Rattle.vcard_text.specs.Cards.{IsCard, uid_of}
use Rattle.card_conversion.specs.Moved.{lines_under, own_uid}
use Rattle.card_conversion.proofs.MovedLemmas.{has_uid}
use Rattle.card_conversion.proofs.pieces.take_again.Goals as goal

pub returns-in-Some : goal.returns-in-Some
returns-in-Some g c known has taken converted =
    let octets = c.args.piece.now in
    let made = c.args.conversion in
    let first = made.card in
    let own : c.as_str-2.result.now ≡ own_uid octets made = c.as_str-2.ensures.value
    ∙ c.in_ok-own.ensures in
    let moved : c.in-Some.card ≡ lines_under c.as_str-2.result.now first =
    subst (λ found. IfSome found (λ made. made ≡ lines_under c.as_str-2.result.now first))
    c.in-Some.is c.in_ok-card.ensures.moved in
    let is : c.in-Some.card ≡ lines_under (own_uid octets made) first =
    moved ∙ ap (λ uid. lines_under uid first) own in
    let another : Contains known (own_uid octets made) → ⊥ =
    (λ had. let some = (has (own_uid octets made)).1 had in search rules) in
    let uid : uid_of c.in-Some.card ≡ own_uid octets made = ap uid_of is
    ∙ has_uid (own_uid octets made) first converted.card.rules.one_uid in
    c.write_moved.ensures known has
    (record {
      first = c.args.conversion;
      converted = converted;
      taken = taken;
      another = another;
      moved = record {
        card = subst (λ found. IfSome found IsCard) c.in-Some.is
            c.in_ok-card.ensures.rules;
        card_is = is;
        changes_are = refl;
      };
    })
    (λ had. another (subst (Contains known) uid had))
