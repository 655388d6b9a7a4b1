use Rattle.std.proofs.Common.{◌≡◌, [], ◌++◌, refl, ap, ◌∙◌}
use Rattle.json.specs.Print.{print}
use Rattle.json.specs.Tree.{json_tokens}
use Rattle.serde_json.specs.Written.{outline}
use Rattle.serde_json.proofs.Texts.{print-outline}
use Rattle.http_replies.specs.ReplyValues.{card_value}
use Rattle.http_replies.proofs.card.write_card_reply.Goals as goal

pub returns : goal.returns
returns c =
    let value = card_value c.args.uid.now c.args.version c.args.card.now in
    let before_is : c.end_object.new.self.before ≡ [] = rw (
      c.in_ok-end_object.ensures.room.0,
      c.in_ok-u64.ensures.room.0,
      c.in_ok-key-3.ensures.room.0,
      c.in_ok-string-2.ensures.room.0,
      c.in_ok-key-2.ensures.room.0,
      c.in_ok-string.ensures.room.0,
      c.in_ok-key.ensures.room.0,
      c.in_ok-begin_object.ensures.room.0,
      c.new-out.ensures.before,
      c.new.ensures.items,
    ) refl in
    let tokens_are : c.end_object.new.self.tokens ≡ json_tokens (outline value) = rw (
      c.in_ok-end_object.ensures.ok,
      c.in_ok-u64.ensures.ok,
      c.in_ok-key-3.ensures.ok,
      c.in_ok-string-2.ensures.ok,
      c.in_ok-key-2.ensures.ok,
      c.in_ok-string.ensures.ok,
      c.in_ok-key.ensures.ok,
      c.in_ok-begin_object.ensures.ok,
      c.new-out.ensures.tokens,
      c.as_str.ensures.value,
      c.in_ok-text.ensures,
    ) refl in
    c.into_inner.ensures.items
    ∙ ap (λ before. before ++ print c.end_object.new.self.tokens) before_is
    ∙ ap print tokens_are
    ∙ print-outline value
