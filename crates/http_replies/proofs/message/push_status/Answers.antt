use Rattle.std.proofs.Common.{append_assoc, refl}
use Rattle.http_replies.proofs.message.push_status.Goals as goal

pub returns : goal.returns
returns c =
    simp (
      c.in_ok-push_str-5.ensures.bytes,
      c.in_ok-push_str-4.ensures.bytes,
      c.in_ok-push_str-3.ensures.bytes,
      c.in_ok-push_str-2.ensures.bytes,
      c.in_ok-push_str.ensures.bytes,
      c.as_str.ensures,
      c.phrase_of.ensures,
      append_assoc,
    )
    refl
