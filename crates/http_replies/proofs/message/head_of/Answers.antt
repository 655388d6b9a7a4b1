use Rattle.std.proofs.Common.{refl}
use Rattle.http_replies.specs.Messages.{head_octets}
use Rattle.http_replies.proofs.message.head_of.Goals as goal

pub returns : goal.returns
unfolding head_octets
returns c =
    rw (
      c.in_ok-push_str.ensures.bytes,
      c.in_ok-push_field-3.ensures,
      c.connection_option.ensures,
      c.in_ok-push_field-2.ensures,
      c.as_str.ensures.value,
      c.in_ok-length.ensures,
      c.as_slice.ensures.value,
      c.in_ok-push_more.ensures,
      c.in_ok-push_field.ensures,
      c.in_ok-push_status.ensures,
      c.in_ok-head.ensures.bytes,
    )
    refl
