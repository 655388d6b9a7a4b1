use Rattle.std.proofs.Common.{refl}
use Rattle.site_files.specs.SiteReplies.{bad_method_reply}
use Rattle.site_files.proofs.replies.bad_method_reply.Goals as goal

pub returns : goal.returns
unfolding bad_method_reply
returns c =
    rw (
      c.into_bytes.ensures.value,
      c.in_ok-push_str-4.ensures.bytes,
      c.in_ok-push_str-3.ensures.bytes,
      c.in_ok-push_str-2.ensures.bytes,
      c.connection_line.ensures,
      c.in_ok-push_field-3.ensures,
      c.in_ok-push_field-2.ensures,
      c.in_ok-push_field.ensures,
      c.in_ok-push_str.ensures.bytes,
      c.in_ok-reply.ensures.bytes,
    )
    refl
