use Rattle.std.proofs.Common.{refl}
use Rattle.site_files.specs.SiteReplies.{file_head}
use Rattle.site_files.proofs.replies.file_head.Goals as goal

pub returns : goal.returns
unfolding file_head
returns c =
    rw (
      c.in_ok-push_str-3.ensures.bytes,
      c.in_ok-push_str-2.ensures.bytes,
      c.connection_line.ensures,
      c.in_ok-push_field-2.ensures,
      c.as_str.ensures.value,
      c.in_ok-length.ensures,
      c.in_ok-push_field.ensures,
      c.in_ok-push_str.ensures.bytes,
      c.in_ok-head.ensures.bytes,
    )
    refl
