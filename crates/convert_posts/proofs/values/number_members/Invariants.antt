use Rattle.std.proofs.Common.{◌≡◌, fold, map, take}
use Rattle.serde_json.specs.Data.{no_members}
use Rattle.serde_json.specs.View.{members_view}
use Rattle.http_replies.specs.Objects.{with_number}
use Rattle.convert_posts.specs.internal.Members.{named_number}
use Rattle.convert_posts.proofs.values.number_members.Given as goal

-- the members so far are those of the rows so far
abbrev pub invariant-loop-name : goal.invariant-loop-name
invariant-loop-name l = members_view l.members.entries ≡ fold with_number no_members
    (map named_number (take l.name-index l.rows))
