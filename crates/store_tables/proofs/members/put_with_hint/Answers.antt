use Rattle.std.proofs.Math.Facts.{to_z-of_z}
use Rattle.store_tables.proofs.members.put_with_hint.Goals as goal

pub returns-then-likely_new : goal.returns-then-likely_new
returns-then-likely_new g c =
    rw (to_z-of_z c.ranges.book, to_z-of_z c.ranges.changed) at c.put_new_member.ensures

pub returns-else-likely_new : goal.returns-else-likely_new
returns-else-likely_new g c =
    rw (to_z-of_z c.ranges.book, to_z-of_z c.ranges.changed) at c.put_member.ensures
