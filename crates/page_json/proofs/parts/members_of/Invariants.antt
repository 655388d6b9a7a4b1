use Rattle.std.proofs.Common.{map, take}
use Rattle.serde_json.specs.View.{view}
use Rattle.page_json.specs.PageValues.{EncodeMembers}
use Rattle.page_json.specs.internal.ParsedTexts.{texts_of}
use Rattle.page_json.proofs.parts.members_of.Given as goal

-- the values so far encode the members so far
abbrev pub invariant-loop-value : goal.invariant-loop-value
invariant-loop-value l = EncodeMembers (map view (take l.value-index l.values))
    (map texts_of l.members.items)
