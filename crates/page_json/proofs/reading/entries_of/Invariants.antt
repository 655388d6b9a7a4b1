use Rattle.std.proofs.Common.{map, take}
use Rattle.page_json.specs.PageTexts.{DescribeEntries}
use Rattle.page_json.specs.internal.ParsedTexts.{texts_of}
use Rattle.page_json.proofs.reading.entries_of.Given as goal

-- the members so far describe the entries so far
abbrev pub invariant-loop-member : goal.invariant-loop-member
invariant-loop-member l = DescribeEntries (map texts_of (take l.member-index l.members))
    l.entries.items
