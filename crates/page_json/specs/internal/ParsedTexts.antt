-- The texts of the Rust types that the code parses before it reads cards and the token. Only
-- private functions cite it.
use Rattle.std.specs.Prelude.{map}
use Rattle.page_json.specs.declared.member.Member.{Member}
use Rattle.page_json.specs.declared.member.Member.TheVariants.{Changed, Removed}
use Rattle.page_json.specs.declared.parts.Parts.{Parts}
use Rattle.page_json.specs.PageTexts.{MemberTexts, changed, removed, PageTexts}

-- the texts of a member
abbrev pub texts_of : Member → MemberTexts
texts_of (Changed uid version card) = changed uid.now version card.now
texts_of (Removed uid) = removed uid.now

-- the texts of a page
abbrev pub texts_of_parts : Parts → PageTexts
texts_of_parts parts = record {
  members = map texts_of parts.members.items;
  token = parts.token.now;
  truncated = parts.truncated;
}
