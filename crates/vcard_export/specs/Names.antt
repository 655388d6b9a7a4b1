-- Names of properties in vCard 3.0 (RFC 2426) and 4.0 (RFC 6350, section 6).
use Rattle.std.specs.Prelude.{ℕ, Bool, ◌||◌, List, [], ◌++◌, codes, if◌then◌else◌}
use Rattle.vcard_lines.specs.declared.line.Line.{Line}
use Rattle.vcard_text.specs.Cards.{line_is_named}

-- the value is a day (RFC 6350, sections 6.2.5 and 6.2.6)
abbrev pub is_date_name : Line → Bool
is_date_name line = line_is_named (codes "BDAY") line || line_is_named (codes "ANNIVERSARY") line

-- the value is a picture (sections 6.2.4 and 6.6.3)
abbrev pub is_picture_name : Line → Bool
is_picture_name line = line_is_named (codes "PHOTO") line || line_is_named (codes "LOGO") line

-- the value is the address of something elsewhere
abbrev pub is_address_name : Line → Bool
is_address_name line =
    line_is_named (codes "URL") line || line_is_named (codes "SOURCE") line
    || line_is_named (codes "IMPP") line || line_is_named (codes "FBURL") line
    || line_is_named (codes "CALURI") line || line_is_named (codes "CALADRURI") line

-- the value isn't a text, unless VALUE says so, and nothing is escaped in it
abbrev pub is_uri_name : Line → Bool
is_uri_name line =
    is_address_name line
    || line_is_named (codes "UID") line || line_is_named (codes "MEMBER") line
    || line_is_named (codes "RELATED") line || line_is_named (codes "GEO") line
    || line_is_named (codes "REV") line || is_date_name line

-- The value is one text, in which a comma is a part of it. ORG has components, and no lists.
abbrev pub is_whole_name : Line → Bool
is_whole_name line =
    line_is_named (codes "FN") line || line_is_named (codes "NOTE") line
    || line_is_named (codes "TITLE") line || line_is_named (codes "ROLE") line
    || line_is_named (codes "ORG") line

-- a property of vCard 3.0 that vCard 4.0 doesn't have
abbrev pub is_older_name : Line → Bool
is_older_name line =
    line_is_named (codes "AGENT") line || line_is_named (codes "CLASS") line
    || line_is_named (codes "LABEL") line || line_is_named (codes "MAILER") line
    || line_is_named (codes "NAME") line || line_is_named (codes "PROFILE") line
    || line_is_named (codes "SORT-STRING") line

-- a property of groups, which Apple's programs have under names of their own
abbrev pub is_group_name : Line → Bool
is_group_name line = line_is_named (codes "KIND") line || line_is_named (codes "MEMBER") line

-- what comes before the name in vCard 3.0
abbrev pub name_prefix : Line → List ℕ
name_prefix line =
    if is_group_name line then codes "X-ADDRESSBOOKSERVER-"
    else (if is_older_name line then codes "X-" else [])

-- The name in vCard 3.0. One that vCard 3.0 has for something else gets X- before it; any other
-- stays, since a name of vCard 4.0 is one that IANA has registered (RFC 2426, section 4).
abbrev pub older_name : Line → List ℕ
older_name line = name_prefix line ++ line.name
