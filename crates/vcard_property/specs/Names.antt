-- The name and the group of a line in vCard 4.0 (RFC 6350, section 6 and appendix A).
use Rattle.std.specs.Prelude.{ℕ, ◌≡◌, Bool, not, ◌&&◌, ◌||◌, List, ◌++◌, bytes_eq, codes, Option}
use Rattle.std.specs.Prelude.{None, Some, if◌then◌else◌}
use Rattle.std.specs.Str.{str_eq_ignore_ascii_case, str_to_ascii_uppercase}
use Rattle.base_types.specs.Octets.{colon, dot, quote}
use Rattle.import_text.specs.RawLines.{begins_with_word, head}
use Rattle.vcard_lines.specs.LegalParts.{is_name}
use Rattle.vcard_lines.specs.declared.line.Line.{Line}
use Rattle.vcard_values.specs.Cuts.{after, before, has_octet}
use Rattle.vcard_values.specs.Forms.{has_clear_form, names_uri, says, written_name}

-- ---- as the logical line has them

-- there is a group before the name
abbrev pub has_group : List ℕ → Bool
has_group line = has_octet dot (written_name line)

-- the name without its group
abbrev pub bare_name : List ℕ → List ℕ
bare_name line = if has_group line then after dot (written_name line) else written_name line

-- the group, if there is one
abbrev pub group_of : List ℕ → Option (List ℕ)
group_of line = if has_group line then Some (before dot (written_name line)) else None

-- The name and the group, if there is one, have only letters, digits and hyphens.
abbrev pub has_legal_name : List ℕ → Bool
has_legal_name line = is_name (bare_name line)
    && (not (has_group line) || is_name (before dot (written_name line)))

-- whether the value is a URI is said clearly
abbrev pub has_clear_uri : List ℕ → Bool
has_clear_uri line = has_clear_form line && not (has_octet quote (head line))

-- the name is AGENT, in any case
abbrev pub is_agent : List ℕ → Bool
is_agent line = str_eq_ignore_ascii_case (bare_name line) (codes "AGENT")

-- The line has a colon, and a legal name before it. If that is AGENT, it is clear whether its value
-- is a URI.
abbrev pub has_clear_name : List ℕ → Bool
has_clear_name line = has_octet colon line && has_legal_name line
    && (not (is_agent line) || has_clear_uri line)

-- ---- as vCard 4.0 has them

-- vCard 4.0 has no such property, and none that says the same.
abbrev pub is_obsolete : List ℕ → Bool
is_obsolete name = bytes_eq name (codes "CLASS") || bytes_eq name (codes "MAILER")
    || bytes_eq name (codes "NAME") || bytes_eq name (codes "PROFILE")
    || bytes_eq name (codes "SORT-STRING")

-- an address of mail within an Exchange server, to which nobody else can write
abbrev pub is_exchange : List ℕ → List ℕ → Bool
is_exchange name value = bytes_eq name (codes "EMAIL") && begins_with_word (codes "/O=") value

-- The name of a property in upper case becomes this one. The flag says whether the property's value
-- is a URI, and the value is the new one.
abbrev pub new_name : Bool → List ℕ → List ℕ → List ℕ
new_name is_uri value name =
    if bytes_eq name (codes "X-ADDRESSBOOKSERVER-KIND") then codes "KIND"
    else (if bytes_eq name (codes "X-ADDRESSBOOKSERVER-MEMBER") then codes "MEMBER"
    else (if bytes_eq name (codes "LABEL") then codes "ADR"
    else (if bytes_eq name (codes "AGENT") && is_uri then codes "RELATED"
    else (if bytes_eq name (codes "AGENT") || is_obsolete name || is_exchange name value
    then codes "X-" ++ name else name))))

-- the line has the name and the group of the logical line, as vCard 4.0 has them
pub record HasNameOf (octets : List ℕ) (line : Line) : Type 0 where
  pub name : line.name
      ≡ new_name (says names_uri octets) line.value (str_to_ascii_uppercase (bare_name octets))
  pub group : line.group ≡ group_of octets
