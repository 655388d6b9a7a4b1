-- Which component of a structured value a column of Google's or Outlook's has (RFC 6350, sections
-- 6.2.2, 6.3.1 and 6.6.4).
use Rattle.std.specs.Prelude.{ℕ, Bool, ◌||◌, List, codes, bytes_eq, nat_eq, Option, Some, None}
use Rattle.std.specs.Prelude.{if◌then◌else◌}
use Rattle.std.specs.List.{ends_with}

-- the component of N: family names, given names, additional names, prefixes and suffixes
abbrev pub name_component : List ℕ → Option ℕ
name_component name =
    if bytes_eq name (codes "Last Name") || bytes_eq name (codes "Family Name") then Some 0
    else (if bytes_eq name (codes "First Name") || bytes_eq name (codes "Given Name") then Some 1
    else (if bytes_eq name (codes "Middle Name") || bytes_eq name (codes "Additional Name")
    then Some 2
    else (if bytes_eq name (codes "Name Prefix") || bytes_eq name (codes "Title") then Some 3
    else (if bytes_eq name (codes "Name Suffix") || bytes_eq name (codes "Suffix") then Some 4
    else None))))

-- the name ends with the words
abbrev pub ends : List ℕ → List ℕ → Bool
ends name words = ends_with nat_eq name words

-- The component of ADR: post office box, extended address, street, locality, region, postal code
-- and country. None for the address as a whole.
abbrev pub address_component : List ℕ → Option ℕ
address_component name =
    if ends name (codes "PO Box") then Some 0
    else (if ends name (codes "Extended Address") || ends name (codes "Street 2") then Some 1
    else (if ends name (codes "Street") then Some 2
    else (if ends name (codes "City") then Some 3
    else (if ends name (codes "Country/Region") || ends name (codes "Country") then Some 6
    else (if ends name (codes "Region") || ends name (codes "State") then Some 4
    else (if ends name (codes "Postal Code") then Some 5
    else None))))))

-- the component of ORG: the organization, and its department
abbrev pub organization_component : List ℕ → Option ℕ
organization_component name = if ends name (codes "Department") then Some 1 else Some 0

-- the component of the property that a column of this name has; none of another property
abbrev pub component_of : List ℕ → List ℕ → Option ℕ
component_of property name =
    if bytes_eq property (codes "N") then name_component name
    else (if bytes_eq property (codes "ADR") then address_component name
    else (if bytes_eq property (codes "ORG") then organization_component name
    else None))
