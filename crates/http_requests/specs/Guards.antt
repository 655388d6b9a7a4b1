-- Which requests a guard refuses by their heads, so that no page of another site uses a server that
-- browsers reach (RFC 9110, sections 7.2 and 13.1; RFC 6454, section 7; Fetch Metadata).
use Rattle.std.specs.Prelude.{ℕ, Bool, true, not, ◌&&◌, ◌||◌, List, [], ◌∷◌}
use Rattle.std.specs.Prelude.{Option, Some, None, codes, length, take, drop, nat_le, nat_lt, nat_eq}
use Rattle.std.specs.Prelude.{if◌then◌else◌}
use Rattle.std.specs.Char.{is_ascii_digit}
use Rattle.std.specs.Cmp.Lexicographic.{pointwise}
use Rattle.std.specs.List.{list_all, list_any}
use Rattle.base_types.specs.Octets.{colon}
use Rattle.http_requests.specs.Fields.{equals_ignoring_case, field_is_named, first_field_named}
use Rattle.http_requests.specs.declared.head_fault.HeadFault.{HeadFault}
use Rattle.http_requests.specs.declared.head_fault.HeadFault.TheVariants.{ForeignHost, ForeignSite}
use Rattle.http_requests.specs.declared.head_fault.HeadFault.TheVariants.{Precondition}

-- a field: its name and its value
abbrev pub Field : Type 0
Field = List ℕ × List ℕ

-- the text begins with the other one, in any case
abbrev pub starts_ignoring_case : List ℕ → List ℕ → Bool
starts_ignoring_case start text =
    nat_le (length start) (length text) && equals_ignoring_case (take (length start) text) start

-- ---- the host that a request names

-- nothing, or a colon and the digits of a port
abbrev pub is_port : List ℕ → Bool
is_port [] = true
is_port (octet ∷ digits) = nat_eq octet colon && list_all is_ascii_digit digits

-- the value of Host is this name, in any case, with or without a port; an empty name is no name
abbrev pub names_host : List ℕ → List ℕ → Bool
names_host value name =
    nat_lt 0 (length name) && starts_ignoring_case name value && is_port (drop (length name) value)

-- the value of Host names this server: by a name of the loopback, or by one of these
abbrev pub is_own_host : List (List ℕ) → List ℕ → Bool
is_own_host names value =
    names_host value (codes "127.0.0.1") || names_host value (codes "localhost")
    || names_host value (codes "[::1]") || list_any (names_host value) names

-- the field is a Host that doesn't name this server
abbrev pub is_foreign_host : List (List ℕ) → Field → Bool
is_foreign_host names field =
    field_is_named (codes "host") field && not (is_own_host names field.1)

-- ---- the site whose page sends a request

-- the method may change a book
abbrev pub writes : List ℕ → Bool
writes method =
    pointwise nat_eq method (codes "POST") || pointwise nat_eq method (codes "PUT")
    || pointwise nat_eq method (codes "DELETE")

-- the value of Origin is this scheme and the host, in any case
abbrev pub is_origin_of : List ℕ → List ℕ → List ℕ → Bool
is_origin_of host scheme value =
    starts_ignoring_case scheme value && equals_ignoring_case (drop (length scheme) value) host

-- the value of Origin names this host and port; so `null` doesn't
abbrev pub is_own_origin : List ℕ → List ℕ → Bool
is_own_origin host value =
    is_origin_of host (codes "http://") value || is_origin_of host (codes "https://") value

-- the field is a Sec-Fetch-Site with another value than `same-origin`
abbrev pub is_foreign_fetch : Field → Bool
is_foreign_fetch field =
    field_is_named (codes "sec-fetch-site") field
    && not (pointwise nat_eq field.1 (codes "same-origin"))

-- the field is an Origin that names another host or port
abbrev pub is_foreign_origin : List ℕ → Field → Bool
is_foreign_origin host field =
    field_is_named (codes "origin") field && not (is_own_origin host field.1)

-- the field says that a page of another site sends the request to this host
abbrev pub is_foreign_site : List ℕ → Field → Bool
is_foreign_site host field = is_foreign_fetch field || is_foreign_origin host field

-- ---- preconditions

-- the field is a precondition
abbrev pub is_precondition : Field → Bool
is_precondition field =
    field_is_named (codes "if-match") field || field_is_named (codes "if-none-match") field
    || field_is_named (codes "if-modified-since") field
    || field_is_named (codes "if-unmodified-since") field
    || field_is_named (codes "if-range") field

-- ---- the guard

-- why a request is refused that names this server; only one that may change a book is
abbrev pub guard_writes : List ℕ → List ℕ → List Field → Option HeadFault
guard_writes host method fields =
    if not (writes method) then None
    else (if list_any (is_foreign_site host) fields then Some ForeignSite
    else (if list_any is_precondition fields then Some Precondition else None))

-- the same, by the first Host field
abbrev pub guard_host : List (List ℕ) → List ℕ → List Field → Option Field → Option HeadFault
guard_host names method fields None = Some ForeignHost
guard_host names method fields (Some host) =
    if list_any (is_foreign_host names) fields then Some ForeignHost
    else guard_writes host.1 method fields

-- Why a server with these names refuses a request with this method and these fields, or None if it
-- doesn't. A request without a Host names no server, and each Host of one with several is looked at.
abbrev pub guard : List (List ℕ) → List ℕ → List Field → Option HeadFault
guard names method fields =
    guard_host names method fields (first_field_named (codes "host") fields)
