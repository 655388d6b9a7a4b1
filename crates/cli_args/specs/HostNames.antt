-- The names by which a server may be reached.
use Rattle.std.specs.Prelude.{ℕ, ◌||◌, ◌&&◌, ◌==◌, Bool, List, [], length}
use Rattle.std.specs.Prelude.{find, nat_le, nat_lt, not, unwrap_or}
use Rattle.std.specs.Char.{is_ascii_alphanumeric}
use Rattle.std.specs.List.{list_all}
use Rattle.base_types.specs.Octets.{colon, dot, hyphen, underscore}

-- the brackets around an address of IPv6 (RFC 3986, section 3.2.2)
abbrev pub is_bracket : ℕ → Bool
is_bracket octet = octet == 91 || octet == 93

-- an octet of a character beyond ASCII
abbrev pub is_beyond_ascii : ℕ → Bool
is_beyond_ascii octet = nat_le 128 octet

-- What the name of a host, an address, or one of them with a port, is made of: A-Z, a-z, 0-9, a
-- hyphen, a full stop, an underscore, a colon, brackets, and characters beyond ASCII. So it has no
-- space, no slash and no asterisk.
abbrev pub is_host_octet : ℕ → Bool
is_host_octet octet =
    is_ascii_alphanumeric octet || octet == hyphen || octet == dot || octet == underscore
    || octet == colon || is_bracket octet || is_beyond_ascii octet

-- at least one such octet, and no other
abbrev pub is_host_name : List ℕ → Bool
is_host_name text = nat_lt 0 (length text) && list_all is_host_octet text

-- The first of the texts that isn't such a name. Empty if each is one.
abbrev pub first_wrong : List (List ℕ) → List ℕ
first_wrong texts = unwrap_or (find (λ text. not (is_host_name text)) texts) []
