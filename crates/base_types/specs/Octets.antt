-- Names for ASCII octets and classes of octets (RFC 20; RFC 5234, appendix B.1, calls the classes
-- ALPHA and DIGIT).
--
-- Each is an `abbrev`, so the prover sees the number: `octet == colon` is `octet == 58`, which is
-- what `*octet == b':'` tests in a body, and `is_digit octet` is what
-- `matches!(octet, b'0'..=b'9')` tests. A proof that writes the number matches the name as well.
use Rattle.std.specs.Prelude.{ℕ, Bool, ◌&&◌, ◌||◌, ◌==◌, nat_le, nat_lt}

-- ---- white space and line ends

abbrev pub tab : ℕ
tab = 9

abbrev pub line_feed : ℕ
line_feed = 10

abbrev pub carriage_return : ℕ
carriage_return = 13

abbrev pub space : ℕ
space = 32

-- ---- punctuation

-- the double quote
abbrev pub quote : ℕ
quote = 34

abbrev pub comma : ℕ
comma = 44

abbrev pub hyphen : ℕ
hyphen = 45

abbrev pub dot : ℕ
dot = 46

abbrev pub slash : ℕ
slash = 47

abbrev pub colon : ℕ
colon = 58

abbrev pub semicolon : ℕ
semicolon = 59

abbrev pub equals : ℕ
equals = 61

abbrev pub backslash : ℕ
backslash = 92

abbrev pub underscore : ℕ
underscore = 95

-- ---- the letters that encode a newline after a backslash (RFC 6350, section 3.4)

abbrev pub upper_n : ℕ
upper_n = 78

abbrev pub lower_n : ℕ
lower_n = 110

-- ---- classes

-- A to Z
abbrev pub is_upper : ℕ → Bool
is_upper octet = nat_le 65 octet && nat_le octet 90

-- a to z
abbrev pub is_lower : ℕ → Bool
is_lower octet = nat_le 97 octet && nat_le octet 122

-- A to Z and a to z
abbrev pub is_letter : ℕ → Bool
is_letter octet = is_upper octet || is_lower octet

-- 0 to 9
abbrev pub is_digit : ℕ → Bool
is_digit octet = nat_le 48 octet && nat_le octet 57

-- the control characters: all below the space, and DEL
abbrev pub is_control : ℕ → Bool
is_control octet = nat_lt octet space || octet == 127
