-- The size limits of this profile, which the constants of the code must equal.
use Rattle.std.specs.Prelude.{ℕ}

-- the most octets of an input text, and of a canonical text
abbrev pub text_octets_max : ℕ
text_octets_max = 262144

-- the most octets of a UID
abbrev pub uid_octets_max : ℕ
uid_octets_max = 255
