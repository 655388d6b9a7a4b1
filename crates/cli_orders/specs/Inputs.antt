-- How much is read from standard input.
use Rattle.std.specs.Prelude.{ℕ, ◌+◌}
use Rattle.vcard_text.specs.Bounds.{text_octets_max}

-- the most octets that are read: one more than a text may have, so that a text that is too long is
-- recognized
abbrev pub read_octets_max : ℕ
read_octets_max = text_octets_max + 1
