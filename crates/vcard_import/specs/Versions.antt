-- Which version of vCard a card says it has (RFC 2426, section 3.6.9; RFC 6350, section 6.7.9).
use Rattle.std.specs.Prelude.{ℕ, ◌==◌, List, codes, find, slice_index_or, Option}
use Rattle.std.specs.Prelude.{Some, None, if◌then◌else◌}
use Rattle.std.specs.List.{slice_split}
use Rattle.base_types.specs.Octets.{line_feed}
use Rattle.import_text.specs.RawLines.{begins_with_word}
use Rattle.vcard_values.specs.declared.version.Version.{Version}
use Rattle.vcard_values.specs.declared.version.Version.TheVariants.{Old, Third, Fourth}

-- the first physical line that begins with VERSION:, in any case
abbrev pub version_line : List ℕ → Option (List ℕ)
version_line octets =
    find (begins_with_word (codes "VERSION:")) (slice_split (λ octet. octet == line_feed) octets)

-- the version by the octet after VERSION:, 2 or 4 or any other
abbrev pub version_by : ℕ → Version
version_by octet = if octet == 50 then Old else (if octet == 52 then Fourth else Third)

-- the version that the line gives; vCard 3.0 if there is none
abbrev pub version_of_line : Option (List ℕ) → Version
version_of_line None = Third
version_of_line (Some line) = version_by (slice_index_or line 8 0)

abbrev pub version_of : List ℕ → Version
version_of octets = version_of_line (version_line octets)
