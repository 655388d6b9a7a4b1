-- How the lines of a card are folded. vCard 2.1, section 2.1.3, folds a line where its value has
-- white space, and the value keeps it. vCard 3.0 and 4.0 cut a line anywhere and put a space before
-- the rest (RFC 2425, section 5.8.1; RFC 6350, section 3.2). Qt and telephones do so in vCard 2.1
-- too. The sign is the width: such a card cuts each line of text where it has 75 or 76 octets or
-- characters, or as many as whole characters allow. Lines of base64 and of quoted-printable tell
-- nothing: each program has a width of its own for them, as Android and Outlook 72 octets, and white
-- space means nothing in the one and needs no fold in the other.
use Rattle.std.specs.Prelude.{ℕ, ◌+◌, ◌-◌, ◌==◌, ◌&&◌, ◌||◌, Bool, true, false, not, nat_le}
use Rattle.std.specs.Prelude.{nat_lt, List, [], ◌∷◌, codes, count_by, drop, map, if◌then◌else◌}
use Rattle.std.specs.List.{list_all, slice_split}
use Rattle.base_types.specs.Octets.{carriage_return, line_feed}
use Rattle.import_text.specs.RawLines.{continues, is_encoded_as, raw_lines}
use Rattle.import_text.specs.declared.lines.Folding.{Folding}
use Rattle.import_text.specs.declared.lines.Folding.TheVariants.{KeepsSpace, DropsSpace}
use Rattle.import_text.specs.declared.raw_line.RawLine.{RawLine}
use Rattle.vcard_values.specs.declared.version.Version.{Version}
use Rattle.vcard_values.specs.declared.version.Version.TheVariants.{Old, Third, Fourth}
use Rattle.vcard_import.specs.Versions.{version_of}
use Rattle.vcard_import.specs.declared.folds.Cut.{Cut}
use Rattle.vcard_import.specs.declared.folds.PhysicalLine.{PhysicalLine}

-- ---- physical lines

-- the octet is the first one of a character in UTF-8
abbrev pub begins_character : ℕ → Bool
begins_character octet = nat_lt octet 128 || nat_le 192 octet

-- how many octets the character has that begins with this one
abbrev pub octets_from : ℕ → ℕ
octets_from octet = if nat_lt octet 192 then 1
    else (if nat_lt octet 224 then 2 else (if nat_lt octet 240 then 3 else 4))

-- how many octets the first character has; 1 if there is none
abbrev pub first_octets : List ℕ → ℕ
first_octets [] = 1
first_octets (octet ∷ octets) = octets_from octet

-- What a physical line tells: whether it continues the one before it, how many octets and how many
-- characters it has, and how many octets the first character after its white space has. No carriage
-- return counts.
abbrev pub physical_line : List ℕ → PhysicalLine
physical_line octets = record {
  continues = continues octets;
  octets = count_by (λ octet. not (octet == carriage_return)) octets;
  characters = count_by
      (λ octet. not (octet == carriage_return) && begins_character octet) octets;
  first = first_octets (drop 1 octets);
}

-- the physical lines of the octets
abbrev pub physical_lines : List ℕ → List PhysicalLine
physical_lines octets =
    map physical_line (slice_split (λ octet. octet == line_feed) octets)

-- the first of the physical lines continues the one before them
abbrev pub go_on : List PhysicalLine → Bool
go_on [] = false
go_on (line ∷ lines) = line.continues

-- ---- cutting at a width

-- The white space before a continuation line that doesn't count.
abbrev pub uncounted : Cut → PhysicalLine → ℕ
uncounted cut line = if line.continues && not cut.counts_blank then 1 else 0

-- the width of the physical line, by octets or by characters
abbrev pub width_of : Cut → PhysicalLine → ℕ
width_of cut line =
    (if cut.by_characters then line.characters else line.octets) - uncounted cut line

-- the width of the first character of the first of the physical lines
abbrev pub first_width : Cut → List PhysicalLine → ℕ
first_width cut [] = 1
first_width cut (line ∷ lines) = if cut.by_characters then 1 else line.first

-- the physical line isn't wider than the width, and would be with the next character
abbrev pub is_filled : Cut → PhysicalLine → List PhysicalLine → Bool
is_filled cut line next = nat_le (width_of cut line) cut.width
    && nat_lt cut.width (width_of cut line + first_width cut next)

-- of the logical line that begins with the first of the physical lines, each that the next one
-- continues is filled
unfoldable pub is_cut : Cut → List PhysicalLine → Bool
is_cut cut [] = true
is_cut cut (line ∷ lines) =
    if go_on lines then is_filled cut line lines && is_cut cut lines else true

-- the head of the logical line says that its value is encoded
abbrev pub is_encoded : RawLine → Bool
is_encoded raw = is_encoded_as (codes "BASE64") raw.octets
    || (is_encoded_as (codes "ENCODING=B") raw.octets
    || is_encoded_as (codes "QUOTED-PRINTABLE") raw.octets)

-- the logical line of these physical lines is encoded, or it is folded only where it is filled
abbrev pub is_encoded_or_cut : Cut → List PhysicalLine → RawLine → Bool
is_encoded_or_cut cut lines raw = is_encoded raw || is_cut cut (drop raw.place lines)

-- each logical line of text is folded only where it is filled
abbrev pub are_cut_so : Cut → List PhysicalLine → List RawLine → Bool
are_cut_so cut lines raws = list_all (is_encoded_or_cut cut lines) raws

abbrev pub cut_at : ℕ → Bool → Bool → Cut
cut_at width by_characters counts_blank = record {
  width = width;
  by_characters = by_characters;
  counts_blank = counts_blank;
}

-- the lines are cut at this width, by octets or by characters, of which the white space before each
-- continuation line is one or none
abbrev pub are_cut_at : ℕ → List PhysicalLine → List RawLine → Bool
are_cut_at width lines raws = are_cut_so (cut_at width false true) lines raws
    || are_cut_so (cut_at width false false) lines raws
    || are_cut_so (cut_at width true true) lines raws
    || are_cut_so (cut_at width true false) lines raws

-- The lines are cut at 75 or at 76. Which physical lines a logical line has doesn't depend on what
-- becomes of the white space before them.
abbrev pub are_cut : List ℕ → Bool
are_cut octets = are_cut_at 75 (physical_lines octets) (raw_lines DropsSpace octets)
    || are_cut_at 76 (physical_lines octets) (raw_lines DropsSpace octets)

-- vCard 2.1 keeps the white space of continuation lines, unless they were cut at a width
abbrev pub folding_by : Version → Bool → Folding
folding_by Old cut = if cut then DropsSpace else KeepsSpace
folding_by Third cut = DropsSpace
folding_by Fourth cut = DropsSpace

-- how the lines of a card with these octets are folded
abbrev pub folding_of : List ℕ → Folding
folding_of octets = folding_by (version_of octets) (are_cut octets)
