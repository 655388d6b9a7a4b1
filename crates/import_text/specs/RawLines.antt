-- The logical lines of a card that another program exported, as octets. They are joined from
-- physical lines as RFC 2425, section 5.8.1, vCard 2.1 and quoted-printable (RFC 2045, section 6.7)
-- say, and as old telephones fold base64, without white space.
use Rattle.std.specs.Prelude.{ℕ, ◌+◌, ◌-◌, Bool, false, not, ◌&&◌, ◌||◌, ◌==◌, nat_le, List}
use Rattle.std.specs.Prelude.{[], ◌∷◌, ◌++◌, map, drop, take, length, codes, slice_index}
use Rattle.std.specs.Prelude.{if◌then◌else◌, take_while}
use Rattle.std.specs.List.{slice_split, list_any}
use Rattle.std.specs.Str.{str_eq_ignore_ascii_case}
use Rattle.std.specs.Str.Lines.{strip_carriage_return}
use Rattle.base_types.specs.Octets.{tab, line_feed, space, colon, equals}
use Rattle.import_text.specs.declared.raw_line.RawLine.{RawLine}
use Rattle.import_text.specs.declared.lines.Folding.{Folding}
use Rattle.import_text.specs.declared.lines.Folding.TheVariants.{KeepsSpace, DropsSpace}

-- ---- physical lines

-- a physical line without the carriage return at its end, or without two of them, as programs write
-- that make CRLF of each line feed of a text that has CRLF
abbrev pub without_returns : List ℕ → List ℕ
without_returns line = strip_carriage_return (strip_carriage_return line)

-- the octets are cut at each line feed, and up to two carriage returns before it are dropped
abbrev pub physical_lines : List ℕ → List (List ℕ)
physical_lines octets =
    map without_returns (slice_split (λ octet. octet == line_feed) octets)

-- ---- what a line's head says of its encoding

-- the octets begin with the word, in any case
abbrev pub begins_with_word : List ℕ → List ℕ → Bool
begins_with_word word octets = nat_le (length word) (length octets)
    && str_eq_ignore_ascii_case (take (length word) octets) word

-- the word is somewhere in the octets, in any case
unfoldable pub has_word : List ℕ → List ℕ → Bool
has_word word [] = false
has_word word (octet ∷ octets) =
    begins_with_word word (octet ∷ octets) || has_word word octets

-- the head: the octets before the first colon
abbrev pub head : List ℕ → List ℕ
head line = take_while (λ octet. not (octet == colon)) line

abbrev pub has_colon : List ℕ → Bool
has_colon line = list_any (λ octet. octet == colon) line

-- the line's head has the word
abbrev pub is_encoded_as : List ℕ → List ℕ → Bool
is_encoded_as word line = has_word word (head line)

-- ---- joining

-- a quoted-printable line that ends with an equals sign goes on
abbrev pub has_soft_break : List ℕ → Bool
has_soft_break line = slice_index line (length line - 1) == equals
    && is_encoded_as (codes "QUOTED-PRINTABLE") line

-- a physical line that begins with a space or a tab continues the one before it
abbrev pub continues : List ℕ → Bool
continues [] = false
continues (octet ∷ octets) = octet == space || octet == tab

-- a physical line without a colon continues a line of base64
abbrev pub continues_base64 : List ℕ → List ℕ → Bool
continues_base64 line piece =
    not (length piece == 0 || has_colon piece) && is_encoded_as (codes "BASE64") line

-- the physical line belongs to the line so far
abbrev pub is_joined : List ℕ → List ℕ → Bool
is_joined line piece = has_soft_break line || continues piece || continues_base64 line piece

-- a continuation line as it is joined: vCard 2.1 keeps its white space
abbrev pub unfolded : Folding → List ℕ → List ℕ
unfolded KeepsSpace piece = piece
unfolded DropsSpace piece = drop 1 piece

-- the line so far with the physical line; the equals sign of a soft break is dropped
abbrev pub joined : Folding → List ℕ → List ℕ → List ℕ
joined folding line piece =
    if has_soft_break line then take (length line - 1) line ++ piece
    else (if continues piece then line ++ unfolded folding piece
    else line ++ piece)

-- ---- the logical lines

abbrev pub raw_line : ℕ → List ℕ → RawLine
raw_line place octets = record { place = place; octets = octets }

-- the line, unless it is empty
abbrev pub nonempty : RawLine → List RawLine
nonempty line = if length line.octets == 0 then [] else line ∷ []

-- The logical lines that `line` and the physical lines after it make, the first of which is at
-- `place`. A physical line either belongs to the line before it or begins a line of its own.
unfoldable pub lines_from : Folding → RawLine → ℕ → List (List ℕ) → List RawLine
lines_from folding line place [] = nonempty line
lines_from folding line place (piece ∷ pieces) =
    if is_joined line.octets piece
    then lines_from folding (raw_line line.place (joined folding line.octets piece)) (place + 1)
    pieces
    else nonempty line ++ lines_from folding (raw_line place piece) (place + 1) pieces

-- the logical lines of the octets, without the empty ones
abbrev pub raw_lines : Folding → List ℕ → List RawLine
raw_lines folding octets = lines_from folding (raw_line 0 []) 0 (physical_lines octets)
