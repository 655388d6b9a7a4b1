-- Where the lines of a card stop: before its END:VCARD (RFC 6350, section 6.1.2). A line of
-- quoted-printable before it that ends with an equals sign doesn't go on in it.
use Rattle.std.specs.Prelude.{ℕ, Bool, ◌+◌, ◌==◌, ◌&&◌, List, [], ◌∷◌, take, codes, if◌then◌else◌}
use Rattle.base_types.specs.Octets.{line_feed}
use Rattle.import_text.specs.Pieces.{is_word_line}

-- the octet is a line feed, and after it there is only END:VCARD and white space
abbrev pub is_before_end : ℕ → List ℕ → Bool
is_before_end octet rest = octet == line_feed && is_word_line (codes "END:VCARD") rest

-- the number of octets up to the line feed after which there is only END:VCARD, in any case, and
-- white space; that of all octets if there is none
unfoldable pub len_without_end : List ℕ → ℕ
len_without_end [] = 0
len_without_end (octet ∷ octets) =
    if is_before_end octet octets then 1 else len_without_end octets + 1

-- the octets without their last line, if that ends the card
abbrev pub without_end : List ℕ → List ℕ
without_end octets = take (len_without_end octets) octets
