-- The logical lines that begin or end a card or give its version (RFC 6350, sections 6.1.1, 6.1.2
-- and 6.7.9). They are no properties of the card.
use Rattle.std.specs.Prelude.{ℕ, Bool, ◌||◌, List, codes}
use Rattle.import_text.specs.Pieces.{is_word_line}
use Rattle.import_text.specs.RawLines.{begins_with_word}

-- the line begins or ends a card, or gives its version
abbrev pub is_delimiter : List ℕ → Bool
is_delimiter octets = is_word_line (codes "BEGIN:VCARD") octets
    || is_word_line (codes "END:VCARD") octets
    || begins_with_word (codes "VERSION:") octets

-- the line begins a card, also one that is the value of an AGENT
abbrev pub begins_card : List ℕ → Bool
begins_card octets = is_word_line (codes "BEGIN:VCARD") octets
    || is_word_line (codes "AGENT:BEGIN:VCARD") octets
