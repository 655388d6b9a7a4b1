-- Cards that are one piece of a file, whatever comes after them.
use Rattle.std.specs.Prelude.{ℕ, ◌≡◌, Bool, true, not, ◌||◌, List, [], ◌∷◌, ◌++◌, codes}
use Rattle.std.specs.List.{list_all}
use Rattle.base_types.specs.Octets.{line_feed}
use Rattle.import_text.specs.Pieces.{begins_card, ends_and_begins, is_word_line, whole_lines}

-- the line neither begins nor ends a card, and is no AGENT whose card begins after it
abbrev pub is_inner : List ℕ → Bool
is_inner line = not (begins_card line || is_word_line (codes "AGENT:BEGIN:VCARD") line
    || is_word_line (codes "END:VCARD") line || ends_and_begins line
    || is_word_line (codes "AGENT:") line)

-- The octets are a card that has no other card in it: a line that begins it, lines that neither
-- begin nor end one, and a line that ends it, with its line feed.
pub record IsWholeCard (octets : List ℕ) : Type 0 where
  pub begin : List ℕ
  pub body : List (List ℕ)
  pub end : List ℕ
  pub lines : whole_lines octets ≡ begin ∷ body ++ end ∷ []
  pub begins : begins_card begin ≡ true
  pub inner : list_all is_inner body ≡ true
  pub ends : is_word_line (codes "END:VCARD") end ≡ true
  pub front : List ℕ
  pub feed : octets ≡ front ++ line_feed ∷ []
