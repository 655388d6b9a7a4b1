-- The state of the loops that write and count a folded line character by character. It defines no
-- rule of its own.
use Rattle.std.specs.Prelude.{ℕ, ◌≡◌, ◌≤◌, ◌-◌, nat_lt, min, length, List, [], ◌∷◌, ◌++◌, fold}
use Rattle.std.specs.Prelude.{if◌then◌else◌, encode_utf8}
use Rattle.std.specs.Char.{len_utf8}
use Rattle.std.specs.Str.{chars, IsUtf8}
use Rattle.base_types.specs.Octets.{carriage_return, line_feed, space}
use Rattle.vcard_lines.specs.declared.bounds.TheConstants.{COUNT_MAX}
use Rattle.vcard_lines.specs.declared.folded_count.FoldedCount.{FoldedCount}

-- the octets written so far, and how many still fit into the physical line
pub record FoldState : Type 0 where
  pub octets : List ℕ
  pub room : ℕ

abbrev pub fold_state : List ℕ → ℕ → FoldState
fold_state octets room = record { octets = octets; room = room }

-- a character is appended to the physical line, or to a new continuation line
abbrev pub fold_char : FoldState → ℕ → FoldState
fold_char part c =
    if nat_lt part.room (len_utf8 c)
    then fold_state (part.octets ++ carriage_return ∷ line_feed ∷ space ∷ encode_utf8 c)
    (74 - len_utf8 c)
    else fold_state (part.octets ++ encode_utf8 c) (part.room - len_utf8 c)

-- a logical line folded from its beginning, without the last line end
abbrev pub fold_line : List ℕ → FoldState
fold_line line = fold fold_char (fold_state [] 75) (chars line)

-- these octets, followed by the rest of a logical line, folded and ended; `room` is the number of
-- octets that still fit into the physical line
abbrev pub append_folded : List ℕ → ℕ → List ℕ → List ℕ
append_folded octets room rest =
    (fold fold_char (fold_state octets room) (chars rest)).octets
    ++ carriage_return ∷ line_feed ∷ []

-- The count has the number of octets folded, saturating at `COUNT_MAX`, and the room left.
pub record IsCount (count : FoldedCount) (part : FoldState) : Type 0 where
  pub octets_are : count.octets ≡ min COUNT_MAX (length part.octets)
  pub room_is : count.room ≡ part.room
  pub room_fits : count.room ≤ 75

-- the count advances by the characters of a text, whatever was folded before
abbrev pub CountsChars : FoldedCount → FoldedCount → List ℕ → Type 0
CountsChars old new text =
    (part : FoldState) → IsCount old part → IsCount new (fold fold_char part (chars text))

-- the count is that of the text, folded as a logical line without the last line end
pub record IsLineCount (count : FoldedCount) (text : List ℕ) : Type 0 where
  pub utf8 : IsUtf8 text
  pub counted : IsCount count (fold_line text)

-- the count advances by a text, whatever the logical line has before it
abbrev pub CountsLineText : FoldedCount → FoldedCount → List ℕ → Type 0
CountsLineText old new text =
    (before : List ℕ) → IsLineCount old before → IsLineCount new (before ++ text)
