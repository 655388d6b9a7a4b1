-- The line at which a text has its first fault (RFC 6350, section 3.2).
use Rattle.std.specs.Prelude.{ℕ, ◌≡◌, ◌⊎◌, ◌+◌, ◌-◌, ◌<◌, ◌≤◌, ◌==◌, ◌&&◌, Bool, true, not}
use Rattle.std.specs.Prelude.{List, [], ◌∷◌, ◌++◌, drop, get_or, length, nat_lt, take}
use Rattle.std.specs.Prelude.{Option, Some, None}
use Rattle.std.specs.List.{count_by}
use Rattle.base_types.specs.Octets.{colon, line_feed}
use Rattle.vcard_lines.specs.LogicalLines.{continues}
use Rattle.vcard_lines.specs.declared.fault.CardFault.{CardFault}
use Rattle.vcard_lines.specs.declared.fault.CardFault.TheVariants.{BadChar, TooLong}
use Rattle.vcard_text.specs.CardOfText.{first_fault_of_text}

-- ---- where lines start

-- A line that doesn't continue the one before it starts at this place, which is after a line feed.
abbrev pub starts_line : List ℕ → ℕ → Bool
starts_line text place = nat_lt 0 place && get_or text (place - 1) 0 == line_feed
    && not (continues (drop place text))

-- no line starts between these places
abbrev pub NoneStartsBetween : List ℕ → ℕ → ℕ → Type 0
NoneStartsBetween text from upto =
    (place : ℕ) → from < place → place < upto → starts_line text place ≡ true → ⊥

-- the number of line feeds
abbrev pub line_feed_count : List ℕ → ℕ
line_feed_count octets = count_by (λ octet. octet == line_feed) octets

-- ---- the fault of the beginning of a text

-- A line that has another fault than this one: a control character, or a line without a name. A
-- text that is broken off by it lacks nothing, since what comes later isn't looked at.
abbrev pub breaking_line : CardFault → List ℕ
breaking_line BadChar = line_feed ∷ colon ∷ []
breaking_line fault = line_feed ∷ 1 ∷ []

-- the octets have the fault, even if the text is broken off after them
abbrev pub has_fault : CardFault → List ℕ → Type 0
has_fault fault octets = first_fault_of_text (octets ++ breaking_line fault) ≡ Some fault

-- ---- the faulty line

-- The text has the fault with the lines up to `end`, and doesn't have it with those up to `start`.
pub record GetsFault (text : List ℕ) (fault : CardFault) (start end : ℕ) : Type 0 where
  pub starts : (start ≡ 0) ⊎ (starts_line text start ≡ true)
  pub ends : (end ≡ length text) ⊎ (starts_line text end ≡ true)
  pub order : start ≤ end
  pub within : end ≤ length text
  pub faultless : (start ≡ 0) ⊎ (has_fault fault (take start text) → ⊥)
  pub faulty : has_fault fault (take end text)

-- The text gets the fault with the line of this number, which lasts to the next line that doesn't
-- continue it. Lines count from 1.
pub record IsFaultyLine (text : List ℕ) (fault : CardFault) (number : ℕ) : Type 0 where
  pub start : ℕ
  pub end : ℕ
  pub gets : GetsFault text fault start end
  pub one_line : NoneStartsBetween text start end
  pub number_is : number ≡ line_feed_count (take start text) + 1

-- the faulty line, or none if the fault isn't one of a line
abbrev pub IsLineOfFault : List ℕ → CardFault → Option ℕ → Type 0
IsLineOfFault text fault (Some number) = IsFaultyLine text fault number
IsLineOfFault text fault None = (fault ≡ TooLong) ⊎ (has_fault fault text → ⊥)
