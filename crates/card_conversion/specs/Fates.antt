-- What becomes of the pieces of a file that is converted.
use Rattle.std.specs.Prelude.{ℕ, ◌≡◌, ◌≤◌, ◌⊎◌, ◌||◌, ◌&&◌, ◌==◌}
use Rattle.std.specs.Prelude.{Bool, true, false, List, [], ◌∷◌, ◌++◌}
use Rattle.std.specs.Prelude.{count_by, length, flat_map, map, codes, drop, nat_lt, not, take_while}
use Rattle.std.specs.List.{Contains, list_all}
use Rattle.import_text.specs.RawLines.{begins_with_word}
use Rattle.base_types.specs.Octets.{carriage_return, line_feed, semicolon, space, tab}
use Rattle.vcard_lines.specs.declared.line.Line.{Line}
use Rattle.vcard_text.specs.Cards.{IsCard, uid_of}
use Rattle.vcard_text.specs.Spelling.{Spells, without_bom}
use Rattle.vcard_import.specs.Conversions.{IsConverted, IsRefused, LeavesOutIfLong}
use Rattle.card_conversion.specs.Moved.{IsMoved, lines_under, own_uid}
use Rattle.vcard_changes.specs.declared.conversion.Conversion.{Conversion}
use Rattle.convert_report.specs.declared.fate.Fate.{Fate}
use Rattle.convert_report.specs.declared.fate.Fate.TheVariants.{Blank, Other, Long, Overfull, Refused}
use Rattle.convert_report.specs.declared.fate.Fate.TheVariants.{Repeated, Crowded, Declined}
use Rattle.convert_report.specs.declared.fate.Fate.TheVariants.{Written, Moved}

-- a space, a tab, a carriage return or a line feed
abbrev pub is_white : ℕ → Bool
is_white octet = octet == space || octet == tab || octet == carriage_return || octet == line_feed

-- white space, perhaps after a byte order mark
abbrev pub is_blank : List ℕ → Bool
is_blank octets = list_all is_white (without_bom octets)

-- the octets before the first line feed
abbrev pub first_line : List ℕ → List ℕ
first_line octets = take_while (λ octet. not (octet == line_feed)) octets

-- the line begins a card, in any case, perhaps with white space after it
abbrev pub begins_card : List ℕ → Bool
begins_card line = begins_with_word (codes "BEGIN:VCARD") line && list_all is_white (drop 11 line)

-- the first line begins a card, perhaps after a byte order mark
abbrev pub is_card : List ℕ → Bool
is_card octets = begins_card (first_line (without_bom octets))

abbrev pub is_semicolon : ℕ → Bool
is_semicolon octet = octet == semicolon

-- more than 65,536 semicolons, each of which may begin a parameter
abbrev pub is_overfull : List ℕ → Bool
is_overfull octets = nat_lt 65536 (count_by is_semicolon octets)

-- A card: the one that the octets spell, with no change; or one that is converted from them. A line
-- is left out only if the card would be too long with it.
pub record IsConversion (octets : List ℕ) (made : Conversion) : Type 0 where
  pub card : IsCard made.card
  pub converted : (Spells octets made.card × (made.changes ≡ []))
      ⊎ IsConverted octets made.card made.changes
  pub left_out : LeavesOutIfLong octets made.changes

-- The octets are converted to another card that has one of the UIDs, and this is that card under a
-- UID of its own.
pub record IsApart (uids : List (List ℕ)) (octets : List ℕ) (made : Conversion) : Type 0 where
  pub first : Conversion
  pub converted : IsConversion octets first
  pub taken : Contains uids (uid_of first.card)
  pub another : Contains uids (own_uid octets first) → ⊥
  pub moved : IsMoved octets first made

-- The fate of a piece after pieces whose cards had these UIDs. The UIDs are also those that cards
-- which were written would have of their own.
abbrev pub IsFate : List (List ℕ) → List ℕ → Fate → Type 0
IsFate uids octets Blank = is_blank octets ≡ true
IsFate uids octets Other = is_card octets ≡ false
IsFate uids octets Long = 8388608 ≤ length octets
IsFate uids octets Overfull = is_overfull octets ≡ true
IsFate uids octets (Refused fault) = IsRefused octets fault
IsFate uids octets (Repeated made) = IsConversion octets made
    × Contains uids (uid_of made.card) × Contains uids (own_uid octets made)
IsFate uids octets (Crowded made) = IsConversion octets made
    × Contains uids (uid_of made.card) × (Contains uids (own_uid octets made) → ⊥)
    × (IsCard (lines_under (own_uid octets made) made.card) → ⊥)
IsFate uids octets (Declined made words) = (IsConversion octets made ⊎ IsApart uids octets made)
    × (Contains uids (uid_of made.card) → ⊥)
IsFate uids octets (Written made) =
    IsConversion octets made × (Contains uids (uid_of made.card) → ⊥)
IsFate uids octets (Moved made) =
    IsApart uids octets made × (Contains uids (uid_of made.card) → ⊥)

-- the UID of a card that was made of the octets and came to the sink, and of one that was written
-- also the one of its own
abbrev pub uids_of_fate : List ℕ → Fate → List (List ℕ)
uids_of_fate octets Blank = []
uids_of_fate octets Other = []
uids_of_fate octets Long = []
uids_of_fate octets Overfull = []
uids_of_fate octets (Refused fault) = []
uids_of_fate octets (Repeated made) = []
uids_of_fate octets (Crowded made) = []
uids_of_fate octets (Declined made words) = uid_of made.card ∷ []
uids_of_fate octets (Written made) = uid_of made.card ∷ own_uid octets made ∷ []
uids_of_fate octets (Moved made) = uid_of made.card ∷ own_uid octets made ∷ []

-- the card that was written
abbrev pub cards_of_fate : Fate → List (List Line)
cards_of_fate Blank = []
cards_of_fate Other = []
cards_of_fate Long = []
cards_of_fate Overfull = []
cards_of_fate (Refused fault) = []
cards_of_fate (Repeated made) = []
cards_of_fate (Crowded made) = []
cards_of_fate (Declined made words) = []
cards_of_fate (Written made) = made.card ∷ []
cards_of_fate (Moved made) = made.card ∷ []

-- ---- all pieces

-- a piece of the file, and what became of it
pub record Entry : Type 0 where
  pub octets : List ℕ
  pub fate : Fate

-- the pieces
abbrev pub pieces_of : List Entry → List (List ℕ)
pieces_of entries = map (λ entry. entry.octets) entries

-- the octets of the pieces
abbrev pub octets_of : List Entry → List ℕ
octets_of entries = flat_map (λ entry. entry.octets) entries

-- the cards that were written, in order
abbrev pub cards_of : List Entry → List (List Line)
cards_of entries = flat_map (λ entry. cards_of_fate entry.fate) entries

-- the UIDs of the cards that came to the sink, and those that cards which were written would have
-- of their own, in order
abbrev pub uids_of : List Entry → List (List ℕ)
uids_of entries = flat_map (λ entry. uids_of_fate entry.octets entry.fate) entries

-- Each piece has its fate after those before it, of which the first come after these UIDs.
abbrev pub HaveFates : List (List ℕ) → List Entry → Type 0
HaveFates uids [] = Unit {0}
HaveFates uids (entry ∷ entries) = IsFate uids entry.octets entry.fate
    × HaveFates (uids ++ uids_of_fate entry.octets entry.fate) entries
