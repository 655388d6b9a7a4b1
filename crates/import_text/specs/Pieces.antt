-- The pieces of a file: its cards, and what is between them. A card goes from its BEGIN:VCARD to its
-- END:VCARD (RFC 6350, sections 6.1.1 and 6.1.2), with the cards that its AGENT lines have (RFC 2426,
-- section 3.5.4). The rest is this project's own.
use Rattle.std.specs.Prelude.{ℕ, suc, ◌+◌, ◌-◌, Bool, true, false, not, ◌&&◌, ◌||◌, ◌==◌}
use Rattle.std.specs.Prelude.{List, [], ◌∷◌, Option, None, Some, option_map}
use Rattle.std.specs.Prelude.{take, drop, take_while, length, codes, if◌then◌else◌}
use Rattle.std.specs.List.{list_all}
use Rattle.base_types.specs.Octets.{tab, line_feed, carriage_return, space}
use Rattle.import_text.specs.RawLines.{begins_with_word}
use Rattle.import_text.specs.declared.pieces.Nesting.{Nesting}
use Rattle.import_text.specs.declared.pieces.Step.{Step}
use Rattle.import_text.specs.declared.pieces.Step.TheVariants.{Ends, GoesOn}

-- ---- physical lines

-- the octet before the first line, if it doesn't end a line by itself
abbrev pub put_octet : ℕ → List (List ℕ) → List (List ℕ)
put_octet octet [] = (octet ∷ []) ∷ []
put_octet octet (line ∷ lines) =
    if octet == line_feed then (octet ∷ []) ∷ line ∷ lines else (octet ∷ line) ∷ lines

-- the physical lines, each with its line feed
unfoldable pub whole_lines : List ℕ → List (List ℕ)
whole_lines [] = []
whole_lines (octet ∷ octets) = put_octet octet (whole_lines octets)

-- a space, a tab, a carriage return or a line feed
abbrev pub is_white : ℕ → Bool
is_white octet = octet == space || octet == tab || octet == carriage_return || octet == line_feed

-- the octets are the word, in any case, and then only white space
abbrev pub is_word_line : List ℕ → List ℕ → Bool
is_word_line word octets =
    begins_with_word word octets && list_all is_white (drop (length word) octets)

-- the octets without a byte order mark of UTF-8
abbrev pub without_mark : List ℕ → List ℕ
without_mark octets = if begins_with_word (239 ∷ 187 ∷ 191 ∷ []) octets then drop 3 octets else octets

-- the line begins a card, perhaps after a byte order mark
abbrev pub begins_card : List ℕ → Bool
begins_card line = is_word_line (codes "BEGIN:VCARD") (without_mark line)

-- the octets after END:VCARD and the white space after it
abbrev pub after_end : List ℕ → List ℕ
after_end line = drop (length (take_while is_white (drop 9 line))) (drop 9 line)

-- The line ends a card and begins the next one, as where two files were joined of which the first
-- has no line feed at its end.
abbrev pub ends_and_begins : List ℕ → Bool
ends_and_begins line =
    begins_with_word (codes "END:VCARD") line && begins_card (after_end line)

-- ---- pieces

-- at the beginning of a piece
abbrev pub outside : Nesting
outside = record { depth = 0; may_begin = true }

-- within one more card
abbrev pub deeper : Nesting → Nesting
deeper nesting = record { depth = nesting.depth + 1; may_begin = false }

-- within one card less
abbrev pub shallower : Nesting → Nesting
shallower nesting = record { depth = nesting.depth - 1; may_begin = false }

-- A card that begins after the line belongs to the one around it: the line is AGENT:, perhaps with
-- blank lines after it.
abbrev pub is_before_agent : Nesting → List ℕ → Bool
is_before_agent nesting line = not (nesting.depth == 0)
    && (is_word_line (codes "AGENT:") line || (nesting.may_begin && list_all is_white line))

-- after a line that neither begins nor ends a card
abbrev pub after_other : Nesting → List ℕ → Nesting
after_other nesting line =
    record { depth = nesting.depth; may_begin = is_before_agent nesting line }

-- what the line does to the piece in which it is
abbrev pub next_step : Nesting → List ℕ → Step
next_step nesting line =
    if begins_card line then (if nesting.may_begin then GoesOn (deeper nesting) else Ends 0)
    else (if is_word_line (codes "AGENT:BEGIN:VCARD") line then GoesOn (deeper nesting)
    else (if is_word_line (codes "END:VCARD") line
    then (if nesting.depth == 1 then Ends (length line) else GoesOn (shallower nesting))
    else (if ends_and_begins line then Ends (length line - length (after_end line))
    else GoesOn (after_other nesting line))))

-- the number of octets of a piece to which the line does this, as far as they are in this line and
-- in those after it, of which `rest` gives the number
abbrev pub octets_after : Step → List ℕ → (Nesting → ℕ) → ℕ
octets_after (Ends count) line rest = count
octets_after (GoesOn nesting) line rest = length line + rest nesting

-- a carriage return, or a NUL as damaged files have
abbrev pub may_end_line : ℕ → Bool
may_end_line octet = octet == carriage_return || octet == 0

-- the number of octets before the first BEGIN:VCARD, in any case, that comes after one of these
unfoldable pub begin_inside : List ℕ → Option ℕ
begin_inside [] = None
begin_inside (octet ∷ octets) =
    if may_end_line octet && begins_with_word (codes "BEGIN:VCARD") octets then Some 1
    else option_map suc (begin_inside octets)

-- the piece ends before this place in the line, if there is one
abbrev pub ends_inside : Option ℕ → Step → Step
ends_inside None step = step
ends_inside (Some count) step = Ends count

-- what the line does to the piece, which may end inside a line or not
abbrev pub step_in : Bool → Nesting → List ℕ → Step
step_in false nesting line = next_step nesting line
step_in true nesting line = ends_inside (begin_inside line) (next_step nesting line)

-- the number of octets that these lines add to a piece, which may end inside a line or not
unfoldable pub piece_len : Bool → Nesting → List (List ℕ) → ℕ
piece_len inside nesting [] = 0
piece_len inside nesting (line ∷ lines) =
    octets_after (step_in inside nesting line) line (λ next. piece_len inside next lines)

-- the octets of the first piece
abbrev pub first_piece : List ℕ → List ℕ
first_piece octets = take (piece_len false outside (whole_lines octets)) octets

-- the octets before the first line feed
abbrev pub first_line : List ℕ → List ℕ
first_line octets = take_while (λ octet. not (octet == line_feed)) octets

-- The octets begin with a card: their first line is BEGIN:VCARD, in any case, perhaps after a byte
-- order mark and before white space.
abbrev pub is_card : List ℕ → Bool
is_card octets = begins_with_word (codes "BEGIN:VCARD") (without_mark octets)
    && list_all is_white (first_line (drop 11 (without_mark octets)))

-- The octets of the first piece of a text whose line ends may be mixed. If the piece is no card, it
-- also ends inside a line, where a BEGIN:VCARD follows a carriage return or a NUL.
abbrev pub first_text : List ℕ → List ℕ
first_text octets = take (piece_len (not (is_card octets)) outside (whole_lines octets)) octets
