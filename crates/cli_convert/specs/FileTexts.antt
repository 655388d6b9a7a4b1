-- The text of a file, and what a conversion makes of it.
use Rattle.std.specs.Prelude.{ℕ, ◌≡◌, ◌&&◌, ◌==◌, ◌++◌, Bool, not, nat_le, List, [], ◌∷◌, length}
use Rattle.std.specs.Prelude.{take, codes, slice_index_or, if◌then◌else◌, IsTrue}
use Rattle.std.specs.Prelude.{Option, Some, None, IfSome, option_map, map, ⊤}
use Rattle.import_text.specs.RawLines.{begins_with_word}
use Rattle.import_text.specs.Texts.{text_octets}
use Rattle.vcard_text.specs.Spelling.{without_bom}
use Rattle.csv_cards.specs.Exports.{is_export}
use Rattle.card_conversion.specs.Courses.{Part, of_pieces, of_rows}
use Rattle.card_conversion.specs.Cuts.{AreCutOff}
use Rattle.card_conversion.specs.Fates.{octets_of, pieces_of}
use Rattle.card_conversion.specs.LineEnds.{with_line_feeds}
use Rattle.cli_convert.specs.declared.options.ConvertOptions.{ConvertOptions}

-- ---- the text of a file

-- two characters of ASCII in UTF-16, the less significant octet of each first
abbrev pub shows_little : List ℕ → Bool
shows_little front = nat_le 4 (length front) && not (slice_index_or front 0 0 == 0)
    && slice_index_or front 1 0 == 0 && not (slice_index_or front 2 0 == 0)
    && slice_index_or front 3 0 == 0

-- the same, the more significant octet of each first
abbrev pub shows_big : List ℕ → Bool
shows_big front = nat_le 4 (length front) && slice_index_or front 0 0 == 0
    && not (slice_index_or front 1 0 == 0) && slice_index_or front 2 0 == 0
    && not (slice_index_or front 3 0 == 0)

-- the byte order mark that a file in UTF-16 lacks whose first octets are these (RFC 2781, section
-- 3.2); none for any other file
abbrev pub shown_mark : List ℕ → List ℕ
shown_mark front = if shows_little front then 255 ∷ 254 ∷ []
    else (if shows_big front then 254 ∷ 255 ∷ [] else [])

-- The text of a file whose character set isn't given, in UTF-8 if the file is in UTF-16, and
-- otherwise as it is. Its first 64 octets show whether it lacks a mark.
abbrev pub file_text : List ℕ → List ℕ
file_text octets = text_octets (shown_mark (take 64 octets) ++ octets)

-- the text of a file, if its octets are known and its character set isn't given
abbrev pub known_text : {C : Type 0} → Option C → Option (List ℕ) → Option (List ℕ)
known_text None octets = option_map file_text octets
known_text (Some charset) octets = None

-- the texts of the files after the first; `octets` are those that the file at each path holds
abbrev pub more_texts : (List ℕ → Option (List ℕ)) → ConvertOptions → List (Option (List ℕ))
more_texts octets wanted = map (λ path. known_text wanted.charset (octets path)) wanted.more.now

-- the texts of all files that are converted
abbrev pub texts_of : (List ℕ → Option (List ℕ)) → ConvertOptions → List (Option (List ℕ))
texts_of octets wanted =
    known_text wanted.charset (octets wanted.file.now) ∷ more_texts octets wanted

-- ---- what a text is taken for

-- The beginning of a text that is taken for cards: no rows `uid,vcard`, and `BEGIN:VCARD` in any
-- case, perhaps after a byte order mark.
abbrev pub is_card_head : List ℕ → Bool
is_card_head head =
    not (is_export head) && begins_with_word (codes "BEGIN:VCARD") (without_bom head)

-- a text that is taken for cards, by its first 1,048,576 octets
abbrev pub is_card_text : List ℕ → Bool
is_card_text text = is_card_head (take 1048576 text)

-- ---- what a conversion makes of it

-- The pieces are all octets of a text, each as it is cut off what the ones before it left.
abbrev pub IsWhole : List ℕ → Part → Type 0
IsWhole octets (of_pieces entries) =
    (octets ≡ octets_of entries) × AreCutOff octets (pieces_of entries) []
IsWhole octets (of_rows columns entries) = ⊥

-- A text that is taken for cards was converted whole, perhaps with a line feed for each carriage
-- return. Of any other text nothing is said.
abbrev pub IsPartOf : List ℕ → Part → Type 0
IsPartOf text part =
    IsTrue (is_card_text text) → (returns : Bool) × IsWhole (with_line_feeds returns text) part

-- The files were converted one after another: one part for each text, where it is known.
abbrev pub ArePartsOf : List (Option (List ℕ)) → List Part → Type 0
ArePartsOf [] [] = ⊤
ArePartsOf [] (part ∷ parts) = ⊥
ArePartsOf (text ∷ texts) [] = ⊥
ArePartsOf (text ∷ texts) (part ∷ parts) =
    IfSome text (λ known. IsPartOf known part) × ArePartsOf texts parts
