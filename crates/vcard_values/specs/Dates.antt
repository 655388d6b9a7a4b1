-- Dates and timestamps of older versions, and what vCard 4.0 writes for them: the basic form of ISO
-- 8601, without the hyphens and colons between their parts (RFC 6350, section 4.3; RFC 2426,
-- section 3.1.5, which allows both forms). The day is one of the calendar. Of a time only where
-- digits and marks stand counts: it needn't be one of a day.
use Rattle.std.specs.Prelude.{ℕ, Bool, ◌||◌, ◌&&◌, not, nat_eq, List, ◌∷◌, ◌++◌, map, codes}
use Rattle.std.specs.Prelude.{Option, Some, None, if◌then◌else◌}
use Rattle.std.specs.Cmp.Lexicographic.{pointwise}
use Rattle.std.specs.List.{starts_with}
use Rattle.base_types.specs.Octets.{colon, hyphen, is_digit}
use Rattle.import_text.specs.RawLines.{is_encoded_as}
use Rattle.vcard_values.specs.Cuts.{after, before, has_octet}
use Rattle.vcard_values.specs.Days.{real_day}
use Rattle.vcard_values.specs.Forms.{has_clear_form, is_property, names_text, names_uri, says}

-- ---- shapes

-- a 0 for a digit
abbrev pub zeroed : ℕ → ℕ
zeroed octet = if is_digit octet then 48 else octet

-- the octets with a 0 for each digit
abbrev pub shape_of : List ℕ → List ℕ
shape_of octets = map zeroed octets

abbrev pub is_shape : List ℕ → List ℕ → Bool
is_shape shape other = pointwise nat_eq shape other

-- the octets without the first one that is the mark
abbrev pub without_first : ℕ → List ℕ → List ℕ
without_first mark octets = before mark octets ++ after mark octets

-- ---- days

-- the shape of a year, a month and a day, or of a day of any year, in the basic form
abbrev pub is_basic_day : List ℕ → Bool
is_basic_day shape = is_shape shape (codes "00000000") || is_shape shape (codes "--0000")

-- The digits of this shape as a day in the basic form, if they are written as one: without the two
-- hyphens of a date, as 1996-04-15, or the one of a day of any year, as --04-15.
abbrev pub day_with : List ℕ → List ℕ → Option (List ℕ)
day_with shape day =
    if is_basic_day shape then Some day
    else (if is_shape shape (codes "0000-00-00")
    then Some (without_first hyphen (without_first hyphen day))
    else (if is_shape shape (codes "--00-00")
    then Some (codes "--" ++ without_first hyphen (after hyphen (after hyphen day)))
    else None))

-- the day in the basic form, if it is a real one
abbrev pub day_of : List ℕ → Option (List ℕ)
day_of day = real_day (day_with (shape_of day) day)

-- ---- times of day

-- the shape of hours, minutes and seconds, with no zone, the one of UTC or an offset, in the basic
-- form
abbrev pub is_basic_time : List ℕ → Bool
is_basic_time shape = is_shape shape (codes "000000") || is_shape shape (codes "000000Z")
    || is_shape shape (codes "000000+0000") || is_shape shape (codes "000000-0000")

-- the same in the extended form
abbrev pub is_extended_time : List ℕ → Bool
is_extended_time shape = is_shape shape (codes "00:00:00") || is_shape shape (codes "00:00:00Z")
    || is_shape shape (codes "00:00:00+00:00") || is_shape shape (codes "00:00:00-00:00")

-- the time of this shape in the basic form, if it is one: without the two colons between its parts,
-- and the one of its zone, if it has one
abbrev pub time_with : List ℕ → List ℕ → Option (List ℕ)
time_with shape time =
    if is_basic_time shape then Some time
    else (if is_extended_time shape
    then Some (without_first colon (without_first colon (without_first colon time)))
    else None)

abbrev pub time_of : List ℕ → Option (List ℕ)
time_of time = time_with (shape_of time) time

-- ---- dates

-- the T between a day and a time
abbrev pub upper_t : ℕ
upper_t = 84

-- the day and the time with a T between them, if there are both
abbrev pub joined : Option (List ℕ) → Option (List ℕ) → Option (List ℕ)
joined None time = None
joined (Some day) None = None
joined (Some day) (Some time) = Some (day ++ (upper_t ∷ time))

-- The day, or the day and the time, in the basic form; none if it is neither, or its year has only
-- zeros, which says that it has no year.
abbrev pub date_of : List ℕ → Option (List ℕ)
date_of text =
    if starts_with nat_eq text (codes "0000") then None
    else (if has_octet upper_t text
    then joined (day_of (before upper_t text)) (time_of (after upper_t text))
    else day_of text)

-- ---- lines

-- the value of the property is a date, or the time of a change
abbrev pub is_date_property : List ℕ → Bool
is_date_property line = is_property (codes "BDAY") line || is_property (codes "ANNIVERSARY") line
    || is_property (codes "REV") line

-- Only the name says what the value is: no parameter calls it a URI or a text, or names a year that
-- is none, as iOS does.
abbrev pub is_plainly_dated : List ℕ → Bool
is_plainly_dated line = has_clear_form line && not (says names_uri line)
    && not (says names_text line) && not (is_encoded_as (codes "X-APPLE-OMIT-YEAR") line)
