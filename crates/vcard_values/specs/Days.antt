-- Days that there are in the calendar (RFC 6350, section 4.3.1, which has ISO 8601's): the Gregorian
-- one, for each year.
use Rattle.std.specs.Prelude.{ℕ, Bool, true, not, ◌&&◌, ◌||◌, ◌==◌, nat_eq, nat_le, List, codes}
use Rattle.std.specs.Prelude.{◌+◌, ◌*◌, ◌-◌, ◌%◌, slice_index_or, if◌then◌else◌}
use Rattle.std.specs.Prelude.{Option, Some, None}
use Rattle.std.specs.List.{starts_with}

-- ---- numbers

-- the number that the digit at the place is
abbrev pub digit_at : ℕ → List ℕ → ℕ
digit_at place octets = slice_index_or octets place 48 - 48

-- the number that the digit at the place and the next one are
abbrev pub number_at : ℕ → List ℕ → ℕ
number_at place octets = digit_at place octets * 10 + digit_at (place + 1) octets

-- the number that the first four digits are
abbrev pub year_of : List ℕ → ℕ
year_of octets = number_at 0 octets * 100 + number_at 2 octets

-- ---- the calendar

-- the year has a 29 February
abbrev pub is_leap_year : ℕ → Bool
is_leap_year year = year % 4 == 0 && (not (year % 100 == 0) || year % 400 == 0)

abbrev pub days_of_february : Bool → ℕ
days_of_february is_leap = if is_leap then 29 else 28

-- the days of a month that isn't February, if there is one of this number
abbrev pub days_of_other : ℕ → ℕ
days_of_other month =
    if month == 4 || month == 6 || month == 9 || month == 11 then 30
    else (if nat_le 1 month && nat_le month 12 then 31 else 0)

-- the days of a month of a leap year, or of another year
abbrev pub days_of_month : Bool → ℕ → ℕ
days_of_month is_leap month =
    if month == 2 then days_of_february is_leap else days_of_other month

-- the month of a leap year, or of another year, has that day
abbrev pub has_day : Bool → ℕ → ℕ → Bool
has_day is_leap month day = nat_le 1 day && nat_le day (days_of_month is_leap month)

-- ---- days in the basic form

-- The digits of the month and the day are a real day, if they are those of a day in the basic form.
-- One of any year may be 29 February.
abbrev pub is_real_day : List ℕ → Bool
is_real_day day =
    if starts_with nat_eq day (codes "--") then has_day true (number_at 2 day) (number_at 4 day)
    else has_day (is_leap_year (year_of day)) (number_at 4 day) (number_at 6 day)

-- the day, if it is a real one
abbrev pub real_day : Option (List ℕ) → Option (List ℕ)
real_day None = None
real_day (Some day) = if is_real_day day then Some day else None
