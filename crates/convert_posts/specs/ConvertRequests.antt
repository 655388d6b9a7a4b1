-- Requests for a conversion: their path, and what they ask for.
use Rattle.std.specs.Prelude.{ℕ, Bool, true, false, ◌==◌, List, [], ◌∷◌, Option, Some, None}
use Rattle.std.specs.Prelude.{Result, Ok, Err, bytes_eq, codes, unwrap_or, if◌then◌else◌}
use Rattle.contact_columns.specs.declared.dates.DateOrder.{DateOrder}
use Rattle.contact_columns.specs.declared.dates.DateOrder.TheVariants.{DayFirst, MonthFirst}
use Rattle.convert_posts.specs.declared.asked.Asked.{Asked}
use Rattle.http_routes.specs.Commands.{◌>>=◌, check_or_fault, path_in}
use Rattle.http_routes.specs.Queries.{Pair, has_only_names, optional_number, query_value}
use Rattle.http_routes.specs.declared.fault.RouteFault.{RouteFault}
use Rattle.http_routes.specs.declared.fault.RouteFault.TheVariants.{BadQuery}

-- the target's path, up to the first question mark, is /convert
abbrev pub is_for_convert : List ℕ → Bool
is_for_convert target = bytes_eq (path_in target) (codes "/convert")

-- the names that a query may have, each at most once
abbrev pub query_names : List (List ℕ)
query_names =
    codes "card" ∷ codes "columns" ∷ codes "dates" ∷ codes "line" ∷ codes "more" ∷ []

-- 1, or nothing
abbrev pub flag_of : Option (List ℕ) → Result Bool RouteFault
flag_of None = Ok false
flag_of (Some text) = if bytes_eq text (codes "1") then Ok true else Err BadQuery

-- a number from 1 on; 1 if it isn't said
abbrev pub place_of : Option ℕ → Result ℕ RouteFault
place_of None = Ok 1
place_of (Some number) = if number == 0 then Err BadQuery else Ok number

-- whether the day or the month comes first in dates, if it is said
abbrev pub dates_of : Option (List ℕ) → Result (Option DateOrder) RouteFault
dates_of None = Ok None
dates_of (Some text) =
    if bytes_eq text (codes "day") then Ok (Some DayFirst)
    else (if bytes_eq text (codes "month") then Ok (Some MonthFirst) else Err BadQuery)

-- the number of the name, from 1 on; 1 if it isn't there
abbrev pub place_in : List ℕ → List Pair → Result ℕ RouteFault
place_in name pairs = optional_number (query_value name pairs) >>= place_of

-- what the values of a query ask for
abbrev pub asked_of : List Pair → Result Asked RouteFault
asked_of pairs =
    flag_of (query_value (codes "more") pairs) >>= λ more.
    dates_of (query_value (codes "dates") pairs) >>= λ dates.
    place_in (codes "card") pairs >>= λ card.
    place_in (codes "line") pairs >>= λ line.
    Ok (record {
      more = more;
      card = card;
      line = line;
      columns = unwrap_or (query_value (codes "columns") pairs) [];
      dates = dates;
    })

-- what the names and values of a query ask for
abbrev pub asked_in : List Pair → Result Asked RouteFault
asked_in pairs =
    check_or_fault (has_only_names query_names pairs) BadQuery >>= λ _. asked_of pairs
