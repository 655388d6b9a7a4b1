-- The names and values of a query (URL Standard, section 5: application/x-www-form-urlencoded).
-- Which of them are valid is this project's own.
use Rattle.std.specs.Prelude.{ℕ, Bool, ◌&&◌, List, [], ◌∷◌, ◌++◌, Option, Some, None, Result, Ok}
use Rattle.std.specs.Prelude.{Err, bytes_eq, count_by, codes, length, map, nat_eq, nat_le, nat_lt}
use Rattle.std.specs.Prelude.{if◌then◌else◌}
use Rattle.std.specs.List.{list_all, list_any}
use Rattle.std.specs.Char.{is_ascii_digit}
use Rattle.std.specs.Str.Lossy.{utf8_lossy}
use Rattle.std.specs.Str.Parse.{digits_value}
use Rattle.form_urlencoded.specs.Form.{decode, raw_pairs}
use Rattle.csv_cards.specs.declared.form.Form.{Form}
use Rattle.csv_cards.specs.declared.form.Form.TheVariants.{Cards, Columns}
use Rattle.http_routes.specs.Actions.{required_names, optional_names}
use Rattle.http_routes.specs.declared.action.Action.{Action}
use Rattle.http_routes.specs.declared.fault.RouteFault.{RouteFault}
use Rattle.http_routes.specs.declared.fault.RouteFault.TheVariants.{BadQuery}

-- a name and its value
abbrev pub Pair : Type 0
Pair = List ℕ × List ℕ

-- the decoded text; octets that aren't UTF-8 become replacement characters
abbrev pub decode_text : List ℕ → List ℕ
decode_text octets = utf8_lossy (decode octets)

unfoldable pub pairs_of : List ℕ → List Pair
pairs_of query = map (λ pair. (decode_text pair.0, decode_text pair.1)) (raw_pairs query)

abbrev pub pair_is_named : List ℕ → Pair → Bool
pair_is_named name pair = bytes_eq pair.0 name

abbrev pub count_pairs_named : List ℕ → List Pair → ℕ
count_pairs_named name pairs = count_by (pair_is_named name) pairs

-- no names but these, and each of them at most once
abbrev pub has_only_names : List (List ℕ) → List Pair → Bool
has_only_names names pairs =
    list_all (λ pair. list_any (λ name. pair_is_named name pair) names) pairs
    && list_all (λ name. nat_le (count_pairs_named name pairs) 1) names

-- each of these names exactly once
abbrev pub has_each_once : List (List ℕ) → List Pair → Bool
has_each_once names pairs = list_all (λ name. nat_eq (count_pairs_named name pairs) 1) names

-- no name is unknown, repeated or missing
abbrev pub has_valid_names : Action → List Pair → Bool
has_valid_names action pairs =
    has_only_names (required_names action ++ optional_names action) pairs
    && has_each_once (required_names action) pairs

-- the value of the first pair with the name
abbrev pub query_value : List ℕ → List Pair → Option (List ℕ)
query_value name [] = None
query_value name (pair ∷ pairs) =
    if pair_is_named name pair then Some pair.1 else query_value name pairs

abbrev pub value_or_empty : List ℕ → List Pair → List ℕ
value_or_empty name [] = []
value_or_empty name (pair ∷ pairs) =
    if pair_is_named name pair then pair.1 else value_or_empty name pairs

-- 1 to 15 digits
abbrev pub is_number : List ℕ → Bool
is_number text =
    nat_lt 0 (length text) && nat_le (length text) 15 && list_all is_ascii_digit text

abbrev pub parse_number : List ℕ → Result ℕ RouteFault
parse_number text = if is_number text then Ok (digits_value 10 text) else Err BadQuery

abbrev pub some_of : {A : Type 0} → Result A RouteFault → Result (Option A) RouteFault
some_of (Ok value) = Ok (Some value)
some_of (Err fault) = Err fault

abbrev pub optional_number : Option (List ℕ) → Result (Option ℕ) RouteFault
optional_number None = Ok None
optional_number (Some text) = some_of (parse_number text)

-- `cards` if there is no value
abbrev pub export_form : Option (List ℕ) → Result Form RouteFault
export_form None = Ok Cards
export_form (Some text) =
    if bytes_eq text (codes "cards") then Ok Cards
    else (if bytes_eq text (codes "columns") then Ok Columns else Err BadQuery)
