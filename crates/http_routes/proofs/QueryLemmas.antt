-- What a query says, step by step.
use Rattle.std.proofs.Common.{◌≡◌, ◌<◌, ◌≤◌, ◌^◌, ◌∙◌, ℕ, zero, suc, ◌==◌, ◌&&◌, Bool, true, false}
use Rattle.std.proofs.Common.{cond, List, [], ◌∷◌, ◌++◌, Some, None, Result, Ok, Err, Bor, bytes_eq}
use Rattle.std.proofs.Common.{length, map, nat_eq, nat_le, nat_lt, refl, ap, arith, rules, sym}
use Rattle.std.specs.Char.{is_ascii_digit}
use Rattle.std.specs.List.{list_all, list_any}
use Rattle.std.specs.Str.Parse.{ParsesUnsigned, digits_value}
use Rattle.std.proofs.lemmas.Simd.{map-map}
use Rattle.std.proofs.lemmas.Str.Parse.{IsNumeralModel, digits_value_short, numerals_by_value}
use Rattle.std.proofs.lemmas.Str.Parse.{parse_gives}
use Rattle.std.proofs.Math.Bool.{and-false}
use Rattle.form_urlencoded.specs.Form.{pair_text, raw_pairs}
use Rattle.http_routes.specs.Actions.{optional_names, required_names}
use Rattle.http_routes.specs.Queries.{Pair, count_pairs_named, has_valid_names, pair_is_named}
use Rattle.http_routes.specs.Queries.{parse_number, pairs_of, decode_text, query_value}
use Rattle.http_routes.specs.Queries.{value_or_empty}
use Rattle.http_routes.specs.declared.action.Action.{Action}
use Rattle.http_routes.specs.declared.fault.RouteFault.TheVariants.{BadQuery}

-- the texts of an encoded pair
abbrev pub texts_of : Bor (List ℕ) × Bor (List ℕ) → Pair
texts_of pair = (decode_text pair.0.now, decode_text pair.1.now)

pub pairs-are : (raw : List (Bor (List ℕ) × Bor (List ℕ))) (query : List ℕ)
    → map pair_text raw ≡ raw_pairs query → map texts_of raw ≡ pairs_of query
unfolding pairs_of
pairs-are raw query is =
    sym (map-map (λ (pair : Pair). (decode_text pair.0, decode_text pair.1)) pair_text raw)
    ∙ ap (map (λ (pair : Pair). (decode_text pair.0, decode_text pair.1))) is

any-map : (test : List ℕ → Bool) (names : List (Bor (List ℕ)))
    → list_any test (map (λ name. name.now) names) ≡ list_any (λ name. test name.now) names
any-map test [] = refl
any-map test (name ∷ names) = rw (any-map test names) refl

all-map : (test : List ℕ → Bool) (names : List (Bor (List ℕ)))
    → list_all test (map (λ name. name.now) names) ≡ list_all (λ name. test name.now) names
all-map test [] = refl
all-map test (name ∷ names) = rw (all-map test names) refl

-- the tests of names as the code makes them
abbrev pub known : List (Bor (List ℕ)) → List Pair → Bool
known names pairs =
    list_all (λ pair. list_any (λ own. bytes_eq pair.0 own.now) names) pairs

abbrev pub at_most_once : List (Bor (List ℕ)) → List Pair → Bool
at_most_once names pairs = list_all (λ own. nat_le (count_pairs_named own.now pairs) 1) names

abbrev pub once : List (Bor (List ℕ)) → List Pair → Bool
once names pairs = list_all (λ own. nat_eq (count_pairs_named own.now pairs) 1) names

known-is : (names : List (Bor (List ℕ))) (pairs : List Pair)
    → list_all (λ pair. list_any (λ name. pair_is_named name pair) (map (λ name. name.now) names))
    pairs ≡ known names pairs
known-is names [] = refl
known-is names (pair ∷ pairs) =
    ap (λ v. v && list_all (λ one. list_any (λ name. pair_is_named name one)
    (map (λ name. name.now) names)) pairs) (any-map (λ name. pair_is_named name pair) names)
    ∙ ap (λ v. list_any (λ own. bytes_eq pair.0 own.now) names && v) (known-is names pairs)

abbrev only : List (List ℕ) → List Pair → Bool
only names pairs =
    list_all (λ pair. list_any (λ name. pair_is_named name pair) names) pairs
    && list_all (λ name. nat_le (count_pairs_named name pairs) 1) names

pub only-is : (names : List (Bor (List ℕ))) (pairs : List Pair)
    → only (map (λ name. name.now) names) pairs ≡ (known names pairs && at_most_once names pairs)
only-is names pairs =
    ap (λ v. v && list_all (λ name. nat_le (count_pairs_named name pairs) 1)
    (map (λ name. name.now) names)) (known-is names pairs)
    ∙ ap (λ v. known names pairs && v) (all-map (λ name. nat_le (count_pairs_named name pairs) 1)
    names)

pub names-are : (action : Action) (pairs : List Pair) (names needed : List (Bor (List ℕ)))
    → map (λ name. name.now) names ≡ required_names action ++ optional_names action
    → map (λ name. name.now) needed ≡ required_names action
    → ((known names pairs && at_most_once names pairs) && once needed pairs)
    ≡ has_valid_names action pairs
names-are action pairs names needed all must =
    ap (λ v. v && once needed pairs) (sym (only-is names pairs) ∙ ap (λ own. only own pairs) all)
    ∙ ap (λ v. only (required_names action ++ optional_names action) pairs && v)
    (sym (all-map (λ name. nat_eq (count_pairs_named name pairs) 1) needed)
    ∙ ap (list_all (λ name. nat_eq (count_pairs_named name pairs) 1)) must)

pub names-asked : (action : Action) (pairs : List Pair) (names needed : List (Bor (List ℕ)))
    → map (λ name. name.now) names ≡ required_names action ++ optional_names action
    → map (λ name. name.now) needed ≡ required_names action → known names pairs ≡ true
    → at_most_once names pairs ≡ true → once needed pairs ≡ has_valid_names action pairs
names-asked action pairs names needed all must know single =
    sym (ap (λ v. (v && at_most_once names pairs) && once needed pairs) know
    ∙ ap (λ v. (true && v) && once needed pairs) single)
    ∙ names-are action pairs names needed all must

pub names-twice : (action : Action) (pairs : List Pair) (names needed : List (Bor (List ℕ)))
    → map (λ name. name.now) names ≡ required_names action ++ optional_names action
    → map (λ name. name.now) needed ≡ required_names action → known names pairs ≡ true
    → at_most_once names pairs ≡ false → false ≡ has_valid_names action pairs
names-twice action pairs names needed all must know double =
    sym (ap (λ v. (v && at_most_once names pairs) && once needed pairs) know
    ∙ ap (λ v. (true && v) && once needed pairs) double)
    ∙ names-are action pairs names needed all must

pub names-other : (action : Action) (pairs : List Pair) (names needed : List (Bor (List ℕ)))
    → map (λ name. name.now) names ≡ required_names action ++ optional_names action
    → map (λ name. name.now) needed ≡ required_names action → known names pairs ≡ false
    → false ≡ has_valid_names action pairs
names-other action pairs names needed all must unknown =
    sym (ap (λ v. (v && at_most_once names pairs) && once needed pairs) unknown)
    ∙ names-are action pairs names needed all must

pub value_there : (name : List ℕ) (pairs : List Pair) (value : List ℕ)
    → Some value ≡ query_value name pairs → value ≡ value_or_empty name pairs
value_there name [] value is = absurd (never is)
  where
    never : Some value ≡ None → ⊥
    never e = cc
value_there name (pair ∷ pairs) value is =
    by (pair_is_named name pair) is (value_there name pairs value)
  where
    by : (v : Bool) → Some value ≡ cond v (Some pair.1) (query_value name pairs)
        → (Some value ≡ query_value name pairs → value ≡ value_or_empty name pairs)
        → value ≡ cond v pair.1 (value_or_empty name pairs)
    by true found later = cc
    by false found later = later found

pub value_absent : (name : List ℕ) (pairs : List Pair) → None ≡ query_value name pairs
    → [] ≡ value_or_empty name pairs
value_absent name [] is = refl
value_absent name (pair ∷ pairs) is = by (pair_is_named name pair) is (value_absent name pairs)
  where
    by : (v : Bool) → None ≡ cond v (Some pair.1) (query_value name pairs)
        → (None ≡ query_value name pairs → [] ≡ value_or_empty name pairs)
        → [] ≡ cond v pair.1 (value_or_empty name pairs)
    by true found later = cc
    by false found later = later found

-- digits
digits : IsNumeralModel (λ text. list_all is_ascii_digit text ≡ true) (digits_value 10)
digits = numerals_by_value (λ text. list_all is_ascii_digit text ≡ true) (search rules)

pub number-reads : {E : Type 0} (text : List ℕ) (read : Result ℕ E) → ParsesUnsigned 64 10 text read
    → 0 < length text → length text ≤ 15 → list_all is_ascii_digit text ≡ true
    → read ≡ Ok (digits_value 10 text)
number-reads text read parses some few all =
    let small : digits_value 10 text < 10 ^ 15 = digits_value_short digits text 15 all few in
    parse_gives digits 64 text read parses all some (omega arith)

pub number-is : (text : List ℕ) → 0 < length text → length text ≤ 15 → list_all is_ascii_digit text
    ≡ true → parse_number text ≡ Ok (digits_value 10 text)
number-is text some few all =
    let more : nat_lt 0 (length text) ≡ true = grind arith in
    let less : nat_le (length text) 15 ≡ true = grind arith in
    rw (more, less, all) refl

pub not_empty : (n : ℕ) → (n == 0) ≡ false → 0 < n
not_empty zero is = absurd (never is)
  where
    never : true ≡ false → ⊥
    never e = cc
not_empty (suc n) is = omega arith

pub number-ok : {E : Type 0} (text : List ℕ) (read : Result ℕ E) (n : ℕ) → read ≡ Ok n
    → ParsesUnsigned 64 10 text read → 0 < length text → length text ≤ 15
    → list_all is_ascii_digit text ≡ true → parse_number text ≡ Ok n
number-ok text read n is parses some few all =
    let reads : read ≡ Ok (digits_value 10 text) = number-reads text read parses some few all in
    let same : n ≡ digits_value 10 text = cc in
    number-is text some few all ∙ ap (λ m. Ok m) (sym same)

pub number-err : {E : Type 0} (text : List ℕ) (read : Result ℕ E) (e : E) → read ≡ Err e
    → ParsesUnsigned 64 10 text read → 0 < length text → length text ≤ 15
    → list_all is_ascii_digit text ≡ true → parse_number text ≡ Err BadQuery
number-err text read e is parses some few all =
    let reads : read ≡ Ok (digits_value 10 text) = number-reads text read parses some few all in
    absurd (never (sym reads ∙ is))
  where
    never : Ok (digits_value 10 text) ≡ Err e → ⊥
    never same = cc
