-- The fields of a head: their first fault, the length of the body, whether the connection closes
-- (RFC 9112, sections 3.2, 6.1, 6.2 and 9.3; RFC 9110, section 5.1), and the user. The bounds and
-- the user are this project's own.
use Rattle.std.specs.Prelude.{ℕ, Bool, ◌&&◌, ◌||◌, not, List, length, map, if◌then◌else◌, nat_lt}
use Rattle.std.specs.Prelude.{nat_le, nat_eq, is_some, count_by, find, take, drop, ◌-◌, eqb, Option}
use Rattle.std.specs.Prelude.{Some, None, [], codes}
use Rattle.std.specs.List.{list_all, list_any, slice_split, prefix_len, suffix_len}
use Rattle.std.specs.Char.{is_ascii_digit, is_ascii_whitespace, to_ascii_lowercase}
use Rattle.std.specs.Cmp.Lexicographic.{pointwise}
use Rattle.std.specs.Str.Parse.{digits_value}
use Rattle.base_types.specs.Octets.{comma}
use Rattle.httparse.specs.Grammar.{RequestHead}
use Rattle.httparse.specs.Spans.{name_and_value}
use Rattle.http_requests.specs.declared.head_fault.HeadFault.{HeadFault}
use Rattle.http_requests.specs.declared.head_fault.HeadFault.TheVariants.{BadHost, TransferEncoding}
use Rattle.http_requests.specs.declared.head_fault.HeadFault.TheVariants.{BadLength, BodyTooLarge}

-- ---- fields by name

-- the texts are equal, ignoring ASCII case
abbrev pub equals_ignoring_case : List ℕ → List ℕ → Bool
equals_ignoring_case a b = pointwise nat_eq (map to_ascii_lowercase a) (map to_ascii_lowercase b)

-- the fields, each as its name and its value without surrounding white space
abbrev pub fields_of : RequestHead → List (List ℕ × List ℕ)
fields_of head = map name_and_value head.fields

abbrev pub field_is_named : List ℕ → List ℕ × List ℕ → Bool
field_is_named name field = equals_ignoring_case field.0 name

abbrev pub count_fields_named : List ℕ → List (List ℕ × List ℕ) → ℕ
count_fields_named name fields = count_by (field_is_named name) fields

abbrev pub first_field_named : List ℕ → List (List ℕ × List ℕ) → Option (List ℕ × List ℕ)
first_field_named name fields = find (field_is_named name) fields

-- ---- the length of the body

-- the length of the longest body
abbrev pub longest_body : ℕ
longest_body = 8388608

-- 1 to 15 digits
abbrev pub is_length : List ℕ → Bool
is_length value =
    nat_lt 0 (length value) && nat_le (length value) 15 && list_all is_ascii_digit value

-- the fault of a Content-Length value
abbrev pub length_fault : List ℕ → Option HeadFault
length_fault value =
    if is_length value
    then (if nat_lt longest_body (digits_value 10 value) then Some BodyTooLarge else None)
    else Some BadLength

abbrev pub length_fault_of : Option (List ℕ × List ℕ) → Option HeadFault
length_fault_of None = None
length_fault_of (Some field) = length_fault field.1

-- the value of the field as a number, and 0 if there is no field
abbrev pub length_of : Option (List ℕ × List ℕ) → ℕ
length_of None = 0
length_of (Some field) = digits_value 10 field.1

-- ---- the first fault, in the order of the numbers

-- the first fault of a head of version 1.minor with these fields
abbrev pub fault_in_fields : ℕ → List (List ℕ × List ℕ) → Option HeadFault
fault_in_fields minor fields =
    if nat_eq minor 1 && not (nat_eq (count_fields_named (codes "host") fields) 1) then Some BadHost
    else (if nat_lt 0 (count_fields_named (codes "transfer-encoding") fields)
    then Some TransferEncoding
    else (if nat_lt 1 (count_fields_named (codes "content-length") fields) then Some BadLength
    else length_fault_of (first_field_named (codes "content-length") fields)))

abbrev pub length_in_fields : ℕ → List (List ℕ × List ℕ) → ℕ
length_in_fields minor fields =
    if is_some (fault_in_fields minor fields) then 0
    else length_of (first_field_named (codes "content-length") fields)

-- ---- closing the connection

-- the text without white space at both ends
abbrev pub trim_whitespace : List ℕ → List ℕ
trim_whitespace text =
    let front = drop (prefix_len is_ascii_whitespace text) text in
    take (length front - suffix_len is_ascii_whitespace front) front

abbrev pub is_close : List ℕ → Bool
is_close part = equals_ignoring_case (trim_whitespace part) (codes "close")

-- a comma-separated list with the option `close`
abbrev pub has_close : List ℕ → Bool
has_close value = list_any is_close (slice_split (λ octet. eqb octet comma) value)

abbrev pub asks_close : List ℕ × List ℕ → Bool
asks_close field = field_is_named (codes "connection") field && has_close field.1

abbrev pub closes_by_fields : ℕ → List (List ℕ × List ℕ) → Bool
closes_by_fields minor fields = nat_eq minor 0 || list_any asks_close fields

-- ---- the user

-- the value of the first X-Remote-User, by which a front server names the user; nothing without one
abbrev pub user_of_field : Option (List ℕ × List ℕ) → List ℕ
user_of_field None = []
user_of_field (Some field) = field.1

abbrev pub user_in_fields : List (List ℕ × List ℕ) → List ℕ
user_in_fields fields = user_of_field (first_field_named (codes "x-remote-user") fields)

-- ---- of a head

-- the first fault of its fields
unfoldable pub fault_of_head : RequestHead → Option HeadFault
fault_of_head head = fault_in_fields head.minor (fields_of head)

-- the length of its body; a head with a fault has no body
unfoldable pub body_length : RequestHead → ℕ
body_length head = length_in_fields head.minor (fields_of head)

-- the connection is closed after the reply
unfoldable pub closes : RequestHead → Bool
closes head = closes_by_fields head.minor (fields_of head)

-- the user that it names
unfoldable pub user_of : RequestHead → List ℕ
user_of head = user_in_fields (fields_of head)

-- no request follows this one on the connection
unfoldable pub is_last_request : RequestHead → Bool
is_last_request head = is_some (fault_of_head head) || closes head
