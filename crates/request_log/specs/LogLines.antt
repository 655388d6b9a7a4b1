-- The lines that a server prints about requests.
use Rattle.std.specs.Prelude.{ℕ, ◌≡◌, ◌+◌, ◌/◌, ◌%◌, ◌==◌, ◌&&◌, Bool, true, not, nat_le, nat_lt}
use Rattle.std.specs.Prelude.{List, [], ◌∷◌, ◌++◌, codes, decimal, drop, flat_map, length, take}
use Rattle.std.specs.Prelude.{if◌then◌else◌, eqb, Option, Some, None}
use Rattle.std.specs.List.{list_all, position}
use Rattle.base_types.specs.Octets.{backslash, line_feed, space}
use Rattle.http_requests.specs.Guards.{writes}
use Rattle.http_requests.specs.HeadFaults.{head_fault_number, head_fault_text}
use Rattle.http_requests.specs.declared.head_fault.HeadFault.{HeadFault}

-- ---- one line

-- a printable ASCII character
abbrev pub is_printable : ℕ → Bool
is_printable octet = nat_le space octet && nat_lt octet 127

-- Printable ASCII characters, and a line feed that ends them. So no part of it begins another line,
-- and it moves no cursor.
pub record IsLogLine (line : List ℕ) : Type 0 where
  pub words : List ℕ
  pub line_is : line ≡ words ++ line_feed ∷ []
  pub printable : list_all is_printable words ≡ true

-- ---- escaping

-- the most octets of a method that are printed
abbrev pub method_octets_max : ℕ
method_octets_max = 20

-- the most octets of a target that are printed
abbrev pub target_octets_max : ℕ
target_octets_max = 200

-- a visible ASCII character other than the backslash
abbrev pub is_plain : ℕ → Bool
is_plain octet = nat_lt space octet && nat_lt octet 127 && not (octet == backslash)

-- the most octets of a user that are printed
abbrev pub user_octets_max : ℕ
user_octets_max = 100

-- the most octets of a reply's JSON that are printed
abbrev pub json_octets_max : ℕ
json_octets_max = 200

-- the octet with which JSON begins
abbrev pub brace : ℕ
brace = 123

-- the hexadecimal digit of a number below 16: 48 is the digit 0, and 97 the letter a
abbrev pub hex_digit : ℕ → ℕ
hex_digit value = if nat_lt value 10 then 48 + value else 87 + value

-- the octet itself if it is plain, else `\x` and its two hexadecimal digits
abbrev pub escaped_octet : ℕ → List ℕ
escaped_octet octet =
    if is_plain octet then octet ∷ []
    else codes "\\x" ++ (hex_digit (octet / 16 % 16) ∷ hex_digit (octet % 16) ∷ [])

abbrev pub escaped : List ℕ → List ℕ
escaped octets = flat_map escaped_octet octets

-- two dots if some octets of the text are not printed
abbrev pub cut_mark : ℕ → List ℕ → List ℕ
cut_mark most octets = if nat_lt most (length octets) then codes ".." else []

-- the first octets of a text, escaped, at most this number of them
abbrev pub shown : ℕ → List ℕ → List ℕ
shown most octets = escaped (take most octets) ++ cut_mark most octets

-- ---- lines

-- the status code of a reply, which begins as `HTTP/1.1 200 OK` (RFC 9112, section 4)
abbrev pub status_code : List ℕ → List ℕ
status_code reply = take 3 (drop 9 reply)

-- the status of a reply and its length in octets, with its head
abbrev pub reply_words : List ℕ → List ℕ
reply_words reply = codes " status " ++ (escaped (status_code reply)
    ++ (codes " octets " ++ decimal (length reply)))

-- the microseconds that a request took
abbrev pub time_words : ℕ → List ℕ
time_words micros = codes " microseconds " ++ decimal micros

-- the method and the target of a request
abbrev pub request_words : List ℕ → List ℕ → List ℕ
request_words method target = codes "request " ++ (shown method_octets_max method
    ++ (codes " " ++ shown target_octets_max target))

-- the user that a front server names
abbrev pub user_words : List ℕ → List ℕ
user_words [] = []
user_words (octet ∷ octets) = codes " user " ++ shown user_octets_max (octet ∷ octets)

-- the text from the place on; nothing without a place
abbrev pub from_place : Option ℕ → List ℕ → List ℕ
from_place None text = []
from_place (Some place) text = drop place text

-- the JSON of a reply: what begins with its first brace, since no head of a reply has one
abbrev pub json_of : List ℕ → List ℕ
json_of reply = from_place (position (λ octet. eqb octet brace) reply) reply

-- what a change came to, as its book's number or the card's version
abbrev pub change_words : List ℕ → List ℕ → List ℕ
change_words method reply =
    if writes method then codes " reply " ++ shown json_octets_max (json_of reply) else []

-- the line of a request that was answered
abbrev pub answered_line : List ℕ → List ℕ → List ℕ → List ℕ → ℕ → List ℕ
answered_line method target user reply micros = request_words method target
    ++ (reply_words reply ++ (time_words micros
    ++ (user_words user ++ (change_words method reply ++ line_feed ∷ []))))

-- the line of a request for whose reply memory ran out
abbrev pub lost_line : List ℕ → List ℕ → List ℕ
lost_line method target = request_words method target
    ++ (codes " fault no-memory" ++ line_feed ∷ [])

-- the line of a request that is refused for the fault of its head
abbrev pub refused_line : HeadFault → List ℕ → List ℕ
refused_line fault reply = codes "refused " ++ (head_fault_text fault
    ++ (codes " " ++ (decimal (head_fault_number fault) ++ (reply_words reply
    ++ line_feed ∷ []))))
