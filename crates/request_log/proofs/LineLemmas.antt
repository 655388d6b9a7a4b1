-- The lines of requests are single lines.
use Rattle.std.proofs.Common.{ℕ, ◌≡◌, ◌∙◌, ◌<◌, ◌≤◌, ◌+◌, ◌%◌, ◌/◌, ◌^◌, Bool, true, false, ◌&&◌}
use Rattle.std.proofs.Common.{List, [], ◌∷◌, ◌++◌, refl, ap, arith, codes, decimal, length, take}
use Rattle.std.proofs.Common.{get_or, nat_lt, if◌then◌else◌}
use Rattle.std.specs.List.{list_all}
use Rattle.std.proofs.lemmas.Fmt.{decimal_is_IsNumeral}
use Rattle.std.proofs.lemmas.Str.Parse.{digit_at}
use Rattle.std.proofs.lemmas.List.Folds.{list_all-append}
use Rattle.std.proofs.lemmas.List.Elements.{All-from_get_or}
use Rattle.std.proofs.lemmas.List.Sums.{list_all-from_AllPass}
use Rattle.http_requests.specs.HeadFaults.{head_fault_number, head_fault_text}
use Rattle.http_requests.specs.declared.head_fault.HeadFault.{HeadFault}
use Rattle.http_requests.specs.declared.head_fault.HeadFault.TheVariants.{BadHead, HeadTooLarge}
use Rattle.http_requests.specs.declared.head_fault.HeadFault.TheVariants.{BadHost, TransferEncoding}
use Rattle.http_requests.specs.declared.head_fault.HeadFault.TheVariants.{BadLength, BodyTooLarge}
use Rattle.http_requests.specs.declared.head_fault.HeadFault.TheVariants.{ForeignHost, ForeignSite}
use Rattle.http_requests.specs.declared.head_fault.HeadFault.TheVariants.{Precondition, Busy}
use Rattle.request_log.specs.LogLines.{IsLogLine, answered_line, cut_mark, escaped, escaped_octet}
use Rattle.request_log.specs.LogLines.{hex_digit, is_plain, is_printable, lost_line, refused_line}
use Rattle.request_log.specs.LogLines.{reply_words, request_words, shown, status_code, time_words}
use Rattle.request_log.specs.LogLines.{user_words, change_words, json_of}
use Rattle.http_requests.specs.Guards.{writes}

-- the text is printable
abbrev Printable : List ℕ → Type 0
Printable text = list_all is_printable text ≡ true

both : (a b : Bool) → a ≡ true → b ≡ true → (a && b) ≡ true
both true b p q = q
both false b p q = absurd (cc p)

join : (xs ys : List ℕ) → Printable xs → Printable ys → Printable (xs ++ ys)
join xs ys p q = list_all-append is_printable xs ys
    ∙ both (list_all is_printable xs) (list_all is_printable ys) p q

-- ---- escaping

digit_on : (b : Bool) (value : ℕ) → nat_lt value 10 ≡ b → value < 16
    → is_printable (if b then 48 + value else 87 + value) ≡ true
digit_on true value is small = grind arith
digit_on false value is small = grind arith

digit : (value : ℕ) → value < 16 → is_printable (hex_digit value) ≡ true
digit value small = digit_on (nat_lt value 10) value refl small

below : (n : ℕ) → n % 16 < 16
below n = omega arith

two_digits : (octet : ℕ) → Printable (codes "\\x"
    ++ (hex_digit (octet / 16 % 16) ∷ hex_digit (octet % 16) ∷ []))
two_digits octet = both (is_printable (hex_digit (octet / 16 % 16)))
    (is_printable (hex_digit (octet % 16)) && true) (digit (octet / 16 % 16) (below (octet / 16)))
    (both (is_printable (hex_digit (octet % 16))) true (digit (octet % 16) (below octet)) refl)

plain : (octet : ℕ) → is_plain octet ≡ true → is_printable octet ≡ true
plain octet is = grind arith

one_on : (b : Bool) (octet : ℕ) → is_plain octet ≡ b
    → Printable (if b then octet ∷ []
    else codes "\\x" ++ (hex_digit (octet / 16 % 16) ∷ hex_digit (octet % 16) ∷ []))
one_on true octet is = both (is_printable octet) true (plain octet is) refl
one_on false octet is = two_digits octet

all : (octets : List ℕ) → Printable (escaped octets)
all [] = refl
all (octet ∷ octets) = join (escaped_octet octet) (escaped octets) (one_on (is_plain octet) octet
    refl) (all octets)

mark_on : (b : Bool) → Printable (if b then codes ".." else [])
mark_on true = refl
mark_on false = refl

cut : (most : ℕ) (octets : List ℕ) → Printable (shown most octets)
cut most octets = join (escaped (take most octets)) (cut_mark most octets) (all (take most octets))
    (mark_on (nat_lt most (length octets)))

-- ---- numbers

digit_of : (octet : ℕ) → 48 ≤ octet → octet ≤ 57 → is_printable octet ≡ true
digit_of octet least most = grind arith

number : (n : ℕ) → n < 2 ^ 64 → Printable (decimal n)
number n small =
    list_all-from_AllPass is_printable (decimal n) (All-from_get_or (λ x. is_printable x ≡ true)
    (decimal n) 0
    (λ i within. let range = digit_at (decimal n) i (decimal_is_IsNumeral n small).0.1 within in
    digit_of (get_or (decimal n) i 0) range.0 range.1))

-- ---- lines

reply_is : (reply : List ℕ) → length reply < 2 ^ 64 → Printable (reply_words reply)
reply_is reply small = join (codes " status ") (escaped (status_code reply)
    ++ (codes " octets " ++ decimal (length reply))) refl
    (join (escaped (status_code reply)) (codes " octets " ++ decimal (length reply))
    (all (status_code reply))
    (join (codes " octets ") (decimal (length reply)) refl (number (length reply) small)))

request_is : (method target : List ℕ) → Printable (request_words method target)
request_is method target = join (codes "request ") (shown 20 method
    ++ (codes " " ++ shown 200 target)) refl
    (join (shown 20 method) (codes " " ++ shown 200 target) (cut 20 method)
    (join (codes " ") (shown 200 target) refl (cut 200 target)))

time_is : (micros : ℕ) → micros < 2 ^ 64 → Printable (time_words micros)
time_is micros small = join (codes " microseconds ") (decimal micros) refl (number micros small)

assoc2 : (a b c : List ℕ) → a ++ (b ++ c) ≡ (a ++ b) ++ c
assoc2 [] b c = refl
assoc2 (x ∷ a) b c = ap (λ t. x ∷ t) (assoc2 a b c)

line_of : (words line : List ℕ) → line ≡ words ++ 10 ∷ [] → Printable words → IsLogLine line
line_of words line same is = record { words = words; line_is = same; printable = is }

user_is : (user : List ℕ) → Printable (user_words user)
user_is [] = refl
user_is (octet ∷ octets) = join (codes " user ") (shown 100 (octet ∷ octets)) refl
    (cut 100 (octet ∷ octets))

change_on : (b : Bool) (reply : List ℕ)
    → Printable (if b then codes " reply " ++ shown 200 (json_of reply) else [])
change_on true reply = join (codes " reply ") (shown 200 (json_of reply)) refl
    (cut 200 (json_of reply))
change_on false reply = refl

change_is : (method reply : List ℕ) → Printable (change_words method reply)
change_is method reply = change_on (writes method) reply

pub answered_is : (method target user reply : List ℕ) (micros : ℕ) → length reply < 2 ^ 64
    → micros < 2 ^ 64
    → IsLogLine (answered_line method target user reply micros)
answered_is method target user reply micros small short =
    let request = request_words method target in
    let status = reply_words reply in
    let time = time_words micros in
    let who = user_words user in
    let change = change_words method reply in
    line_of (request ++ (status ++ (time ++ (who ++ change)))) (answered_line method target user
    reply micros)
    (ap (λ t. request ++ (status ++ (time ++ t))) (assoc2 who change (10 ∷ []))
    ∙ ap (λ t. request ++ (status ++ t)) (assoc2 time (who ++ change) (10 ∷ []))
    ∙ ap (λ t. request ++ t) (assoc2 status (time ++ (who ++ change)) (10 ∷ []))
    ∙ assoc2 request (status ++ (time ++ (who ++ change))) (10 ∷ []))
    (join request (status ++ (time ++ (who ++ change))) (request_is method target)
    (join status (time ++ (who ++ change)) (reply_is reply small)
    (join time (who ++ change) (time_is micros short)
    (join who change (user_is user) (change_is method reply)))))

pub lost_is : (method target : List ℕ) → IsLogLine (lost_line method target)
lost_is method target =
    line_of (request_words method target ++ codes " fault no-memory") (lost_line method target)
    (assoc2 (request_words method target) (codes " fault no-memory") (10 ∷ []))
    (join (request_words method target) (codes " fault no-memory") (request_is method target) refl)

text_is : (fault : HeadFault) → Printable (head_fault_text fault)
text_is BadHead = refl
text_is HeadTooLarge = refl
text_is BadHost = refl
text_is TransferEncoding = refl
text_is BadLength = refl
text_is BodyTooLarge = refl
text_is ForeignHost = refl
text_is ForeignSite = refl
text_is Precondition = refl
text_is Busy = refl

number_small : (fault : HeadFault) → head_fault_number fault < 2 ^ 64
number_small BadHead = omega arith
number_small HeadTooLarge = omega arith
number_small BadHost = omega arith
number_small TransferEncoding = omega arith
number_small BadLength = omega arith
number_small BodyTooLarge = omega arith
number_small ForeignHost = omega arith
number_small ForeignSite = omega arith
number_small Precondition = omega arith
number_small Busy = omega arith

pub refused_is : (fault : HeadFault) (reply : List ℕ) → length reply < 2 ^ 64
    → IsLogLine (refused_line fault reply)
refused_is fault reply small =
    let name = head_fault_text fault in
    let digits = decimal (head_fault_number fault) in
    let rest = reply_words reply in
    line_of (codes "refused " ++ (name ++ (codes " " ++ (digits ++ rest))))
    (refused_line fault reply)
    (ap (λ t. codes "refused " ++ (name ++ (codes " " ++ t))) (assoc2 digits rest (10 ∷ []))
    ∙ ap (λ t. codes "refused " ++ (name ++ t)) (assoc2 (codes " ") (digits ++ rest) (10 ∷ []))
    ∙ ap (λ t. codes "refused " ++ t) (assoc2 name (codes " " ++ (digits ++ rest)) (10 ∷ []))
    ∙ assoc2 (codes "refused ") (name ++ (codes " " ++ (digits ++ rest))) (10 ∷ []))
    (join (codes "refused ") (name ++ (codes " " ++ (digits ++ rest))) refl
    (join name (codes " " ++ (digits ++ rest)) (text_is fault)
    (join (codes " ") (digits ++ rest) refl
    (join digits rest (number (head_fault_number fault) (number_small fault))
    (reply_is reply small)))))
