-- The parser's spans of a head that ends where the text does.
use Rattle.std.proofs.Common.{◌≡◌, ◌∙◌, ◌≤◌, ◌<◌, ℕ, List, [], length, sym, ap, subst, Bool, arith}
use Rattle.std.proofs.Common.{take, drop, map, Option, IsUtf8, IsTrue, true}
use Rattle.std.specs.List.{All}
use Rattle.std.proofs.lemmas.Str.Ascii.{IsAscii-from_all}
use Rattle.std.proofs.lemmas.Str.{IsUtf8-from_ascii}
use Rattle.std.proofs.lemmas.Bool.Decides.{nat_tests}
use Rattle.std.proofs.lemmas.List.{append-nil, length-map, length-take}
use Rattle.std.proofs.lemmas.List.Elements.{All-weaker}
use Rattle.httparse.specs.Grammar.{RequestHead, Field, print_request, ReadsRequest, is_token_byte}
use Rattle.httparse.specs.Spans.{IsRequestAt, RequestOverflows, AreFieldsAt, header_bytes}
use Rattle.httparse.specs.Spans.{name_and_value}
use Rattle.httparse.specs.declared.spans.HeaderSpan.{HeaderSpan}
use Rattle.httparse.specs.declared.spans.RequestSpans.{RequestSpans}
use Rattle.http_requests.specs.declared.head_fault.HeadFault.{HeadFault}
use Rattle.http_requests.specs.HeadEnds.{EndsAtLastOctet}
use Rattle.http_requests.specs.Fields.{fault_of_head, fault_in_fields, body_length}
use Rattle.http_requests.specs.Fields.{length_in_fields, closes, closes_by_fields, fields_of}
use Rattle.http_requests.specs.Fields.{user_in_fields, user_of}
use Rattle.http_requests.specs.Requests.{StartsWithHead, NeverHasHead}
use Rattle.http_requests.proofs.EndLemmas.{ended_is}
use Rattle.http_requests.specs.declared.head.Head.{Head}
use Rattle.http_requests.specs.ParsedHeads.{head_of, IsUnreadable}
use Rattle.http_requests.specs.HandlerRuns.{HandlerRelation, screened}

pub unreadable : (text : List ℕ) (room : ℕ) → room ≡ 64 → RequestOverflows room text
    → IsUnreadable text
unreadable text room is over = subst (λ k. RequestOverflows k text) is over

pub unreadable_never : (text : List ℕ) → IsUnreadable text → NeverHasHead text
unreadable_never text over more h rest b = let many = over more h rest b.0 in
    absurd (omega (arith, many, b.2))

pub few_fields : (buf : List ℕ) (headers : List HeaderSpan) (count room : ℕ) (fields : List Field)
    → AreFieldsAt buf headers count fields → count ≤ room → length fields ≤ room
few_fields buf headers count room fields are fits =
    let same = sym (length-map fields name_and_value) ∙ sym (ap length are)
    ∙ length-map (take count headers) (header_bytes buf) ∙ length-take count headers in
    omega (arith, same, fits)

-- the head is the text
pub is_text : (text : List ℕ) (spans : List HeaderSpan) (r : RequestSpans) (h : RequestHead)
    → EndsAtLastOctet text → IsRequestAt text spans r h → print_request h ≡ text
is_text text spans r h ends at =
    (ended_is text ends [] h (drop r.len text) (subst (λ t. ReadsRequest t h (drop r.len text))
    (sym (append-nil text)) at.reads)).0

pub starts_with_head : (text : List ℕ) (spans : List HeaderSpan) (r : RequestSpans) (h :
    RequestHead) → EndsAtLastOctet text → length text ≤ 16384 → r.headers ≤ 64
    → IsRequestAt text spans r h → StartsWithHead text h []
starts_with_head text spans r h ends short few at =
    let is = is_text text spans r h ends at in (
      (at.reads.0, sym is ∙ sym (append-nil (print_request h))),
      omega (arith, short, ap length is),
      few_fields text spans r.headers 64 h.fields at.fields few,
    )

pub fault_is : (text : List ℕ) (spans : List HeaderSpan) (r : RequestSpans) (h : RequestHead) (o :
    Option HeadFault) → IsRequestAt text spans r h
    → fault_in_fields r.version (map (header_bytes text) (take r.headers spans)) ≡ o
    → fault_of_head h ≡ o
unfolding fault_of_head
fault_is text spans r h o at is = ap (λ n. fault_in_fields n (fields_of h)) (sym at.version)
    ∙ ap (fault_in_fields r.version) (sym at.fields) ∙ is

pub length_is : (text : List ℕ) (spans : List HeaderSpan) (r : RequestSpans) (h : RequestHead) (n :
    ℕ) → IsRequestAt text spans r h
    → length_in_fields r.version (map (header_bytes text) (take r.headers spans)) ≡ n
    → body_length h ≡ n
unfolding body_length
length_is text spans r h n at is = ap (λ k. length_in_fields k (fields_of h)) (sym at.version)
    ∙ ap (length_in_fields r.version) (sym at.fields) ∙ is

pub close_is : (text : List ℕ) (spans : List HeaderSpan) (r : RequestSpans) (h : RequestHead) (b :
    Bool) → IsRequestAt text spans r h
    → b ≡ closes_by_fields r.version (map (header_bytes text) (take r.headers spans)) → b ≡ closes h
unfolding closes
close_is text spans r h b at is = is ∙ ap (closes_by_fields r.version) at.fields
    ∙ ap (λ k. closes_by_fields k (fields_of h)) at.version

pub user_is : (text : List ℕ) (spans : List HeaderSpan) (r : RequestSpans) (h : RequestHead) (u :
    List ℕ) → IsRequestAt text spans r h
    → u ≡ user_in_fields (map (header_bytes text) (take r.headers spans)) → u ≡ user_of h
unfolding user_of
user_is text spans r h u at is = is ∙ ap user_in_fields at.fields

pub head_is : (head : Head) (h : RequestHead) → head.method ≡ h.method → head.target ≡ h.target
    → head.close ≡ closes h → head.length ≡ body_length h → head.user ≡ user_of h → head ≡ head_of h
head_is head h m t c l u = λ i. record {
  method = m i;
  target = t i;
  close = c i;
  length = l i;
  user = u i;
}

token_is_ascii : (b : ℕ) → is_token_byte b ≡ true → b < 128
unfolding is_token_byte
token_is_ascii b token = grind (arith, nat_tests)

pub token_text : (w : List ℕ) → All (λ b. IsTrue (is_token_byte b)) w → IsUtf8 w
token_text w all = IsUtf8-from_ascii w (IsAscii-from_all w (All-weaker (λ b. is_token_byte b ≡ true)
    (λ b. b < 128) token_is_ascii w all))

-- whether the handler refuses the head
pub screens_is : {S : Type 0} (does : HandlerRelation S) (now : S) (text : List ℕ) (spans :
    List HeaderSpan) (r : RequestSpans) (h : RequestHead) (method : List ℕ) (found o :
    Option HeadFault) → IsRequestAt text spans r h → method ≡ h.method
    → found ≡ does.screens now method (map (header_bytes text) (take r.headers spans)) → found ≡ o
    → screened does now h ≡ o
screens_is does now text spans r h method found o at same asked is =
    ap (λ m. does.screens now m (fields_of h)) (sym same)
    ∙ ap (does.screens now method) (sym at.fields) ∙ sym asked ∙ is
