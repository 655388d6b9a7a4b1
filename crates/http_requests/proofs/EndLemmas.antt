-- A head ends where its empty line does, and nowhere before.
use Rattle.std.proofs.Common.{◌≡◌, ◌∙◌, ◌≤◌, ◌<◌, ◌+◌, ◌≢◌, ℕ, List, [], ◌∷◌, ◌++◌, length, refl}
use Rattle.std.proofs.Common.{sym, ap, subst, append_assoc, Bool, true, false, inl, inr, arith}
use Rattle.std.proofs.Common.{IsTrue, nat_eq, length-append}
use Rattle.std.proofs.lemmas.Bool.{cases_lt, ne_eqb, false≢true}
use Rattle.std.proofs.lemmas.List.{append-nil}
use Rattle.std.specs.List.{All, flat_map}
use Rattle.std.proofs.lemmas.List.Elements.{All-head, All-tail}
use Rattle.std.proofs.lemmas.List.Sums.{fold-append}
use Rattle.httparse.specs.Grammar.{RequestHead, IsRequestHead, IsField, Field, LineEnd, crlf, lf}
use Rattle.httparse.specs.Grammar.{print_end, print_blank, print_field, print_version}
use Rattle.httparse.specs.Grammar.{print_request, ReadsRequest, HasNoRequest, is_token_byte}
use Rattle.httparse.specs.Grammar.{is_uri_byte, is_value_byte}
use Rattle.http_requests.specs.declared.head_state.HeadState.{HeadState}
use Rattle.http_requests.specs.declared.head_state.HeadState.TheVariants.{Blank, InLine, LineStart}
use Rattle.http_requests.specs.declared.head_state.HeadState.TheVariants.{Return, Ended}
use Rattle.http_requests.specs.HeadEnds.{next, head_state_after, EndsAtLastOctet}
use Rattle.http_requests.specs.ParsedHeads.{IsUnreadable}
use Rattle.http_requests.specs.Requests.{HasNoHead, NeverHasHead}
use Rattle.http_requests.proofs.CutLemmas.{same_fronts}

pub after-append : (m : HeadState) (x y : List ℕ) → head_state_after m (x ++ y)
    ≡ head_state_after (head_state_after m x) y
after-append m x y = fold-append next m x y

pub whole_stays : (bs : List ℕ) → head_state_after Ended bs ≡ Ended
whole_stays [] = refl
whole_stays (b ∷ bs) = whole_stays bs

pub blank_stays : (es : List LineEnd) → head_state_after Blank (print_blank es) ≡ Blank
blank_stays [] = refl
blank_stays (crlf ∷ es) = after-append Blank (print_end crlf) (print_blank es) ∙ blank_stays es
blank_stays (lf ∷ es) = after-append Blank (print_end lf) (print_blank es) ∙ blank_stays es

-- no octet of the class is a line feed, or a carriage return
abbrev pub HasNoEnds : (ℕ → Bool) → Type 0
HasNoEnds test = (b : ℕ) → test b ≡ true → (nat_eq b 10 ≡ false) × (nat_eq b 13 ≡ false)

pub line_stays : (test : ℕ → Bool) → ((b : ℕ) → test b ≡ true → nat_eq b 10 ≡ false) → (w : List ℕ)
    → All (λ b. IsTrue (test b)) w → head_state_after InLine w ≡ InLine
line_stays test noend [] all = refl
line_stays test noend (b ∷ bs) all =
    let here : nat_eq b 10 ≡ false = noend b (All-head (λ v. IsTrue (test v)) b bs all) in
    rw here (line_stays test noend bs (All-tail (λ v. IsTrue (test v)) b bs all))

pub token_no_end : HasNoEnds is_token_byte
unfolding is_token_byte
token_no_end b t =
    let not_cr : b ≢ 13 = λ e. false≢true (subst (λ (v : ℕ). is_token_byte v ≡ true) e t) in
    let not_lf : b ≢ 10 = λ e. false≢true (subst (λ (v : ℕ). is_token_byte v ≡ true) e t) in
    (ne_eqb b 10 not_lf, ne_eqb b 13 not_cr)

pub uri_no_end : (b : ℕ) → is_uri_byte b ≡ true → nat_eq b 10 ≡ false
uri_no_end b t = ne_eqb b 10 (λ e. false≢true (subst (λ (v : ℕ). is_uri_byte v ≡ true) e t))

pub value_no_end : (b : ℕ) → is_value_byte b ≡ true → nat_eq b 10 ≡ false
value_no_end b t = ne_eqb b 10 (λ e. false≢true (subst (λ (v : ℕ). is_value_byte v ≡ true) e t))

-- a token begins a line
pub token_begins : (m : HeadState) → ((b : ℕ) → nat_eq b 10 ≡ false → nat_eq b 13 ≡ false
    → next m b ≡ InLine)
    → (w : List ℕ) → 0 < length w → All (λ b. IsTrue (is_token_byte b)) w
    → head_state_after m w ≡ InLine
token_begins m first [] some all = absurd (omega arith)
token_begins m first (b ∷ bs) some all =
    let ends_none = token_no_end b (All-head (λ v. IsTrue (is_token_byte v)) b bs all) in
    ap (λ k. head_state_after k bs) (first b ends_none.0 ends_none.1)
    ∙ line_stays is_token_byte (λ c t. (token_no_end c t).0) bs
    (All-tail (λ v. IsTrue (is_token_byte v)) b bs all)

pub blank_first : (b : ℕ) → nat_eq b 10 ≡ false → nat_eq b 13 ≡ false → next Blank b ≡ InLine
blank_first b p q = rw (p, q) refl

pub fresh_first : (b : ℕ) → nat_eq b 10 ≡ false → nat_eq b 13 ≡ false → next LineStart b ≡ InLine
fresh_first b p q = rw (p, q) refl

pub line_ends : (e : LineEnd) → head_state_after InLine (print_end e) ≡ LineStart
line_ends crlf = refl
line_ends lf = refl

pub field_ends : (f : Field) → IsField f → head_state_after LineStart (print_field f) ≡ LineStart
field_ends f text_is =
    after-append LineStart (f.name ++ 58 ∷ f.raw) (print_end f.end)
    ∙ ap (λ m. head_state_after m (print_end f.end))
    (after-append LineStart f.name (58 ∷ f.raw)
    ∙ ap (λ m. head_state_after m (58 ∷ f.raw)) (token_begins LineStart fresh_first f.name
    text_is.name.0 text_is.name.1)
    ∙ line_stays is_value_byte value_no_end f.raw text_is.raw)
    ∙ line_ends f.end

pub fields_end : (fs : List Field) → All IsField fs
    → head_state_after LineStart (flat_map print_field fs) ≡ LineStart
fields_end [] all = refl
fields_end (f ∷ fs) all =
    after-append LineStart (print_field f) (flat_map print_field fs)
    ∙ ap (λ m. head_state_after m (flat_map print_field fs))
    (field_ends f (All-head IsField f fs all))
    ∙ fields_end fs (All-tail IsField f fs all)

-- the start line, and the line end after it
abbrev pub start : RequestHead → List ℕ
start h = print_blank h.blank ++ h.method ++ 32 ∷ h.target ++ 32 ∷ print_version h.minor
    ++ print_end h.line_end

pub version_stays : (n : ℕ) → head_state_after InLine (32 ∷ print_version n) ≡ InLine
version_stays n =
    let unlike : nat_eq (48 + n) 10 ≡ false = ne_eqb (48 + n) 10 (λ e. absurd (omega (arith, e))) in
    rw unlike refl

pub start_ends : (h : RequestHead) → IsRequestHead h → head_state_after Blank (start h) ≡ LineStart
start_ends h text_is =
    let a = print_blank h.blank in
    let b : List ℕ = a ++ h.method in
    let d : List ℕ = b ++ 32 ∷ h.target in
    let e : List ℕ = d ++ 32 ∷ print_version h.minor in
    let b_is : head_state_after Blank b ≡ InLine = after-append Blank a h.method
    ∙ ap (λ m. head_state_after m h.method) (blank_stays h.blank)
    ∙ token_begins Blank blank_first h.method text_is.method.0 text_is.method.1 in
    let d_is : head_state_after Blank d ≡ InLine = after-append Blank b (32 ∷ h.target)
    ∙ ap (λ m. head_state_after m (32 ∷ h.target)) b_is
    ∙ line_stays is_uri_byte uri_no_end h.target text_is.target.1 in
    let e_is : head_state_after Blank e ≡ InLine = after-append Blank d (32 ∷ print_version h.minor)
    ∙ ap (λ m. head_state_after m (32 ∷ print_version h.minor)) d_is ∙ version_stays h.minor in
    after-append Blank e (print_end h.line_end)
    ∙ ap (λ m. head_state_after m (print_end h.line_end)) e_is ∙ line_ends h.line_end

-- all of a head but the last octet
abbrev pub inner : RequestHead → List ℕ
inner h = start h ++ flat_map print_field h.fields

pub inner_ends : (h : RequestHead) → IsRequestHead h → head_state_after Blank (inner h) ≡ LineStart
inner_ends h text_is =
    after-append Blank (start h) (flat_map print_field h.fields)
    ∙ ap (λ m. head_state_after m (flat_map print_field h.fields)) (start_ends h text_is)
    ∙ fields_end h.fields text_is.fields

pub print_is : (h : RequestHead) → print_request h ≡ inner h ++ print_end h.last
unfolding print_request
print_is h = sym (append_assoc (start h) (flat_map print_field h.fields) (print_end h.last))

pub last_ends : (front : List ℕ) (e : LineEnd) → head_state_after Blank front ≡ LineStart
    → EndsAtLastOctet (front ++ print_end e)
last_ends front lf fresh = record {
  front = front;
  octet = 10;
  text_is = refl;
  ended = after-append Blank front (print_end lf)
      ∙ ap (λ m. head_state_after m (print_end lf)) fresh;
  not_before = λ e. cc (fresh, e);
}
last_ends front crlf fresh =
    let return : head_state_after Blank (front ++ 13 ∷ []) ≡ Return =
    after-append Blank front (13 ∷ []) ∙ ap (λ m. head_state_after m (13 ∷ [])) fresh in
    record {
      front = front ++ 13 ∷ [];
      octet = 10;
      text_is = sym (append_assoc front (13 ∷ []) (10 ∷ []));
      ended = after-append Blank front (print_end crlf)
          ∙ ap (λ m. head_state_after m (print_end crlf)) fresh;
      not_before = λ e. cc (return, e);
    }

pub head_ends : (h : RequestHead) → IsRequestHead h → EndsAtLastOctet (print_request h)
head_ends h text_is = subst EndsAtLastOctet (sym (print_is h))
    (last_ends (inner h) h.last (inner_ends h text_is))

-- of two fronts of one text the longer begins with the shorter
pub longer_front : (a b x y : List ℕ) → a ++ x ≡ b ++ y → length a ≤ length b → (z : List ℕ)
    × (b ≡ a ++ z)
longer_front [] b x y e le = (b, refl)
longer_front (c ∷ a) [] x y e le = absurd (omega arith)
longer_front (c ∷ a) (d ∷ b) x y e le =
    let heads : c ≡ d = cc e in
    let tails : a ++ x ≡ b ++ y = cc e in
    let more = longer_front a b x y tails (omega arith) in
    (more.0, cc (heads, more.1))

pub whole_more : (s z : List ℕ) → head_state_after Blank s ≡ Ended → head_state_after Blank (s ++ z)
    ≡ Ended
whole_more s z w = after-append Blank s z ∙ ap (λ m. head_state_after m z) w ∙ whole_stays z

-- octets in which no head has ended start with no head
pub none_reads : (s : List ℕ) → head_state_after Blank s ≢ Ended → HasNoRequest s
none_reads s going h rest b =
    let e = head_ends h b.0 in
    going (ap (head_state_after Blank) b.1 ∙ whole_more (print_request h) rest e.ended)

pub none_ended : (s : List ℕ) → head_state_after Blank s ≢ Ended → HasNoHead s
none_ended s going h rest b = none_reads s going h rest b.0

-- at the bound none ever does
pub none_at_bound : (s : List ℕ) → head_state_after Blank s ≢ Ended → 16384 ≤ length s
    → NeverHasHead s
none_at_bound s going long more h rest b =
    let e = head_ends h b.0.0 in
    let front = longer_front (print_request h) s rest more (sym b.0.1) (omega (arith, b.1, long)) in
    going (ap (head_state_after Blank) front.1 ∙ whole_more (print_request h) front.0 e.ended)

-- where a head has ended it is the text
pub ended_is : (s : List ℕ) → EndsAtLastOctet s → (more : List ℕ) (h : RequestHead) (rest : List ℕ)
    → ReadsRequest (s ++ more) h rest → (print_request h ≡ s) × (rest ≡ more)
ended_is s at more h rest r =
    let e = head_ends h r.0 in
    let len_s : length s ≡ length at.front + 1 = ap length at.text_is
    ∙ length-append at.front (at.octet ∷ []) in
    let len_h : length (print_request h) ≡ length e.front + 1 = ap length e.text_is
    ∙ length-append e.front (e.octet ∷ []) in
    let same : print_request h ++ rest ≡ s ++ more = sym r.1 in
    let by_s : print_request h ++ rest ≡ at.front ++ (at.octet ∷ more) =
    same ∙ ap (λ t. t ++ more) at.text_is ∙ append_assoc at.front (at.octet ∷ []) more in
    let by_h : s ++ more ≡ e.front ++ (e.octet ∷ rest) = sym same ∙ ap (λ t. t ++ rest) e.text_is
    ∙ append_assoc e.front (e.octet ∷ []) rest in
    let not_less : length at.front ≤ length e.front =
    elim (cases_lt (length e.front) (length at.front)) [
      | inr le ↦ le
      | inl lt ↦
          let front = longer_front (print_request h) at.front rest (at.octet ∷ more) by_s
          (omega (arith, lt, len_h)) in
          absurd (at.not_before (ap (head_state_after Blank) front.1
          ∙ whole_more (print_request h) front.0 e.ended))
    ] in
    let not_more : length e.front ≤ length at.front =
    elim (cases_lt (length at.front) (length e.front)) [
      | inr le ↦ le
      | inl lt ↦
          let front = longer_front s e.front more (e.octet ∷ rest) by_h (omega (
            arith,
            lt,
            len_s,
          )) in
          absurd (e.not_before (ap (head_state_after Blank) front.1
          ∙ whole_more s front.0 at.ended))
    ] in
    let fronts = same_fronts (print_request h) s rest more same (omega (
      arith,
      len_s,
      len_h,
      not_less,
      not_more,
    )) in
    (fronts.0, fronts.1)

-- where a head should end and the text is none, no head ever begins
pub none_after_end : (s : List ℕ) → EndsAtLastOctet s → HasNoRequest s → IsUnreadable s
none_after_end s at none more h rest b =
    let text_is = ended_is s at more h rest b in
    absurd (none h [] (b.0, sym text_is.0 ∙ sym (append-nil (print_request h))))
