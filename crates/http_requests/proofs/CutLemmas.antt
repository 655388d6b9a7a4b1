-- A stream has one list of requests, and it can be cut anywhere.
use Rattle.std.proofs.Common.{◌≡◌, ◌∙◌, ℕ, List, [], ◌∷◌, ◌++◌, length, refl, sym, ap, subst}
use Rattle.std.proofs.Common.{append_assoc, Bool, true, false, inl, inr, take}
use Rattle.std.proofs.lemmas.Bool.{cases_Bool}
use Rattle.std.proofs.lemmas.List.{append_cancel_left}
use Rattle.std.proofs.Math.Seq.{take-append_seam}
use Rattle.httparse.specs.Grammar.{RequestHead}
use Rattle.httparse.proofs.GrammarLemmas.{ReadsRequest-append, request_unique}
use Rattle.http_requests.specs.Fields.{body_length, is_last_request}
use Rattle.http_requests.specs.Requests.{Request, StartsWithRequest, StartsWithRequests}
use Rattle.http_requests.specs.RequestLaws.{RequestsAreDetermined, RequestsConcatenate}
use Rattle.http_requests.specs.RequestLaws.{EndedListIsFinal, LeadingRequestsArePrefix}

-- a request at the front is there whatever follows
pub begins_more : (s more : List ℕ) (r : Request) (rest : List ℕ) → StartsWithRequest s r rest
    → StartsWithRequest (s ++ more) r (rest ++ more)
begins_more s more r rest x = (
  (
    subst (λ t. Rattle.httparse.specs.Grammar.ReadsRequest (s ++ more) r.head t)
        (append_assoc r.body rest more)
        (ReadsRequest-append s r.head (r.body ++ rest) more x.0.0),
    x.0.1,
    x.0.2,
  ),
  x.1,
)

-- fronts of one length of the same text are the same
pub same_fronts : (a b x y : List ℕ) → a ++ x ≡ b ++ y → length a ≡ length b → (a ≡ b) × (x ≡ y)
same_fronts a b x y e l =
    let front = sym (take-append_seam a x) ∙ ap (take (length a)) e ∙ ap (λ n. take n (b ++ y)) l
    ∙ take-append_seam b y in
    (front, append_cancel_left a x y (e ∙ ap (λ t. t ++ y) (sym front)))

-- the head and the body together
abbrev pub request_of : RequestHead → List ℕ → Request
request_of h b = record { head = h; body = b }

-- a text begins with one request at most
pub begins_once : (s : List ℕ) (r q : Request) (a b : List ℕ) → StartsWithRequest s r a
    → StartsWithRequest s q b → (r ≡ q) × (a ≡ b)
begins_once s r q a b x y =
    let heads = request_unique s r.head q.head (r.body ++ a) (q.body ++ b) x.0.0 y.0.0 in
    let fronts = same_fronts r.body q.body a b heads.1 (x.1 ∙ ap body_length heads.0 ∙ sym y.1) in (
      ap (λ (h : RequestHead). request_of h r.body) heads.0
          ∙ ap (λ (b : List ℕ). request_of q.head b) fronts.0,
      fronts.1,
    )

pub leads_on : (x y : List ℕ) (rs qs : List Request) (ended : Bool) (middle rest : List ℕ)
    → StartsWithRequests x rs false middle → StartsWithRequests (middle ++ y) qs ended rest
    → StartsWithRequests (x ++ y) (rs ++ qs) ended rest
unfolding StartsWithRequests
leads_on x y [] qs ended middle rest first more =
    subst (λ t. StartsWithRequests (t ++ y) qs ended rest) (sym first.1) more
leads_on x y (r ∷ rs) qs ended middle rest first more =
    elim (cases_Bool (is_last_request r.head)) [
      | inl last ↦ let none = rw last at first.2 in absurd (cc none.1)
      | inr concatenated ↦
          let then = rw concatenated at first.2 in (
            first.0 ++ y,
            begins_more x y r first.0 first.1,
            rw concatenated (leads_on first.0 y rs qs ended middle rest then more),
          )
    ]

pub leads_end : (x y : List ℕ) (rs : List Request) (rest : List ℕ)
    → StartsWithRequests x rs true rest → StartsWithRequests (x ++ y) rs true (rest ++ y)
unfolding StartsWithRequests
leads_end x y [] rest first = absurd (cc first.0)
leads_end x y (r ∷ rs) rest first =
    elim (cases_Bool (is_last_request r.head)) [
      | inl last ↦
          let none = rw last at first.2 in (
            first.0 ++ y,
            begins_more x y r first.0 first.1,
            rw last (none.0, none.1, ap (λ t. t ++ y) none.2),
          )
      | inr concatenated ↦
          let then = rw concatenated at first.2 in (
            first.0 ++ y,
            begins_more x y r first.0 first.1,
            rw concatenated (leads_end first.0 y rs rest then),
          )
    ]

pub determined : RequestsAreDetermined
unfolding StartsWithRequests
determined s [] [] c d a b x y = (refl, x.0.0 ∙ sym y.0.0, sym x.0.1 ∙ y.0.1)
determined s [] (q ∷ qs) c d a b x y =
    absurd (x.1 x.0.0 q y.0.0 (subst (λ t. StartsWithRequest t q y.0.0) x.0.1 y.0.1))
determined s (r ∷ rs) [] c d a b x y =
    absurd (y.1 y.0.0 r x.0.0 (subst (λ t. StartsWithRequest t r x.0.0) y.0.1 x.0.1))
determined s (r ∷ rs) (q ∷ qs) c d a b x y =
    let same = begins_once s r q x.0.0 y.0.0 x.0.1 y.0.1 in
    let heads : r.head ≡ q.head = ap (λ (v : Request). v.head) same.0 in
    elim (cases_Bool (is_last_request r.head)) [
      | inl last ↦
          let p = rw last at x.0.2 in
          let z = rw (sym heads, last) at y.0.2 in
          (cc (same.0, p.0, z.0), p.1 ∙ sym z.1, sym p.2 ∙ same.1 ∙ z.2)
      | inr concatenated ↦
          let p = rw concatenated at x.0.2 in
          let z = rw (sym heads, concatenated, sym same.1) at y.0.2 in
          let more = determined x.0.0 rs qs c d a b (p, x.1) (z, y.1) in
          (cc (same.0, more.0), more.1, more.2)
    ]

pub prefix : LeadingRequestsArePrefix
unfolding StartsWithRequests
prefix s [] qs c d a b x y = (qs, refl)
prefix s (r ∷ rs) [] c d a b x y =
    absurd (y.1 y.0.0 r x.0 (subst (λ t. StartsWithRequest t r x.0) y.0.1 x.1))
prefix s (r ∷ rs) (q ∷ qs) c d a b x y =
    let same = begins_once s r q x.0 y.0.0 x.1 y.0.1 in
    let heads : r.head ≡ q.head = ap (λ (v : Request). v.head) same.0 in
    elim (cases_Bool (is_last_request r.head)) [
      | inl last ↦
          let p = rw last at x.2 in
          let z = rw (sym heads, last) at y.0.2 in
          ([], cc (same.0, p.0, z.0))
      | inr concatenated ↦
          let p = rw concatenated at x.2 in
          let z = rw (sym heads, concatenated, sym same.1) at y.0.2 in
          let more = prefix x.0 rs qs c d a b p (z, y.1) in
          (more.0, cc (same.0, more.1))
    ]

pub concatenated : RequestsConcatenate
concatenated x y rs qs ended middle rest first more =
    (leads_on x y rs qs ended middle rest first.0 more.0, more.1)

pub ends : EndedListIsFinal
ends x y rs rest first = (leads_end x y rs rest first.0, λ e. absurd (cc e))
