-- A head has two line feeds at least, so a piece completes few requests.
use Rattle.std.proofs.Common.{◌≡◌, ◌∙◌, ◌≤◌, ◌+◌, ◌*◌, ◌==◌, ℕ, Bool, true, false, List, [], ◌∷◌}
use Rattle.std.proofs.Common.{◌++◌, cond, nat_eq, length, refl, sym, ap, append_assoc, arith, inl}
use Rattle.std.proofs.Common.{inr}
use Rattle.std.proofs.lemmas.Bool.{cases_Bool, cases_lt}
use Rattle.std.proofs.lemmas.List.{append_cancel_left}
use Rattle.std.proofs.lemmas.List.Sums.{sum_by-append, sum_by-cons}
use Rattle.base_types.specs.Octets.{line_feed}
use Rattle.httparse.specs.Grammar.{IsRequestHead, RequestHead, print_request}
use Rattle.http_requests.specs.Fields.{is_last_request}
use Rattle.http_requests.specs.HeadEnds.{head_state_after, next}
use Rattle.http_requests.specs.Requests.{HasNoRequest, Request, StartsWithRequest}
use Rattle.http_requests.specs.Requests.{StartsWithRequests}
use Rattle.http_requests.specs.declared.head_state.HeadState.{HeadState}
use Rattle.http_requests.specs.declared.head_state.HeadState.TheVariants.{Blank, InLine, LineStart}
use Rattle.http_requests.specs.declared.head_state.HeadState.TheVariants.{Return, Ended}
use Rattle.http_requests.proofs.EndLemmas.{head_ends, longer_front}
use Rattle.http_hub.specs.PieceRequests.{PiecesCompleteFewRequests, line_feed_count}

-- ---- line feeds

abbrev one_if_feed : ℕ → ℕ
one_if_feed octet = cond (octet == line_feed) 1 0

feeds_append : (a b : List ℕ) → line_feed_count (a ++ b) ≡ line_feed_count a + line_feed_count b
feeds_append a b = sum_by-append one_if_feed a b

feeds_cons : (octet : ℕ) (octets : List ℕ) → line_feed_count (octet ∷ octets) ≡ one_if_feed octet +
    line_feed_count octets
feeds_cons octet octets = sum_by-cons one_if_feed octet octets

-- the line feeds that a head has to have yet, at least
abbrev feeds_left : HeadState → ℕ
feeds_left Blank = 2
feeds_left InLine = 2
feeds_left LineStart = 1
feeds_left Return = 1
feeds_left Ended = 0

left_after_one : (state : HeadState) (octet : ℕ) (feed return : Bool) → nat_eq octet 10 ≡ feed
    → nat_eq octet 13 ≡ return
    → feeds_left state ≤ feeds_left (next state octet) + cond (nat_eq octet 10) 1 0
left_after_one Blank octet true return e f = rw e (omega arith)
left_after_one Blank octet false true e f = rw (e, f) (omega arith)
left_after_one Blank octet false false e f = rw (e, f) (omega arith)
left_after_one InLine octet true return e f = rw e (omega arith)
left_after_one InLine octet false return e f = rw e (omega arith)
left_after_one LineStart octet true return e f = rw e (omega arith)
left_after_one LineStart octet false true e f = rw (e, f) (omega arith)
left_after_one LineStart octet false false e f = rw (e, f) (omega arith)
left_after_one Return octet true return e f = rw e (omega arith)
left_after_one Return octet false return e f = rw e (omega arith)
left_after_one Ended octet feed return e f = omega arith

left_after : (octets : List ℕ) (state : HeadState)
    → feeds_left state ≤ feeds_left (head_state_after state octets) + line_feed_count octets
left_after [] state = omega arith
left_after (octet ∷ octets) state =
    let first = left_after_one state octet (nat_eq octet 10) (nat_eq octet 13) refl refl in
    let rest = left_after octets (next state octet) in
    omega (arith, first, rest, feeds_cons octet octets)

-- ---- a head and a request have two

head_feeds : (head : RequestHead) → IsRequestHead head → 2 ≤ line_feed_count (print_request head)
head_feeds head is =
    let left : 2 ≤ feeds_left (head_state_after Blank (print_request head)) + line_feed_count
    (print_request head) = left_after (print_request head) Blank in
    let none_left : feeds_left (head_state_after Blank (print_request head)) ≡ 0 =
    ap feeds_left (head_ends head is).ended in
    omega (arith, left, none_left)

request_feeds : (octets : List ℕ) (request : Request) (rest : List ℕ)
    → StartsWithRequest octets request rest → line_feed_count rest + 2 ≤ line_feed_count octets
request_feeds octets request rest starts =
    let head = print_request request.head in
    let own : 2 ≤ line_feed_count head = head_feeds request.head starts.0.0.0 in
    let all : line_feed_count octets ≡ line_feed_count head + line_feed_count (request.body
    ++ rest) = ap line_feed_count starts.0.0.1 ∙ feeds_append head (request.body ++ rest) in
    omega (arith, own, all, feeds_append request.body rest)

requests_feeds : (requests : List Request) (octets : List ℕ) (ended : Bool) (rest : List ℕ)
    → StartsWithRequests octets requests ended rest → 2 * length requests ≤ line_feed_count octets
unfolding StartsWithRequests
requests_feeds [] octets ended rest starts = omega arith
requests_feeds (request ∷ requests) octets ended rest (middle, first, more) =
    let own : line_feed_count middle + 2 ≤ line_feed_count octets =
    request_feeds octets request middle first in
    elim (cases_Bool (is_last_request request.head)) [
      | inl last ↦
          let nothing = rw last at more in
          let empty : length requests ≡ 0 = ap length nothing.0 in
          omega (arith, own, empty)
      | inr goes_on ↦
          let others : 2 * length requests ≤ line_feed_count middle =
          requests_feeds requests middle ended rest (rw goes_on at more) in
          omega (arith, own, others)
    ]

-- ---- a piece

-- the first request ends within the piece, so the octets after it are of the piece
rest_in_piece : (held piece : List ℕ) (request : Request) (rest : List ℕ) → HasNoRequest held
    → StartsWithRequest (held ++ piece) request rest
    → line_feed_count rest ≤ line_feed_count piece
rest_in_piece held piece request rest none starts =
    let head = print_request request.head in
    let used : List ℕ = head ++ request.body in
    let joined : held ++ piece ≡ used ++ rest = starts.0.0.1
    ∙ sym (append_assoc head request.body rest) in
    elim (cases_lt (length used) (length held)) [
      | inl shorter ↦
          let more = longer_front used held rest piece (sym joined) (omega (arith, shorter)) in
          let held_is : held ≡ head ++ (request.body ++ more.0) =
          more.1 ∙ append_assoc head request.body more.0 in
          absurd (none request more.0 (((starts.0.0.0, held_is), starts.0.1, starts.0.2), starts.1))
      | inr longer ↦
          let more = longer_front held used piece rest joined longer in
          let piece_is : piece ≡ more.0 ++ rest =
          append_cancel_left held piece (more.0 ++ rest) (joined
          ∙ ap (λ (t : List ℕ). t ++ rest) more.1 ∙ append_assoc held more.0 rest) in
          let all : line_feed_count piece ≡ line_feed_count more.0 + line_feed_count rest =
          ap line_feed_count piece_is ∙ feeds_append more.0 rest in
          omega (arith, all)
    ]

pub pieces_complete_few : PiecesCompleteFewRequests
unfolding StartsWithRequests
pieces_complete_few held piece [] ended rest none starts = omega arith
pieces_complete_few held piece (request ∷ requests) ended rest none (middle, first, more) =
    let within : line_feed_count middle ≤ line_feed_count piece =
    rest_in_piece held piece request middle none first in
    elim (cases_Bool (is_last_request request.head)) [
      | inl last ↦
          let nothing = rw last at more in
          let empty : length requests ≡ 0 = ap length nothing.0 in
          omega (arith, empty)
      | inr goes_on ↦
          let others : 2 * length requests ≤ line_feed_count middle =
          requests_feeds requests middle ended rest (rw goes_on at more) in
          omega (arith, within, others)
    ]
