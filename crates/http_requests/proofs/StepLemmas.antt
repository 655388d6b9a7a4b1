-- One step of a session.
use Rattle.std.proofs.Common.{◌≡◌, ◌∙◌, ◌≢◌, ◌≤◌, ◌<◌, ◌+◌, ◌-◌, ◌⊎◌, ℕ, List, [], ◌∷◌, ◌++◌}
use Rattle.std.proofs.Common.{length, refl, sym, ap, subst, append_assoc, Bool, true, false, inl}
use Rattle.std.proofs.Common.{inr, arith, Some, None, take, drop, suc, zero, get_or, length-append}
use Rattle.std.proofs.lemmas.List.{append-nil, take-append-drop, take_more, take_all}
use Rattle.std.proofs.Math.Seq.{drop-append_seam, take-append_seam}
use Rattle.httparse.specs.Grammar.{RequestHead, print_request, MayBecomeRequest}
use Rattle.httparse.proofs.GrammarLemmas.{ReadsRequest-append, request_unique}
use Rattle.http_requests.specs.declared.head.Head.{Head}
use Rattle.http_requests.specs.declared.head_fault.HeadFault.{HeadFault}
use Rattle.http_requests.specs.declared.head_fault.HeadFault.TheVariants.{BadHead, HeadTooLarge}
use Rattle.http_requests.specs.declared.head_fault.HeadFault.TheVariants.{BadHost, TransferEncoding}
use Rattle.http_requests.specs.declared.head_fault.HeadFault.TheVariants.{BadLength, BodyTooLarge}
use Rattle.http_requests.specs.declared.head_fault.HeadFault.TheVariants.{ForeignHost, ForeignSite}
use Rattle.http_requests.specs.declared.head_fault.HeadFault.TheVariants.{Precondition, Busy}
use Rattle.http_requests.specs.declared.head_state.HeadState.{HeadState}
use Rattle.http_requests.specs.declared.head_state.HeadState.TheVariants.{Blank, Ended}
use Rattle.http_requests.specs.HeadEnds.{head_state_after, EndsAtLastOctet}
use Rattle.http_requests.specs.Fields.{fault_of_head, closes, body_length}
use Rattle.http_requests.specs.ParsedHeads.{head_of, IsBoundFault, IsUnreadable}
use Rattle.http_requests.specs.Requests.{Request, StartsWithRequest, StartsWithHead}
use Rattle.http_requests.specs.HandlerRuns.{HandlerRelation, FaultReplies, RepliesToRequest}
use Rattle.http_requests.specs.HandlerRuns.{RepliesGivenFault, HandlesPrefix, screened}
use Rattle.http_requests.specs.SessionFeeding.{HeadMustHaveEnded, RefusesHead, ClosesSession}
use Rattle.http_requests.specs.SessionFeeding.{HandlesSomePrefix}
use Rattle.http_requests.specs.internal.HeadScans.{Scans}
use Rattle.http_requests.specs.internal.Progress.{HoldsHead, HoldsBody, IsPartialHead}
use Rattle.http_requests.specs.internal.Progress.{IsPartialBody, IsCompleteRequest}
use Rattle.http_requests.proofs.CutLemmas.{request_of}
use Rattle.http_requests.proofs.EndLemmas.{after-append, none_at_bound}
use Rattle.http_requests.proofs.FaultLemmas.{fault_no_body, fault_last, good_last}
use Rattle.http_requests.proofs.HeadLemmas.{unreadable_never}
use Rattle.http_requests.proofs.RunLemmas.{run_none, run_one, run_answered, part_none, part_more}
use Rattle.http_requests.proofs.RunLemmas.{begins_on}

-- ---- a good head and its body

-- the octets after the head are the body
pub body_is : (held : List ℕ) (start : ℕ) (body text : List ℕ) → HoldsHead held start body
    → text ≡ held → take (length text - start) (drop start text) ≡ body
body_is held start body text has same =
    let p = print_request has.whole_head in
    let text_is : text ≡ p ++ body = same ∙ has.begins.0.1 in
    let dropped : drop start text ≡ body = ap (λ n. drop n text) has.start_is
    ∙ ap (drop (length p)) text_is ∙ drop-append_seam p body in
    let sized : length text ≡ length p + length body = ap length text_is ∙ length-append p body in
    ap (take (length text - start)) dropped
    ∙ take_all (length text - start) body (omega (arith, sized, has.start_is))

length_of_head : (head : Head) (h : RequestHead) → head ≡ head_of h → head.length ≡ body_length h
length_of_head head h text_is = ap (λ (v : Head). v.length) text_is

close_of_head : (head : Head) (h : RequestHead) → head ≡ head_of h → head.close ≡ closes h
close_of_head head h text_is = ap (λ (v : Head). v.close) text_is

pub fresh : (held : List ℕ) → held ≡ [] → IsPartialHead held Blank
fresh held none = record {
  state_is = sym (ap (head_state_after Blank) none);
  not_ended = λ e. cc e;
  short = omega (arith, ap length none);
}

-- the text of a head is what is printed of it
head_text : (text : List ℕ) (h : RequestHead) → StartsWithHead text h [] → text ≡ print_request h
head_text text h begins = begins.0.1 ∙ append-nil (print_request h)

pub found : (text : List ℕ) (start : ℕ) (h : RequestHead) → EndsAtLastOctet text
    → StartsWithHead text h [] → fault_of_head h ≡ None → start ≡ length text
    → HoldsHead text start []
found text start h ends begins good start_is = record {
  whole_head = h;
  begins = begins;
  good = good;
  ends = subst EndsAtLastOctet (head_text text h begins) ends;
  start_is = start_is ∙ ap length (head_text text h begins);
}

pub waiting : (text : List ℕ) (head : Head) (start end : ℕ) (h : RequestHead) → EndsAtLastOctet text
    → StartsWithHead text h [] → fault_of_head h ≡ None → head ≡ head_of h
    → body_length h ≤ 8388608 → start ≡ length text → end ≡ start + head.length
    → (head.length ≡ 0 → ⊥) → IsPartialBody text start end
unfolding found
waiting text head start end h ends begins good text_is small start_is end_is some = record {
  holds = record {
    body = [];
    has_head = found text start h ends begins good start_is;
    end_is = end_is ∙ ap (λ n. start + n) (length_of_head head h text_is);
    small = small;
  };
  not_whole = omega (arith, start_is, end_is, some);
}

-- ---- more of the body

has_more : (held x : List ℕ) (start : ℕ) (body : List ℕ) → HoldsHead held start body
    → HoldsHead (held ++ x) start (body ++ x)
has_more held x start body has = record {
  whole_head = has.whole_head;
  begins = begins_on held x has.whole_head body has.begins;
  good = has.good;
  ends = has.ends;
  start_is = has.start_is;
}

pub body_more : (held x : List ℕ) (start end : ℕ) → HoldsBody held start end
    → HoldsBody (held ++ x) start end
unfolding has_more
body_more held x start end wait = record {
  body = wait.body ++ x;
  has_head = has_more held x start wait.body wait.has_head;
  end_is = wait.end_is;
  small = wait.small;
}

pub waiting_more : (held x : List ℕ) (start end : ℕ) → IsPartialBody held start end
    → length (held ++ x) < end → IsPartialBody (held ++ x) start end
waiting_more held x start end wait short = record {
  holds = body_more held x start end wait.holds;
  not_whole = short;
}

-- ---- a head that is parsed again, once its body is complete

-- the head that is parsed again is the same
pub same_head : (held : List ℕ) (start end : ℕ) (is : HoldsBody held start end) (h : RequestHead)
    → StartsWithHead (take start held) h [] → h ≡ is.has_head.whole_head
same_head held start end is h begins =
    let all : held ≡ take start held ++ drop start held = sym (take-append-drop start held) in
    let reads = ReadsRequest-append (take start held) h [] (drop start held) begins.0 in
    (request_unique held h is.has_head.whole_head (drop start held) is.body
    (subst (λ t. Rattle.httparse.specs.Grammar.ReadsRequest t h (drop start held)) (sym all)
    reads) is.has_head.begins.0).0

-- the body is as long as the head says
pub body_whole : (held : List ℕ) (start end : ℕ) (is : HoldsBody held start end) → length held ≡ end
    → length is.body ≡ body_length is.has_head.whole_head
body_whole held start end is whole =
    let p = print_request is.has_head.whole_head in
    let sized : length held ≡ length p + length is.body = ap length is.has_head.begins.0.1
    ∙ length-append p is.body in
    omega (arith, sized, whole, is.end_is, is.has_head.start_is)

-- ---- what was scanned

pub scanned : (held piece : List ℕ) (state to : HeadState) (room used : ℕ)
    → IsPartialHead held state → Scans state piece room used to
    → to ≡ head_state_after Blank (held ++ take used piece)
scanned held piece state to room used text_is scan =
    scan.state_is ∙ ap (λ m. head_state_after m (take used piece)) text_is.state_is
    ∙ sym (after-append Blank held (take used piece))

pub some_used : (state to : HeadState) (piece : List ℕ) (room used : ℕ) → state ≢ Ended
    → Scans state piece room used to → to ≡ Ended → 0 < used
some_used state to piece room zero going scan ended = absurd (going (sym scan.state_is ∙ ended))
some_used state to piece room (suc k) going scan ended = omega arith

pub scan_ends : (held piece : List ℕ) (state to : HeadState) (room used : ℕ)
    → IsPartialHead held state → Scans state piece room used to → to ≡ Ended
    → EndsAtLastOctet (held ++ take used piece)
scan_ends held piece state to room used text_is scan ended =
    let some : 0 < used = some_used state to piece room used text_is.not_ended scan ended in
    let k : ℕ = used - 1 in
    let used_is : used ≡ k + 1 = omega (arith, some) in
    let more : take used piece ≡ take k piece ++ get_or piece k 0 ∷ [] =
    ap (λ i. take i piece) used_is ∙ take_more piece k 0 (omega (
      arith,
      scan.within,
      used_is,
    )) in
    record {
      front = held ++ take k piece;
      octet = get_or piece k 0;
      text_is = ap (λ t. held ++ t) more
          ∙ sym (append_assoc held (take k piece) (get_or piece k 0 ∷ []));
      ended = sym (scanned held piece state to room used text_is scan) ∙ ended;
      not_before = λ e. scan.not_before k (omega (arith, used_is))
          (ap (λ m. head_state_after m (take k piece)) text_is.state_is
          ∙ sym (after-append Blank held (take k piece)) ∙ e);
    }

pub beginning_more : (held piece : List ℕ) (state to : HeadState) (room used : ℕ)
    → IsPartialHead held state → Scans state piece room used to → to ≢ Ended
    → length (held ++ take used piece) < 16384
    → IsPartialHead (held ++ take used piece) to
beginning_more held piece state to room used text_is scan going short =
    record {
      state_is = scanned held piece state to room used text_is scan;
      not_ended = going;
      short = short;
    }

pub still_going : (held piece : List ℕ) (state to : HeadState) (room used : ℕ)
    → IsPartialHead held state → Scans state piece room used to → to ≢ Ended
    → head_state_after Blank (held ++ take used piece) ≢ Ended
still_going held piece state to room used text_is scan going e =
    going (scanned held piece state to room used text_is scan ∙ e)

-- a head that was good is no other when it is parsed again
pub again_faulty : (held : List ℕ) (start end : ℕ) (is : HoldsBody held start end) (h : RequestHead)
    (f : HeadFault) → StartsWithHead (take start held) h [] → fault_of_head h ≡ Some f → ⊥
again_faulty held start end is h f begins bad =
    let good : fault_of_head h ≡ None = ap fault_of_head (same_head held start end is h begins)
    ∙ is.has_head.good in
    cc (good, bad)

pub again_unreadable : (held : List ℕ) (start end : ℕ) (is : HoldsBody held start end)
    → IsUnreadable (take start held) → ⊥
again_unreadable held start end is over =
    let all : held ≡ take start held ++ drop start held = sym (take-append-drop start held) in
    unreadable_never (take start held) over (drop start held) is.has_head.whole_head is.body
    (subst (λ t. StartsWithHead t is.has_head.whole_head is.body) all is.has_head.begins)

module _ {S : Type 0} (does : HandlerRelation S) (reply_to : FaultReplies) where
  -- the request is a head without a body
  pub head_whole : (text : List ℕ) (head : Head) (start : ℕ) (w : S) (h : RequestHead)
      → EndsAtLastOctet text → StartsWithHead text h [] → fault_of_head h ≡ None
      → screened does w h ≡ None → head ≡ head_of h
      → start ≡ length text → head.length ≡ 0 → IsCompleteRequest does w text head start
  unfolding found
  head_whole text head start w h ends begins good admitted head_is start_is none = record {
    body = [];
    has_head = found text start h ends begins good start_is;
    head_is = head_is;
    all = sym none;
    admitted = admitted;
  }

  -- the request is whole, and its head was parsed again
  pub again_whole : (held : List ℕ) (start end : ℕ) (head : Head) (w : S) (is :
      HoldsBody held start end) → length held ≡ end → (h : RequestHead)
      → StartsWithHead (take start held) h [] → screened does w h ≡ None → head ≡ head_of h
      → IsCompleteRequest does w held head start
  again_whole held start end head w is whole h begins admitted head_is =
      let same = same_head held start end is h begins in
      let of_whole : head ≡ head_of is.has_head.whole_head = head_is ∙ ap head_of same in
      record {
        body = is.body;
        has_head = is.has_head;
        head_is = of_whole;
        all = body_whole held start end is whole
            ∙ sym (length_of_head head is.has_head.whole_head of_whole);
        admitted = subst (λ (x : RequestHead). screened does w x ≡ None) same admitted;
      }

  -- ---- a request was handled

  pub whole_run : (held : List ℕ) (head : Head) (start : ℕ) (text : List ℕ) (w : S) (whole :
      IsCompleteRequest does w held head start) → text ≡ held
      → (reply : List ℕ) (v : S) → does.step w head (take (length text - start) (drop start text))
      reply v → HandlesPrefix does reply_to held w reply v head.close []
  whole_run held head start text w whole same reply v did =
      let has = whole.has_head in
      let h = has.whole_head in
      let r : Request = request_of h whole.body in
      let at_body : does.step w head whole.body reply v =
      subst (λ b. does.step w head b reply v) (body_is held start whole.body text has same)
      did in
      let at_head : does.step w (head_of h) whole.body reply v =
      subst (λ (p : Head). does.step w p whole.body reply v) whole.head_is at_body in
      let replies : RepliesToRequest does reply_to w r reply v =
      subst (λ o. RepliesGivenFault does reply_to w r reply v o) (sym has.good) (
        whole.admitted,
        at_head,
      ) in
      let begins : StartsWithRequest held r [] = (
        subst (λ t. StartsWithHead held h t) (sym (append-nil whole.body)) has.begins,
        whole.all
            ∙ length_of_head head h whole.head_is,
      ) in
      run_one does reply_to held r [] w reply v head.close begins replies (good_last h has.good
      ∙ sym (close_of_head head h whole.head_is))

  pub run_part : (s : List ℕ) (w : S) (out : List ℕ) (v : S) (ended : Bool) (rest : List ℕ)
      → HandlesPrefix does reply_to s w out v ended rest → HandlesSomePrefix does reply_to s w v
  run_part s w out v ended rest run = record {
    replies = out;
    ended = ended;
    rest = rest;
    runs = run;
  }

  pub failed_part : (held : List ℕ) (head : Head) (start : ℕ) (text : List ℕ) (w : S) (whole :
      IsCompleteRequest does w held head start) → text ≡ held
      → (v : S) → (w ≡ v) ⊎ ((reply : List ℕ)
      × does.step w head (take (length text - start) (drop start text)) reply v)
      → HandlesSomePrefix does reply_to held w v
  failed_part held head start text w whole same v (inl none) = part_none does reply_to held w v none
  failed_part held head start text w whole same v (inr did) =
      run_part held w did.0 v head.close [] (whole_run held head start text w whole same did.0 v
      did.1)

  pub ended_stop : (s : List ℕ) (w : S) (out : List ℕ) (v : S) (last : Bool) (rest : List ℕ)
      → HandlesPrefix does reply_to s w out v last rest → last ≡ true
      → ClosesSession does reply_to s w out v
  ended_stop s w out v last rest run text_is = inl (record {
    answers = out;
    last = [];
    ended = last;
    rest = rest;
    answered = run_answered does reply_to s w out v last rest run (λ e. absurd (cc (text_is, e)));
    replies_are = sym (append-nil out);
    why = inl (text_is, refl);
  })

  pub going_run : (s : List ℕ) (w : S) (out : List ℕ) (v : S) (last : Bool) (rest held : List ℕ)
      → HandlesPrefix does reply_to s w out v last rest → last ≡ false → rest ≡ held
      → HandlesPrefix does reply_to s w out v false held
  going_run s w out v last rest held run text_is same =
      subst (λ t. HandlesPrefix does reply_to s w out v false t) same
      (subst (λ b. HandlesPrefix does reply_to s w out v b rest) text_is run)

  -- ---- a head was refused

  pub refused_stop : (s : List ℕ) (w : S) (reply : List ℕ) → RefusesHead does reply_to s reply
      → ClosesSession does reply_to s w reply w
  refused_stop s w reply refused = inl (record {
    answers = [];
    last = reply;
    ended = false;
    rest = s;
    answered = run_answered does reply_to s w [] w false s (run_none does reply_to s w)
        (λ _ request rest begins. refused.1 [] request.head (request.body ++ rest)
        (subst (λ t. StartsWithHead t request.head (request.body ++ rest)) (sym (append-nil s))
        begins.0));
    replies_are = refl;
    why = inr (refl, refused);
  })

  -- the handler refused the head
  pub screened_stop : (s : List ℕ) (w : S) (h : RequestHead) (after : List ℕ) (f : HeadFault)
      → StartsWithHead s h after → fault_of_head h ≡ None → screened does w h ≡ Some f
      → ClosesSession does reply_to s w (reply_to f) w
  screened_stop s w h after f begins good why = inr (record {
    answers = [];
    rest = s;
    head = h;
    after = after;
    fault = f;
    answered = run_none does reply_to s w;
    begins = begins;
    good = good;
    screened_for = why;
    replies_are = refl;
  })

  pub unreadable_stop : (s : List ℕ) (w : S) → HeadMustHaveEnded s → IsUnreadable s
      → ClosesSession does reply_to s w (reply_to BadHead) w
  unreadable_stop s w over bad = refused_stop s w (reply_to BadHead) (
    over,
    unreadable_never s bad,
    inl (refl, bad),
  )

  pub fault_stop : (s : List ℕ) (w : S) (h : RequestHead) (f : HeadFault) → StartsWithHead s h []
      → fault_of_head h ≡ Some f → ClosesSession does reply_to s w (reply_to f) w
  fault_stop s w h f begins text_is =
      let r : Request = request_of h [] in
      let replies : RepliesToRequest does reply_to w r (reply_to f) w =
      subst (λ o. RepliesGivenFault does reply_to w r (reply_to f) w o) (sym text_is) (
        refl,
        refl,
      ) in
      ended_stop s w (reply_to f) w true [] (run_one does reply_to s r [] w (reply_to f) w true
      (begins, sym (fault_no_body h f text_is)) replies (fault_last h f text_is)) refl

  pub bound_stop : (s : List ℕ) (w : S) (f : HeadFault) → head_state_after Blank s ≢ Ended
      → length s ≡ 16384 → IsBoundFault s f → ClosesSession does reply_to s w (reply_to f) w
  bound_stop s w BadHead going long bad = unreadable_stop s w (inr (omega (arith, long))) bad
  bound_stop s w HeadTooLarge going long may =
      refused_stop s w (reply_to HeadTooLarge) (
        inr (omega (arith, long)),
        none_at_bound s going (omega (arith, long)),
        inr (
          refl,
          (
            omega (arith, long),
            subst MayBecomeRequest (sym (take_all 16384 s (omega (arith, long)))) may,
          ),
        ),
      )
  bound_stop s w BadHost going long never = absurd never
  bound_stop s w TransferEncoding going long never = absurd never
  bound_stop s w BadLength going long never = absurd never
  bound_stop s w BodyTooLarge going long never = absurd never
  bound_stop s w ForeignHost going long never = absurd never
  bound_stop s w ForeignSite going long never = absurd never
  bound_stop s w Precondition going long never = absurd never
  bound_stop s w Busy going long never = absurd never

  -- the handler refused the head that was parsed again
  pub again_screened : (held : List ℕ) (start end : ℕ) (w : S) (is : HoldsBody held start end) (h :
      RequestHead) (f : HeadFault) → StartsWithHead (take start held) h []
      → screened does w h ≡ Some f
      → ClosesSession does reply_to held w (reply_to f) w
  again_screened held start end w is h f begins why =
      screened_stop held w is.has_head.whole_head is.body f is.has_head.begins is.has_head.good
      (subst (λ (x : RequestHead). screened does w x ≡ Some f) (same_head held start end is h
      begins) why)

  -- ---- of a piece

  pub part_piece : (held piece : List ℕ) (used : ℕ) (w v : S)
      → HandlesSomePrefix does reply_to (held ++ take used piece) w v
      → HandlesSomePrefix does reply_to (held ++ piece) w v
  part_piece held piece used w v part =
      subst (λ t. HandlesSomePrefix does reply_to t w v) (append_assoc held (take used piece)
      (drop used piece) ∙ ap (λ t. held ++ t) (take-append-drop used piece))
      (part_more does reply_to (held ++ take used piece) (drop used piece) w v part)

  pub run_none_at : (s t : List ℕ) (w : S) → t ≡ s → HandlesPrefix does reply_to s w [] w false t
  run_none_at s t w same = subst (λ u. HandlesPrefix does reply_to s w [] w false u) (sym same)
      (run_none does reply_to s w)

  pub grown_part : (held piece new : List ℕ) (used : ℕ) (w v : S) → new ≡ held ++ take used piece
      → HandlesSomePrefix does reply_to new w v → HandlesSomePrefix does reply_to (held ++ piece) w
      v
  grown_part held piece new used w v same part =
      part_piece held piece used w v (subst (λ t. HandlesSomePrefix does reply_to t w v) same part)
