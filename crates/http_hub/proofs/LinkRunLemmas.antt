-- Operations on the links of all connections, by their serial numbers, are interleaved pieces.
-- Given here: inductions over the steps of the hub, with a case for each (`links_fed`, `balance`).
-- Sessions and pending octets are compared connection by connection: at the one of the step, and at
-- any other one.
use Rattle.std.proofs.Common.{◌≡◌, ◌∙◌, ◌==◌, ◌≤◌, ℕ, zero, suc, Bool, true, false, List, [], ◌∷◌}
use Rattle.std.proofs.Common.{◌++◌, Option, Some, None, cond, refl, sym, ap, subst, length, drop}
use Rattle.std.proofs.Common.{take, slice_get, slice_set, append_assoc}
use Rattle.std.specs.List.{flat_map}
use Rattle.std.proofs.lemmas.List.{append-nil, take-append-drop}
use Rattle.std.proofs.lemmas.Bool.{eqb-true}
use Rattle.http_requests.specs.HandlerRuns.{HandlerRelation, FaultReplies}
use Rattle.http_requests.specs.SessionFeeding.{FeedsPiece, FeedsPieceInPart}
use Rattle.http_hub.specs.HubRuns.{HubStep, pending_of, refused_to, session_of, sessions_of}
use Rattle.http_hub.specs.HubRuns.{pieces_in, sent_to}
use Rattle.http_hub.specs.HubRuns.HubStep.{Opens, Receives, Fails, Refuses, Sends, Ends}
use Rattle.http_hub.specs.Links.{LinkValue, ReceivesPiece, link_after_failure, link_after_refusal}
use Rattle.http_hub.specs.Links.{link_after_sent, new_link}
use Rattle.http_hub.specs.FedPieces.{FedInTurn, FeedsOrFails, given_replies, Sessions, FedPiece}
use Rattle.http_hub.specs.FedPieces.{replies_in, replies_to, pieces_of, with_session}
use Rattle.http_hub.proofs.PlaceLemmas.{shown, shown_same}

-- ---- the links of all connections

module _ {S : Type 0} (does : HandlerRelation S) (fault_reply : FaultReplies) where
  -- the link with this serial number received a piece; no other link changed
  pub record ReceivesBySerial (serial : ℕ) (before : List LinkValue) (old : S) (piece : List ℕ)
      (now : ℕ) (new : S) (after : List LinkValue) : Type 0 where
    pub link : LinkValue
    pub next : LinkValue
    pub found : slice_get before serial ≡ Some link
    pub receives : ReceivesPiece does fault_reply link old piece now new next
    pub after_is : after ≡ slice_set before serial next

  pub record FailsBySerial (serial : ℕ) (before : List LinkValue) (old : S) (piece : List ℕ) (new :
      S) (after : List LinkValue) : Type 0 where
    pub link : LinkValue
    pub found : slice_get before serial ≡ Some link
    pub feeds_in_part : FeedsPieceInPart does fault_reply link.session old piece new
    pub after_is : after ≡ slice_set before serial (link_after_failure link)

  -- it received a piece, what it came to hold was dropped, and this reply is pending
  pub record RefusesBySerial (serial : ℕ) (before : List LinkValue) (old : S) (piece reply : List ℕ)
      (now : ℕ) (new : S) (after : List LinkValue) : Type 0 where
    pub link : LinkValue
    pub found : slice_get before serial ≡ Some link
    pub feeds_in_part : FeedsPieceInPart does fault_reply link.session old piece new
    pub none_pending : link.pending ≡ []
    pub after_is : after ≡ slice_set before serial (link_after_refusal link reply now)

pub record SendsBySerial (serial : ℕ) (before : List LinkValue) (count now : ℕ) (after :
    List LinkValue) : Type 0 where
  pub link : LinkValue
  pub found : slice_get before serial ≡ Some link
  pub count_fits : count ≤ length link.pending
  pub after_is : after ≡ slice_set before serial (link_after_sent link count now)

module _ {S : Type 0} (does : HandlerRelation S) (fault_reply : FaultReplies) where
  -- the effect of one step on the links of all connections; an ended connection keeps its link
  abbrev pub DoesLinkStep : List LinkValue → S → HubStep → S → List LinkValue → Type 0
  DoesLinkStep before old (Opens now) new after =
      (old ≡ new) × (after ≡ before ++ new_link (length before) now ∷ [])
  DoesLinkStep before old (Receives serial piece replies now) new after =
      (received : ReceivesBySerial does fault_reply serial before old piece now new after)
      × (received.receives.replies ≡ replies)
  DoesLinkStep before old (Fails serial piece) new after =
      FailsBySerial does fault_reply serial before old piece new after
  DoesLinkStep before old (Refuses serial piece reply now) new after =
      RefusesBySerial does fault_reply serial before old piece reply now new after
  DoesLinkStep before old (Sends serial octets now) new after =
      (old ≡ new) × (writes : SendsBySerial serial before (length octets) now after)
      × (octets ≡ take (length octets) writes.link.pending)
  DoesLinkStep before old (Ends serial) new after = (old ≡ new) × (before ≡ after)

  unfoldable pub LinkRuns : List LinkValue → S → List HubStep → S → List LinkValue → Type 0
  LinkRuns before old [] new after = (before ≡ after) × (old ≡ new)
  LinkRuns before old (step ∷ steps) new after =
      (between : List LinkValue) × (middle : S) × DoesLinkStep before old step middle between
      × LinkRuns between middle steps new after

new_session : (links : List LinkValue) (serial now n : ℕ)
    → session_of (slice_get (links ++ new_link serial now ∷ []) n) ≡ session_of (slice_get links n)
new_session [] serial now zero = refl
new_session [] serial now (suc n) = refl
new_session (x ∷ links) serial now zero = refl
new_session (x ∷ links) serial now (suc n) = new_session links serial now n

new_pending : (links : List LinkValue) (serial now n : ℕ)
    → pending_of (slice_get (links ++ new_link serial now ∷ []) n) ≡ pending_of (slice_get links n)
new_pending [] serial now zero = refl
new_pending [] serial now (suc n) = refl
new_pending (x ∷ links) serial now zero = refl
new_pending (x ∷ links) serial now (suc n) = new_pending links serial now n

cond_same : {X : Type 0} (b : Bool) (x y z : X) → y ≡ z → cond b x y ≡ cond b x z
cond_same true x y z e = refl
cond_same false x y z e = e

module _ {S : Type 0} (does : HandlerRelation S) (fault_reply : FaultReplies) where
  -- sessions that are the same at each place
  pub fed_from : (pieces : List FedPiece) (a b after : Sessions) (w v : S) → ((n : ℕ) → b n ≡ a n)
      → FedInTurn does fault_reply a w pieces v after
      → FedInTurn does fault_reply b w pieces v after
  unfolding FedInTurn
  fed_from [] a b after w v same fed = (fed.0, λ n. same n ∙ fed.1 n)
  fed_from (fed_piece ∷ pieces) a b after w v same (middle, between, took, fed) = (
    middle,
    between,
    subst (λ o. FeedsOrFails does fault_reply o w fed_piece.octets fed_piece.replies middle between)
        (sym (same fed_piece.connection)) took,
    fed_from pieces (with_session a fed_piece.connection between)
        (with_session b fed_piece.connection between) after middle v
        (λ n. cond_same (fed_piece.connection == n) between (b n) (a n) (same n)) fed,
  )

  pub links_fed : (steps : List HubStep) (before after : List LinkValue) (w v : S)
      → LinkRuns does fault_reply before w steps v after
      → FedInTurn does fault_reply (sessions_of before) w (pieces_in steps) v (sessions_of after)
  unfolding FedInTurn LinkRuns
  links_fed [] before after w v runs = (runs.1, λ n. ap (λ links. sessions_of links n) runs.0)
  links_fed (Opens now ∷ steps) before after w v (between, middle, (same, grown), runs) =
      let rest = links_fed steps between after middle v runs in
      subst (λ s. FedInTurn does fault_reply (sessions_of before) s (pieces_in steps) v
      (sessions_of after)) (sym same)
      (fed_from (pieces_in steps) (sessions_of between) (sessions_of before) (sessions_of after)
      middle v
      (λ n. sym (ap (λ links. sessions_of links n) grown
      ∙ new_session before (length before) now n)) rest)
  links_fed (Receives place piece replies now ∷ steps) before after w v (
    between,
    middle,
    (received, replies_are),
    runs,
  ) =
      let rest = links_fed steps between after middle v runs in
      let now_is = ap (λ l. session_of (Some l)) received.receives.after_is in
      let took : FeedsPiece does fault_reply (sessions_of before place) w piece replies middle
      received.receives.session =
      subst (λ o. FeedsPiece does fault_reply (session_of o) w piece replies middle
      received.receives.session) (sym received.found)
      (subst (λ t. FeedsPiece does fault_reply received.link.session w piece t middle
      received.receives.session) replies_are received.receives.feeds) in (
        middle,
        received.receives.session,
        took,
        fed_from (pieces_in steps) (sessions_of between) (with_session (sessions_of before) place
            received.receives.session) (sessions_of after) middle v
            (λ n. sym (ap (λ links. sessions_of links n) received.after_is
            ∙ shown session_of before place n received.next received.link (place == n) refl
            received.found
            ∙ ap (λ o. cond (place == n) o (session_of (slice_get before n))) now_is)) rest,
      )
  links_fed (Fails place piece ∷ steps) before after w v (between, middle, failed, runs) =
      let rest = links_fed steps between after middle v runs in
      let took : FeedsPieceInPart does fault_reply (sessions_of before place) w piece middle =
      subst (λ o. FeedsPieceInPart does fault_reply (session_of o) w piece middle)
      (sym failed.found) failed.feeds_in_part in (
        middle,
        None,
        (took, refl),
        fed_from (pieces_in steps) (sessions_of between) (with_session (sessions_of before) place
            None) (sessions_of after) middle v
            (λ n. sym (ap (λ links. sessions_of links n) failed.after_is
            ∙ shown session_of before place n (link_after_failure failed.link) failed.link
            (place == n) refl failed.found)) rest,
      )
  links_fed (Refuses place piece reply now ∷ steps) before after w v (
    between,
    middle,
    refused,
    runs,
  ) =
      let rest = links_fed steps between after middle v runs in
      let took : FeedsPieceInPart does fault_reply (sessions_of before place) w piece middle =
      subst (λ o. FeedsPieceInPart does fault_reply (session_of o) w piece middle)
      (sym refused.found) refused.feeds_in_part in (
        middle,
        None,
        (took, refl),
        fed_from (pieces_in steps) (sessions_of between) (with_session (sessions_of before) place
            None) (sessions_of after) middle v
            (λ n. sym (ap (λ links. sessions_of links n) refused.after_is
            ∙ shown session_of before place n (link_after_refusal refused.link reply now)
            refused.link (place == n) refl refused.found)) rest,
      )
  links_fed (Sends place octets now ∷ steps) before after w v (
    between,
    middle,
    (same, writes, are),
    runs,
  ) =
      let rest = links_fed steps between after middle v runs in
      subst (λ s. FedInTurn does fault_reply (sessions_of before) s (pieces_in steps) v
      (sessions_of after)) (sym same)
      (fed_from (pieces_in steps) (sessions_of between) (sessions_of before) (sessions_of after)
      middle v
      (λ n. sym (ap (λ links. sessions_of links n) writes.after_is
      ∙ shown_same session_of before place n (link_after_sent writes.link (length octets) now)
      writes.link (place == n) refl writes.found refl)) rest)
  links_fed (Ends place ∷ steps) before after w v (between, middle, (same, kept), runs) =
      let rest = links_fed steps between after middle v runs in
      subst (λ s. FedInTurn does fault_reply (sessions_of before) s (pieces_in steps) v
      (sessions_of after)) (sym same)
      (fed_from (pieces_in steps) (sessions_of between) (sessions_of before) (sessions_of after)
      middle v (λ n. ap (λ links. sessions_of links n) kept) rest)

  -- ---- what was sent

  replies_on : (b : Bool) (fed_piece : FedPiece) (pieces : List FedPiece) (connection : ℕ)
      (pending more : List ℕ) → (b ≡ true → pending ≡ []) → (fed_piece.connection == connection) ≡ b
      → pending ++ (replies_to connection (fed_piece ∷ pieces) ++ more)
      ≡ cond b (given_replies fed_piece.replies) pending ++ (replies_to connection pieces
      ++ more)
  replies_on true fed_piece pieces connection pending more idle e =
      subst (λ t. t ++ (replies_to connection (fed_piece ∷ pieces) ++ more)
      ≡ given_replies fed_piece.replies ++ (replies_to connection pieces ++ more))
      (sym (idle refl))
      (ap (λ c. flat_map (λ (t : List ℕ × Option (List ℕ)). given_replies t.1)
      (cond c ((fed_piece.octets, fed_piece.replies) ∷ pieces_of connection pieces)
      (pieces_of connection pieces)) ++ more) e
      ∙ append_assoc (given_replies fed_piece.replies) (replies_to connection pieces) more)
  replies_on false fed_piece pieces connection pending more idle e =
      ap (λ c. pending ++ (flat_map (λ (t : List ℕ × Option (List ℕ)). given_replies t.1)
      (cond c ((fed_piece.octets, fed_piece.replies) ∷ pieces_of connection pieces)
      (pieces_of connection pieces)) ++ more)) e

  no_replies : (b : Bool) (piece : List ℕ) (pieces : List (List ℕ × Option (List ℕ)))
      → replies_in (cond b ((piece, None) ∷ pieces) pieces) ≡ replies_in pieces
  no_replies true piece pieces = refl
  no_replies false piece pieces = refl

  -- a refusal's reply is pending in place of nothing, and no reply comes after it
  refused_on : (b : Bool) (pending replies reply more : List ℕ) → (b ≡ true → pending ≡ [])
      → (b ≡ true → replies ≡ [])
      → pending ++ (replies ++ cond b (reply ++ more) more) ≡ cond b reply pending
      ++ (replies ++ more)
  refused_on true pending replies reply more idle closed =
      subst (λ t. t ++ (replies ++ (reply ++ more)) ≡ reply ++ (replies ++ more)) (sym (idle refl))
      (subst (λ t. t ++ (reply ++ more) ≡ reply ++ (t ++ more)) (sym (closed refl)) refl)
  refused_on false pending replies reply more idle closed = refl

  none_either : (b : Bool) (session : Option (List ℕ)) → session ≡ None → cond b None session ≡ None
  none_either true session closed = refl
  none_either false session closed = closed

  -- a closed session gets no more replies
  closed_gives_none : (connection : ℕ) (steps : List HubStep) (before after : List LinkValue) (w v :
      S) → LinkRuns does fault_reply before w steps v after
      → session_of (slice_get before connection) ≡ None → replies_to connection (pieces_in steps)
      ≡ []
  unfolding LinkRuns
  closed_gives_none connection [] before after w v runs closed = refl
  closed_gives_none connection (Opens now ∷ steps) before after w v (
    between,
    middle,
    (same, grown),
    runs,
  ) closed =
      closed_gives_none connection steps between after middle v runs
      (ap (λ links. session_of (slice_get links connection)) grown
      ∙ new_session before (length before) now connection ∙ closed)
  closed_gives_none connection (Receives place piece replies now ∷ steps) before after w v (
    between,
    middle,
    (received, replies_are),
    runs,
  ) closed =
      by_place (closed_gives_none connection steps between after middle v runs)
      (place == connection) refl
    where
      given : Bool → List ℕ
      given c = replies_in (cond c ((piece, Some replies) ∷ pieces_of connection (pieces_in steps))
          (pieces_of connection (pieces_in steps)))

      by_place : (session_of (slice_get between connection) ≡ None
          → replies_to connection (pieces_in steps) ≡ []) → (b : Bool) → (place == connection) ≡ b
          → given (place == connection) ≡ []
      by_place rest true e =
          let was : received.link.session ≡ None = sym (ap session_of received.found)
          ∙ ap (λ n. session_of (slice_get before n)) (eqb-true place connection e) ∙ closed in
          let fed : FeedsPiece does fault_reply None w piece received.receives.replies middle
          received.receives.session =
          subst (λ s. FeedsPiece does fault_reply s w piece received.receives.replies middle
          received.receives.session) was received.receives.feeds in
          let next : session_of (slice_get between connection) ≡ None =
          ap (λ links. session_of (slice_get links connection)) received.after_is
          ∙ shown session_of before place connection received.next received.link true e
          received.found ∙ ap (λ (l : LinkValue). l.session) received.receives.after_is
          ∙ fed.2 in
          ap given e ∙ ap (λ t. t ++ replies_to connection (pieces_in steps)) (sym replies_are
          ∙ fed.0) ∙ rest next
      by_place rest false e =
          let next : session_of (slice_get between connection) ≡ None =
          ap (λ links. session_of (slice_get links connection)) received.after_is
          ∙ shown session_of before place connection received.next received.link false e
          received.found ∙ closed in
          ap given e ∙ rest next
  closed_gives_none connection (Fails place piece ∷ steps) before after w v (
    between,
    middle,
    failed,
    runs,
  ) closed =
      no_replies (place == connection) piece (pieces_of connection (pieces_in steps))
      ∙ closed_gives_none connection steps between after middle v runs
      (ap (λ links. session_of (slice_get links connection)) failed.after_is
      ∙ shown session_of before place connection (link_after_failure failed.link) failed.link
      (place == connection) refl failed.found
      ∙ none_either (place == connection) (session_of (slice_get before connection)) closed)
  closed_gives_none connection (Refuses place piece reply now ∷ steps) before after w v (
    between,
    middle,
    refused,
    runs,
  ) closed =
      no_replies (place == connection) piece (pieces_of connection (pieces_in steps))
      ∙ closed_gives_none connection steps between after middle v runs
      (ap (λ links. session_of (slice_get links connection)) refused.after_is
      ∙ shown session_of before place connection (link_after_refusal refused.link reply now)
      refused.link (place == connection) refl refused.found
      ∙ none_either (place == connection) (session_of (slice_get before connection)) closed)
  closed_gives_none connection (Sends place octets now ∷ steps) before after w v (
    between,
    middle,
    (same, writes, are),
    runs,
  ) closed =
      closed_gives_none connection steps between after middle v runs
      (ap (λ links. session_of (slice_get links connection)) writes.after_is
      ∙ shown_same session_of before place connection (link_after_sent writes.link (length octets)
      now) writes.link (place == connection) refl writes.found refl ∙ closed)
  closed_gives_none connection (Ends place ∷ steps) before after w v (
    between,
    middle,
    (same, kept),
    runs,
  ) closed =
      closed_gives_none connection steps between after middle v runs
      (ap (λ links. session_of (slice_get links connection)) (sym kept) ∙ closed)

  sent_on : (b : Bool) (octets old_pending rest replies written pending : List ℕ)
      → (b ≡ true → old_pending ≡ octets ++ rest) → cond b rest old_pending ++ replies ≡ written
      ++ pending
      → old_pending ++ replies ≡ cond b (octets ++ written) written ++ pending
  sent_on true octets old_pending rest replies written pending parts e =
      ap (λ t. t ++ replies) (parts refl) ∙ append_assoc octets rest replies
      ∙ ap (λ t. octets ++ t) e ∙ sym (append_assoc octets written pending)
  sent_on false octets old_pending rest replies written pending parts e = e

  pub balance : (connection : ℕ) (steps : List HubStep) (before after : List LinkValue) (w v : S)
      → LinkRuns does fault_reply before w steps v after
      → pending_of (slice_get before connection) ++ (replies_to connection (pieces_in steps)
      ++ refused_to connection steps) ≡ sent_to connection steps
      ++ pending_of (slice_get after connection)
  unfolding LinkRuns
  balance connection [] before after w v runs =
      append-nil (pending_of (slice_get before connection))
      ∙ ap (λ links. pending_of (slice_get links connection)) runs.0
  balance connection (Opens now ∷ steps) before after w v (between, middle, (same, grown), runs) =
      ap (λ t. t ++ (replies_to connection (pieces_in steps) ++ refused_to connection steps))
      (sym (ap (λ links. pending_of (slice_get links connection)) grown
      ∙ new_pending before (length before) now connection))
      ∙ balance connection steps between after middle v runs
  balance connection (Receives place piece replies now ∷ steps) before after w v (
    between,
    middle,
    (received, replies_are),
    runs,
  ) =
      let fed_piece : FedPiece = record {
        connection = place;
        octets = piece;
        replies = Some replies;
      } in
      let pending_now : pending_of (slice_get between connection) ≡ cond (place == connection)
      replies (pending_of (slice_get before connection)) =
      ap (λ links. pending_of (slice_get links connection)) received.after_is
      ∙ shown pending_of before place connection received.next received.link
      (place == connection) refl received.found
      ∙ ap (λ o. cond (place == connection) o (pending_of (slice_get before connection)))
      (ap (λ (l : LinkValue). l.pending) received.receives.after_is ∙ replies_are) in
      replies_on (place == connection) fed_piece (pieces_in steps) connection
      (pending_of (slice_get before connection)) (refused_to connection steps)
      (λ e. ap (λ m. pending_of (slice_get before m)) (sym (eqb-true place connection e))
      ∙ ap pending_of received.found ∙ received.receives.none_pending) refl
      ∙ ap (λ t. t ++ (replies_to connection (pieces_in steps) ++ refused_to connection steps))
      (sym pending_now)
      ∙ balance connection steps between after middle v runs
  balance connection (Fails place piece ∷ steps) before after w v (between, middle, failed, runs) =
      ap (λ t. t ++ (replies_to connection (pieces_in (Fails place piece ∷ steps))
      ++ refused_to connection steps))
      (sym (ap (λ links. pending_of (slice_get links connection)) failed.after_is
      ∙ shown_same pending_of before place connection (link_after_failure failed.link) failed.link
      (place == connection) refl failed.found refl))
      ∙ ap (λ t. pending_of (slice_get between connection) ++ (t ++ refused_to connection steps))
      (no_replies (place == connection) piece (pieces_of connection (pieces_in steps)))
      ∙ balance connection steps between after middle v runs
  balance connection (Refuses place piece reply now ∷ steps) before after w v (
    between,
    middle,
    refused,
    runs,
  ) =
      let more : List ℕ = refused_to connection steps in
      let pending : List ℕ = pending_of (slice_get before connection) in
      let pending_now : pending_of (slice_get between connection) ≡ cond (place == connection) reply
      pending =
      ap (λ links. pending_of (slice_get links connection)) refused.after_is
      ∙ shown pending_of before place connection (link_after_refusal refused.link reply now)
      refused.link (place == connection) refl refused.found in
      ap (λ t. pending ++ (t ++ cond (place == connection) (reply ++ more) more))
      (no_replies (place == connection) piece (pieces_of connection (pieces_in steps)))
      ∙ refused_on (place == connection) pending (replies_to connection (pieces_in steps)) reply
      more
      (λ e. ap (λ m. pending_of (slice_get before m)) (sym (eqb-true place connection e))
      ∙ ap pending_of refused.found ∙ refused.none_pending)
      (λ e. closed_gives_none connection steps between after middle v runs
      (ap (λ links. session_of (slice_get links connection)) refused.after_is
      ∙ shown session_of before place connection (link_after_refusal refused.link reply now)
      refused.link true e refused.found))
      ∙ ap (λ t. t ++ (replies_to connection (pieces_in steps) ++ more)) (sym pending_now)
      ∙ balance connection steps between after middle v runs
  balance connection (Sends place octets now ∷ steps) before after w v (
    between,
    middle,
    (same, writes, are),
    runs,
  ) =
      let rest : List ℕ = drop (length octets) writes.link.pending in
      let replies : List ℕ = replies_to connection (pieces_in steps) ++ refused_to connection
      steps in
      let pending_now : pending_of (slice_get between connection) ≡ cond (place == connection) rest
      (pending_of (slice_get before connection)) =
      ap (λ links. pending_of (slice_get links connection)) writes.after_is
      ∙ shown pending_of before place connection (link_after_sent writes.link (length octets) now)
      writes.link (place == connection) refl writes.found in
      sent_on (place == connection) octets (pending_of (slice_get before connection)) rest replies
      (sent_to connection steps) (pending_of (slice_get after connection))
      (λ e. ap (λ m. pending_of (slice_get before m)) (sym (eqb-true place connection e))
      ∙ ap pending_of writes.found
      ∙ sym (take-append-drop (length octets) writes.link.pending) ∙ ap (λ t. t ++ rest) (sym are))
      (ap (λ t. t ++ replies) (sym pending_now) ∙ balance connection steps between after middle v
      runs)
  balance connection (Ends place ∷ steps) before after w v (between, middle, (same, kept), runs) =
      ap (λ links. pending_of (slice_get links connection)
      ++ (replies_to connection (pieces_in steps) ++ refused_to connection steps)) kept
      ∙ balance connection steps between after middle v runs
