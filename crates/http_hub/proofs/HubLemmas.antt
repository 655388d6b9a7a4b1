-- A hub's operations are operations on the links of all connections.
use Rattle.std.proofs.Common.{◌≡◌, ◌∙◌, ◌==◌, ◌≤◌, ◌<◌, ℕ, zero, suc, Bool, true, false, List, []}
use Rattle.std.proofs.Common.{◌∷◌, ◌++◌, Option, Some, None, refl, sym, ap, subst, length}
use Rattle.std.proofs.Common.{slice_get, slice_set, replicate, arith, length-append, count_by}
use Rattle.std.proofs.Common.{is_some}
use Rattle.std.proofs.lemmas.Bool.{eqb-true}
use Rattle.std.proofs.lemmas.List.{length-replicate, set-set}
use Rattle.std.proofs.lemmas.List.Sums.{count_by-le-length}
use Rattle.http_requests.specs.HandlerRuns.{HandlerRelation, FaultReplies}
use Rattle.http_requests.proofs.PartLemmas.{part_of_piece}
use Rattle.http_hub.specs.FedPieces.{new_sessions}
use Rattle.http_hub.specs.HubRuns.{AreAllLinks, DoesStep, HubRuns, HubsSeparateConnections, HubStep}
use Rattle.http_hub.specs.HubRuns.{RefusesPieceAt, pieces_in, sessions_of}
use Rattle.http_hub.specs.HubRuns.HubStep.{Opens, Receives, Fails, Refuses, Sends, Ends}
use Rattle.http_hub.specs.Hubs.{HubValue, IsAt, new_hub, with_link, with_slot}
use Rattle.http_hub.specs.Links.{LinkValue, link_after_failure, link_after_refusal, link_after_sent}
use Rattle.http_hub.specs.Links.{ReceivesPiece, new_link}
use Rattle.http_hub.proofs.FedPieceLemmas.{one_run}
use Rattle.http_hub.proofs.LinkRunLemmas.{DoesLinkStep, LinkRuns, balance, fed_from, links_fed}
use Rattle.http_hub.proofs.PlaceLemmas.{apart_of, found_within, get_at_end, get_before_end}
use Rattle.http_hub.proofs.PlaceLemmas.{set_length, set_other, set_same}

-- ---- the links of all connections after each operation

none_at : (limit place : ℕ) (link : LinkValue) → slice_get (replicate limit None) place
    ≡ Some (Some link) → ⊥
none_at zero place link e = cc e
none_at (suc limit) zero link e = cc e
none_at (suc limit) (suc place) link e = none_at limit place link e

all_new : (limit : ℕ) → AreAllLinks (new_hub limit) []
all_new limit = record {
  all = refl;
  are_open = λ place link at. absurd (none_at limit place link at);
  are_apart = λ place other link another at other_at same. absurd (none_at limit place link at);
}

-- what a place has after a write at some place
pub data Written (slots : List (Option LinkValue)) (place n : ℕ) (changed :
    Option LinkValue) (link : LinkValue) : Type 0 where
  At_place : place ≡ n → changed ≡ Some link → Written slots place n changed link
  At_other : (place ≡ n → ⊥) → slice_get slots n ≡ Some (Some link)
      → Written slots place n changed link

written : (slots : List (Option LinkValue)) (place n : ℕ) (old changed : Option LinkValue) (link :
    LinkValue) (b : Bool) → (place == n) ≡ b → slice_get slots place ≡ Some old
    → slice_get (slice_set slots place changed) n ≡ Some (Some link)
    → Written slots place n changed link
written slots place n old changed link true e found at =
    let same : place ≡ n = eqb-true place n e in
    let here : slice_get (slice_set slots place changed) place ≡ Some changed =
    set_same slots place changed old found in
    let there : slice_get (slice_set slots place changed) place ≡ Some (Some link) =
    ap (λ m. slice_get (slice_set slots place changed) m) same ∙ at in
    At_place same (cc (here, there))
written slots place n old changed link false e found at =
    let apart : place ≡ n → ⊥ = apart_of place n e in
    At_other apart (sym (set_other slots place n changed apart) ∙ at)

module _ (hub : HubValue) (links : List LinkValue) (is : AreAllLinks hub links) where
  -- ---- a changed link

  module _ (place : ℕ) (link next : LinkValue) (found : IsAt hub place link)
      (kept : next.serial ≡ link.serial) where
    open_changed : (n : ℕ) (one : LinkValue)
        → Written hub.slots place n (Some next) one
        → slice_get (slice_set links link.serial next) one.serial ≡ Some one
    open_changed n one (At_place same is_it) =
        let one_is : next ≡ one = cc is_it in
        let here : slice_get (slice_set links link.serial next) next.serial ≡ Some next =
        subst (λ n. slice_get (slice_set links link.serial next) n ≡ Some next) (sym kept)
        (set_same links link.serial next link (is.are_open place link found)) in
        subst (λ (l : LinkValue). slice_get (slice_set links link.serial next) l.serial ≡ Some l)
        one_is here
    open_changed n one (At_other apart at) =
        set_other links link.serial one.serial next
        (λ e. apart (is.are_apart place n link one found at e)) ∙ is.are_open n one at

    -- the connection that the place had before
    before_changed : (n : ℕ) (one : LinkValue)
        → Written hub.slots place n (Some next) one
        → (old : LinkValue) × IsAt hub n old × (old.serial ≡ one.serial)
    before_changed n one (At_place same is_it) =
        let one_is : next ≡ one = cc is_it in (
          link,
          subst (λ m. slice_get hub.slots m ≡ Some (Some link)) same found,
          sym kept ∙ ap (λ (l : LinkValue). l.serial) one_is,
        )
    before_changed n one (At_other apart at) = (one, at, refl)

    pub all_changed : AreAllLinks (with_link hub place next) (slice_set links link.serial next)
    all_changed = record {
      all = set_length links link.serial next ∙ is.all;
      are_open = λ n one at. open_changed n one (written hub.slots place n (Some link) (Some next)
          one (place == n) refl found at);
      are_apart = λ n m one two at_one at_two same.
          let first = before_changed n one (written hub.slots place n (Some link) (Some next) one
          (place == n) refl found at_one) in
          let second = before_changed m two (written hub.slots place m (Some link) (Some next) two
          (place == m) refl found at_two) in
          is.are_apart n m first.0 second.0 first.1 second.1 (first.2 ∙ same ∙ sym second.2);
    }

  -- ---- a new link

  module _ (place now : ℕ) (free : slice_get hub.slots place ≡ Some None) where
    open_opened : (n : ℕ) (one : LinkValue)
        → Written hub.slots place n (Some (new_link hub.opened now)) one
        → slice_get (links ++ new_link hub.opened now ∷ []) one.serial ≡ Some one
    open_opened n one (At_place same is_it) =
        let opened : LinkValue = new_link hub.opened now in
        let one_is : opened ≡ one = cc is_it in
        subst (λ (l : LinkValue). slice_get (links ++ opened ∷ []) l.serial ≡ Some l) one_is
        (subst (λ k. slice_get (links ++ opened ∷ []) k ≡ Some opened) is.all
        (get_at_end links opened))
    open_opened n one (At_other apart at) =
        get_before_end links (new_link hub.opened now) one one.serial (is.are_open n one at)

    -- an older connection has a smaller serial number
    no_other : (n : ℕ) (one two : LinkValue)
        → Some (Some (new_link hub.opened now)) ≡ Some (Some one)
        → IsAt hub n two → one.serial ≡ two.serial → ⊥
    no_other n one two is_it at same =
        let opened : LinkValue = new_link hub.opened now in
        let one_is : opened ≡ one = cc is_it in
        let serial_is : hub.opened ≡ one.serial = ap (λ (l : LinkValue). l.serial) one_is in
        let within : two.serial < length links =
        found_within links two.serial two (is.are_open n two at) in
        let all : length links ≡ hub.opened = is.all in
        omega (arith, within, all, serial_is, same)

    apart_opened : (n m : ℕ) (one two : LinkValue)
        → Written hub.slots place n (Some (new_link hub.opened now)) one
        → Written hub.slots place m (Some (new_link hub.opened now)) two
        → one.serial ≡ two.serial → n ≡ m
    apart_opened n m one two (At_place same is_it) (At_place other_same other_is) serials =
        sym same ∙ other_same
    apart_opened n m one two (At_place same is_it) (At_other apart at) serials =
        absurd (no_other m one two (ap Some is_it) at serials)
    apart_opened n m one two (At_other apart at) (At_place same is_it) serials =
        absurd (no_other n two one (ap Some is_it) at (sym serials))
    apart_opened n m one two (At_other apart at) (At_other other_apart other_at) serials =
        is.are_apart n m one two at other_at serials

    pub all_opened : AreAllLinks (record {
      slots = slice_set hub.slots place (Some (new_link hub.opened now));
      opened = suc hub.opened;
    })
        (links ++ new_link hub.opened now ∷ [])
    all_opened =
        let opened : LinkValue = new_link hub.opened now in
        record {
          all = let all : length links ≡ hub.opened = is.all in
              omega (arith, length-append links (new_link hub.opened now ∷ []), all);
          are_open = λ n one at. open_opened n one (written hub.slots place n None (Some opened) one
              (place == n) refl free at);
          are_apart = λ n m one two at_one at_two same.
              apart_opened n m one two (written hub.slots place n None (Some opened) one
              (place == n) refl free at_one)
              (written hub.slots place m None (Some opened) two (place == m) refl free at_two) same;
        }

  -- ---- a link that is ended

  module _ (place : ℕ) (link : LinkValue) (found : IsAt hub place link) where
    before_ended : (n : ℕ) (one : LinkValue) → Written hub.slots place n None one → IsAt hub n one
    before_ended n one (At_place same is_it) = cc is_it
    before_ended n one (At_other apart at) = at

    pub all_ended : AreAllLinks (with_slot hub place None) links
    all_ended = record {
      all = is.all;
      are_open = λ n one at. is.are_open n one
          (before_ended n one (written hub.slots place n (Some link) None one (place == n) refl
          found at));
      are_apart = λ n m one two at_one at_two same.
          is.are_apart n m one two (before_ended n one (written hub.slots place n (Some link) None
          one (place == n) refl found at_one))
          (before_ended m two (written hub.slots place m (Some link) None two (place == m) refl
          found at_two)) same;
    }

-- a connection that was changed and then refused was refused
refused_link : (before full after : HubValue) (place : ℕ) (link next other : LinkValue) (reply :
    List ℕ) (now : ℕ) → IsAt before place link → full ≡ with_link before place next
    → next.serial ≡ link.serial → IsAt full place other
    → after ≡ with_link full place (link_after_refusal other reply now)
    → after ≡ with_link before place (link_after_refusal link reply now)
refused_link before full after place link next other reply now found full_is kept at after_is =
    let last : LinkValue = link_after_refusal link reply now in
    let here : slice_get full.slots place ≡ Some (Some next) =
    ap (λ (h : HubValue). slice_get h.slots place) full_is
    ∙ set_same before.slots place (Some next) (Some link) found in
    let is : other ≡ next = cc (at, here) in
    let serials : other.serial ≡ link.serial = ap (λ (l : LinkValue). l.serial) is ∙ kept in
    let refused : link_after_refusal other reply now ≡ last =
    ap (λ n. link_after_refusal (new_link n now) reply now) serials in
    let hub_with : List (Option LinkValue) → HubValue = λ slots. record {
      slots = slots;
      opened = before.opened;
    } in
    after_is ∙ ap (λ (l : LinkValue). with_link full place l) refused
    ∙ ap (λ (h : HubValue). with_link h place last) full_is
    ∙ ap hub_with (set-set before.slots place (Some next) (Some last))

module _ {S : Type 0} (does : HandlerRelation S) (fault_reply : FaultReplies) where
  -- a piece doesn't change the serial number
  pub kept_by_piece : (before : LinkValue) (old : S) (piece : List ℕ) (now : ℕ) (new : S) (after :
      LinkValue) → ReceivesPiece does fault_reply before old piece now new after
      → after.serial ≡ before.serial
  kept_by_piece before old piece now new after received =
      ap (λ (l : LinkValue). l.serial) received.after_is

  -- a piece was fed, and what the connection came to hold was dropped
  pub refused_piece : (place : ℕ) (before : HubValue) (old : S) (piece reply : List ℕ) (now : ℕ)
      (new : S) (after : HubValue)
      (refused : RefusesPieceAt does fault_reply place before old piece reply now new after)
      → after ≡ with_link before place (link_after_refusal refused.received.link reply now)
  refused_piece place before old piece reply now new after refused =
      let received = refused.received in
      let last = refused.refused in
      refused_link before refused.full after place received.link received.next last.link reply now
      received.found received.after_is
      (kept_by_piece received.link old piece now new received.next received.receives) last.found
      last.after_is

  -- ---- operations are operations on all links

  step_on_links : (step : HubStep) (before after : HubValue) (links : List LinkValue) (w v : S)
      → AreAllLinks before links → DoesStep does fault_reply before w step v after
      → (next : List LinkValue) × DoesLinkStep does fault_reply links w step v next
      × AreAllLinks after next
  step_on_links (Opens now) before after links w v is (same, place, opens) = (
    links ++ new_link before.opened now ∷ [],
    (same, ap (λ n. links ++ new_link n now ∷ []) (sym is.all)),
    subst (λ h. AreAllLinks h (links ++ new_link before.opened now ∷ [])) (sym opens.after_is)
        (all_opened before links is place now opens.was_free),
  )
  step_on_links (Receives serial piece replies now) before after links w v is (
    place,
    received,
    serial_is,
    replies_are,
  ) =
      let link_at : slice_get links serial ≡ Some received.link =
      subst (λ n. slice_get links n ≡ Some received.link) serial_is
      (is.are_open place received.link received.found) in
      let all : AreAllLinks after (slice_set links received.link.serial received.next) =
      subst (λ h. AreAllLinks h (slice_set links received.link.serial received.next))
      (sym received.after_is) (all_changed before links is place received.link received.next
      received.found (kept_by_piece received.link w piece now v received.next received.receives))
      in (
        slice_set links serial received.next,
        (
          record {
            link = received.link;
            next = received.next;
            found = link_at;
            receives = received.receives;
            after_is = refl;
          },
          replies_are,
        ),
        subst (λ n. AreAllLinks after (slice_set links n received.next)) serial_is all,
      )
  step_on_links (Fails serial piece) before after links w v is (place, failed, serial_is) =
      let link_at : slice_get links serial ≡ Some failed.link =
      subst (λ n. slice_get links n ≡ Some failed.link) serial_is
      (is.are_open place failed.link failed.found) in
      let all : AreAllLinks after (slice_set links failed.link.serial
      (link_after_failure failed.link)) =
      subst (λ h. AreAllLinks h (slice_set links failed.link.serial
      (link_after_failure failed.link))) (sym failed.after_is)
      (all_changed before links is place failed.link (link_after_failure failed.link)
      failed.found refl) in (
        slice_set links serial (link_after_failure failed.link),
        record {
          link = failed.link;
          found = link_at;
          feeds_in_part = failed.feeds_in_part;
          after_is = refl;
        },
        subst (λ n. AreAllLinks after (slice_set links n (link_after_failure failed.link)))
            serial_is all,
      )
  step_on_links (Refuses serial piece reply now) before after links w v is (
    place,
    refused,
    serial_is,
  ) =
      let received = refused.received in
      let last : LinkValue = link_after_refusal received.link reply now in
      let link_at : slice_get links serial ≡ Some received.link =
      subst (λ n. slice_get links n ≡ Some received.link) serial_is
      (is.are_open place received.link received.found) in
      let after_is : after ≡ with_link before place last =
      refused_piece place before w piece reply now v after refused in
      let all : AreAllLinks after (slice_set links received.link.serial last) =
      subst (λ h. AreAllLinks h (slice_set links received.link.serial last)) (sym after_is)
      (all_changed before links is place received.link last received.found refl) in
      let part = part_of_piece does fault_reply received.link.session w v piece
      received.receives.replies received.receives.session received.receives.feeds in (
        slice_set links serial last,
        record {
          link = received.link;
          found = link_at;
          feeds_in_part = part;
          none_pending = received.receives.none_pending;
          after_is = refl;
        },
        subst (λ n. AreAllLinks after (slice_set links n last)) serial_is all,
      )
  step_on_links (Sends serial octets now) before after links w v is (
    same,
    place,
    sends,
    serial_is,
    are,
  ) =
      let link_at : slice_get links serial ≡ Some sends.link =
      subst (λ n. slice_get links n ≡ Some sends.link) serial_is
      (is.are_open place sends.link sends.found) in
      let next : LinkValue = link_after_sent sends.link (length octets) now in
      let all : AreAllLinks after (slice_set links sends.link.serial next) =
      subst (λ h. AreAllLinks h (slice_set links sends.link.serial next)) (sym sends.after_is)
      (all_changed before links is place sends.link next sends.found refl) in (
        slice_set links serial next,
        (
          same,
          record {
            link = sends.link;
            found = link_at;
            count_fits = sends.count_fits;
            after_is = refl;
          },
          are,
        ),
        subst (λ n. AreAllLinks after (slice_set links n next)) serial_is all,
      )
  step_on_links (Ends serial) before after links w v is (same, place, ends, serial_is) = (
    links,
    (same, refl),
    subst (λ h. AreAllLinks h links) (sym ends.after_is)
        (all_ended before links is place ends.link ends.found),
  )

  runs_on_links : (steps : List HubStep) (before after : HubValue) (links : List LinkValue) (w v :
      S) → AreAllLinks before links → HubRuns does fault_reply before w steps v after
      → (next : List LinkValue) × LinkRuns does fault_reply links w steps v next
      × AreAllLinks after next
  unfolding HubRuns LinkRuns
  runs_on_links [] before after links w v is runs =
      (links, (refl, runs.1), subst (λ h. AreAllLinks h links) runs.0 is)
  runs_on_links (step ∷ steps) before after links w v is (between, middle, done, runs) =
      let first = step_on_links step before between links w middle is done in
      let rest = runs_on_links steps between after first.0 middle v first.2 runs in
      (rest.0, (first.0, middle, first.1, rest.1), rest.2)

  step_keeps_places : (step : HubStep) (before after : HubValue) (w v : S)
      → DoesStep does fault_reply before w step v after → length after.slots ≡ length before.slots
  step_keeps_places (Opens now) before after w v (same, place, opens) =
      ap (λ (h : HubValue). length h.slots) opens.after_is
      ∙ set_length before.slots place (Some (new_link before.opened now))
  step_keeps_places (Receives serial piece replies now) before after w v (
    place,
    received,
    serial_is,
    replies_are,
  ) =
      ap (λ (h : HubValue). length h.slots) received.after_is
      ∙ set_length before.slots place (Some received.next)
  step_keeps_places (Fails serial piece) before after w v (place, failed, serial_is) =
      ap (λ (h : HubValue). length h.slots) failed.after_is
      ∙ set_length before.slots place (Some (link_after_failure failed.link))
  step_keeps_places (Refuses serial piece reply now) before after w v (place, refused, serial_is) =
      ap (λ (h : HubValue). length h.slots) refused.refused.after_is
      ∙ set_length refused.full.slots place
      (Some (link_after_refusal refused.refused.link reply now))
      ∙ ap (λ (h : HubValue). length h.slots) refused.received.after_is
      ∙ set_length before.slots place (Some refused.received.next)
  step_keeps_places (Sends serial octets now) before after w v (
    same,
    place,
    sends,
    serial_is,
    are,
  ) =
      ap (λ (h : HubValue). length h.slots) sends.after_is
      ∙ set_length before.slots place (Some (link_after_sent sends.link (length octets) now))
  step_keeps_places (Ends serial) before after w v (same, place, ends, serial_is) =
      ap (λ (h : HubValue). length h.slots) ends.after_is ∙ set_length before.slots place None

  runs_keep_places : (steps : List HubStep) (before after : HubValue) (w v : S)
      → HubRuns does fault_reply before w steps v after → length after.slots ≡ length before.slots
  unfolding HubRuns
  runs_keep_places [] before after w v runs = ap (λ (h : HubValue). length h.slots) (sym runs.0)
  runs_keep_places (step ∷ steps) before after w v (between, middle, done, runs) =
      runs_keep_places steps between after middle v runs
      ∙ step_keeps_places step before between w middle done

  pub hubs_separate_connections : HubsSeparateConnections does fault_reply
  hubs_separate_connections keeps limit old new steps after runs =
      let all = runs_on_links steps (new_hub limit) after [] old new (all_new limit) runs in
      let places : length after.slots ≡ limit =
      runs_keep_places steps (new_hub limit) after old new runs ∙ length-replicate limit None in
      record {
        links = all.0;
        are_all = all.2;
        one_run = one_run does fault_reply keeps old new (pieces_in steps) (sessions_of all.0)
            (fed_from does fault_reply (pieces_in steps) (sessions_of []) new_sessions
            (sessions_of all.0) old new (λ n. refl) (links_fed does fault_reply steps [] all.0
            old new all.1));
        sent = λ serial. balance does fault_reply serial steps [] all.0 old new all.1;
        within = let count : count_by is_some after.slots ≤ length after.slots =
            count_by-le-length is_some after.slots in omega (arith, count, places);
      }
