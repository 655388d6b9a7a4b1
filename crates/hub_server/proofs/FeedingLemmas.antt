-- A piece of the octets read that is fed to the session of its connection.
use Rattle.std.proofs.Common.{◌≡◌, ◌∙◌, ◌<◌, ◌≤◌, ℕ, List, Option, Some, refl, sym}
use Rattle.std.proofs.Common.{ap, subst, inl, inr, drop, length, slice_get}
use Rattle.http_requests.specs.HandlerRuns.{HandlerRelation, FaultReplies}
use Rattle.http_hub.specs.BoundedHubs.{ReceivesWithin}
use Rattle.http_hub.specs.Hubs.{HubValue, with_slot}
use Rattle.http_hub.specs.Links.{LinkValue, link_after_failure, link_after_refusal}
use Rattle.http_hub.proofs.HubLemmas.{refused_piece}
use Rattle.hub_server.specs.Needs.{NeedsFeeding}
use Rattle.hub_server.specs.Seats.{SeatValue}
use Rattle.hub_server.specs.Seats.{next_piece, seat_after_step}
use Rattle.hub_server.specs.Servers.{ServerValue, with_seat}
use Rattle.hub_server.specs.ServerRuns.{FeedsNext}
use Rattle.hub_server.proofs.NeedLemmas.{same_seat}
use Rattle.hub_server.proofs.SeatLemmas.{piece_some, piece_within}
use Rattle.hub_server.proofs.PlaceStepLemmas.{StepsAt, steps_slot}

-- ---- a piece that is fed

-- the piece isn't empty, and is within the unfed octets
pub piece_given : (seat read : SeatValue) (piece : List ℕ) → read ≡ seat
    → piece ≡ next_piece read.unfed → 0 < length seat.unfed → 0 < length piece
piece_given seat read piece same is some =
    subst (λ (t : List ℕ). 0 < length t)
    (sym (is ∙ ap (λ (x : SeatValue). next_piece x.unfed) same)) (piece_some seat.unfed some)

pub piece_fits : (first second : SeatValue) (piece : List ℕ) → first ≡ second
    → piece ≡ next_piece first.unfed → length piece ≤ length second.unfed
piece_fits first second piece same is =
    subst (λ (t : List ℕ). length t ≤ length second.unfed)
    (sym (is ∙ ap (λ (x : SeatValue). next_piece x.unfed) same)) (piece_within second.unfed)

module _ {S : Type 0} (does : HandlerRelation S) (fault_reply : FaultReplies) where
  fed_slot : (most : ℕ) (a : ServerValue) (place : ℕ) (piece : List ℕ) (w v : S) (hub : HubValue)
      → ReceivesWithin does fault_reply most place a.hub w piece a.time v hub
      → (link : Option LinkValue) × (hub ≡ with_slot a.hub place link)
  fed_slot most a place piece w v hub (inl fits) =
      (Some fits.received.next, fits.received.after_is)
  fed_slot most a place piece w v hub (inr (inl failed)) =
      (Some (link_after_failure failed.link), failed.after_is)
  fed_slot most a place piece w v hub (inr (inr large)) = (
    Some (link_after_refusal large.refused.received.link large.reply a.time),
    refused_piece does fault_reply place a.hub w piece large.reply a.time v hub large.refused,
  )

  pub feeds_piece : (most : ℕ) (a b : ServerValue) (place : ℕ) (piece : List ℕ) (w v : S) (hub :
      HubValue) (old : SeatValue) (needs : NeedsFeeding a place)
      → slice_get a.seats place ≡ Some old → piece ≡ next_piece old.unfed
      → ReceivesWithin does fault_reply most place a.hub w piece a.time v hub
      → b ≡ with_seat a place hub (seat_after_step old (drop (length piece) old.unfed))
      → FeedsNext does fault_reply most a w place needs.link.serial piece v b
      × StepsAt place a b
  feeds_piece most a b place piece w v hub old needs found piece_is fed is =
      let same : old ≡ needs.seat = same_seat a.seats place old needs.seat found
      needs.seated.at_seat in
      let now_is : b ≡ with_seat a place hub
      (seat_after_step needs.seat (drop (length piece) needs.seat.unfed)) =
      is ∙ ap (λ (x : SeatValue). with_seat a place hub
      (seat_after_step x (drop (length piece) x.unfed))) same in
      let there = fed_slot most a place piece w v hub fed in (
        record {
          needs = needs;
          serial_is = refl;
          piece_is = piece_is ∙ ap (λ (x : SeatValue). next_piece x.unfed) same;
          hub = hub;
          fed = fed;
          after_is = now_is;
        },
        steps_slot a b place hub there.0 needs.seat (drop (length piece) needs.seat.unfed)
            needs.seated.at_seat needs.has_turn there.1 now_is,
      )
