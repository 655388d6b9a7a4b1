-- What the connection at a place needs, and what a hub shows of it.
use Rattle.std.proofs.Common.{◌≡◌, ◌∙◌, ◌<◌, ℕ, List, [], ◌∷◌, Option, Some, ap, length, get_or}
use Rattle.std.proofs.Common.{slice_get, arith}
use Rattle.std.proofs.lemmas.Option.{slice_get-get_or}
use Rattle.http_hub.specs.HubRuns.{pending_of}
use Rattle.http_hub.specs.Hubs.{HubValue, IsAt, link_at, link_in}
use Rattle.http_hub.proofs.PlaceLemmas.{found_at, found_within}
use Rattle.http_hub.specs.Links.{LinkValue}
use Rattle.hub_server.specs.Seats.{SeatValue}
use Rattle.hub_server.specs.Servers.{ServerValue}

-- ---- what a hub shows of a place

pub pending_at : (hub : HubValue) (place : ℕ) (link : LinkValue) → IsAt hub place link
    → pending_of (link_at hub place) ≡ link.pending
pending_at hub place link at = ap (λ (t : Option (Option LinkValue)). pending_of (link_in t)) at

-- the connection at a place is one
pub same_link : (hub : HubValue) (place : ℕ) (link other : LinkValue) → IsAt hub place link
    → IsAt hub place other → link ≡ other
same_link hub place link other at also = cc (at, also)

pub same_seat : (seats : List SeatValue) (place : ℕ) (seat other : SeatValue)
    → slice_get seats place ≡ Some seat → slice_get seats place ≡ Some other → seat ≡ other
same_seat seats place seat other at also = cc (at, also)

pub seat_there : (seats : List SeatValue) (place : ℕ) → place < length seats → (seat : SeatValue)
    × (slice_get seats place ≡ Some seat)
seat_there [] place within = absurd (omega (arith, within))
seat_there (seat ∷ seats) place within =
    (get_or (seat ∷ seats) place seat, slice_get-get_or (seat ∷ seats) place seat within)

-- what an index reads is the seat of the place
pub read_at : (seen a : ServerValue) (place : ℕ) (seat read : SeatValue) → seen ≡ a
    → slice_get a.seats place ≡ Some seat → read ≡ get_or seen.seats place read
    → slice_get a.seats place ≡ Some read
read_at seen a place seat read same at is =
    found_at a.seats place read (found_within a.seats place seat at) (is
    ∙ ap (λ (x : ServerValue). get_or x.seats place read) same)
