-- A pass that closes the connections that have expired.
use Rattle.std.proofs.Common.{◌≡◌, ◌∙◌, ◌<◌, ◌≤◌, ◌+◌, ℕ, Bool, false, sym, ap, arith, length}
use Rattle.std.proofs.Common.{IsTrue}
use Rattle.std.proofs.lemmas.Bool.{false_from_ne_true}
use Rattle.http_hub.specs.Hubs.{IsAt, IsOpenAt}
use Rattle.http_hub.specs.Links.{LinkValue, has_expired}
use Rattle.hub_server.specs.EndpointRuns.{EndpointRelation, ReachesByActs}
use Rattle.hub_server.specs.Endpoints.EndpointEvent.{CloseEvent}
use Rattle.hub_server.specs.Expiries.{ExpiresAt, HasExpiredAt, KeepsTurnsOver}
use Rattle.hub_server.specs.Needs.{LeavesPlace}
use Rattle.hub_server.specs.Seats.{SeatValue}
use Rattle.hub_server.specs.Servers.{AreSeatedBelow, IsSeatedAt, NoneExpired, ServerValue}
use Rattle.hub_server.specs.declared.limits.ServeLimits.{ServeLimits}
use Rattle.hub_server.proofs.KeepingLemmas.{all_unexpired, fact_more, left_is_free, seated_kept}
use Rattle.hub_server.proofs.KeepingLemmas.{seated_more, turns_left}
use Rattle.hub_server.proofs.NeedLemmas.{seat_there}
use Rattle.hub_server.proofs.PlaceStepLemmas.{acts_expired, keeps_none, leaves_keeps}
use Rattle.hub_server.proofs.RunLemmas.{acts_none, acts_on}

-- ---- whether a connection has expired

-- what a test of the connection at a place says
pub expired_by_test : (limits : ServeLimits) (server : ServerValue) (place : ℕ) (test : Bool)
    → place < length server.seats → (open_there : IsOpenAt server.hub place)
    → ((link : LinkValue) → IsAt server.hub place link
    → test ≡ has_expired link server.time limits.patience)
    → (IsTrue test → HasExpiredAt limits server place) × (HasExpiredAt limits server place
    → IsTrue test)
expired_by_test limits server place test within open_there tells =
    let there = seat_there server.seats place within in (
      λ yes. record {
        link = open_there.0;
        seat = there.0;
        seated = record {
          at_link = open_there.1;
          at_seat = there.1;
        };
        expired = sym (tells open_there.0 open_there.1) ∙ yes;
      },
      λ expired. tells expired.link expired.seated.at_link ∙ expired.expired,
    )

module _ {Endpoint : Type 0} (calls : EndpointRelation Endpoint) where
  -- ---- one place

  pub expires_one : (limits : ServeLimits) (place : ℕ) (a b : ServerValue) (s t : Endpoint)
      → HasExpiredAt limits a place → LeavesPlace a place b → calls s (CloseEvent place) t
      → ExpiresAt calls limits place a s b t
  expires_one limits place a b s t has left closed = record {
    acts = acts_expired calls limits a b place has.link has.seat s t has.seated has.expired left
        closed;
    others = leaves_keeps a b place left;
    turns = turns_left a b place left;
    not_expired = λ still. left_is_free a b place still.link still.seat left still.seated;
  }

  pub expires_none : (limits : ServeLimits) (place : ℕ) (a : ServerValue) (s : Endpoint)
      → (HasExpiredAt limits a place → ⊥) → ExpiresAt calls limits place a s a s
  expires_none limits place a s not_expired = record {
    acts = acts_none calls limits a s;
    others = keeps_none place a;
    turns = λ before. before;
    not_expired = not_expired;
  }

  -- ---- all places in order

  pub record ExpiresBelow (limits : ServeLimits) (end count : ℕ) (a : ServerValue) (s : Endpoint)
      (b : ServerValue) (t : Endpoint) : Type 0 where
    pub acts : ReachesByActs calls limits a s b t
    pub turns : KeepsTurnsOver a b
    pub below : (place : ℕ) (link : LinkValue) (seat : SeatValue) → place < count
        → IsSeatedAt b place link seat → has_expired link b.time limits.patience ≡ false
    pub seated : AreSeatedBelow b end

  pub expires_nothing : (limits : ServeLimits) (end : ℕ) (a : ServerValue) (s : Endpoint)
      → AreSeatedBelow a end → ExpiresBelow limits end 0 a s a s
  expires_nothing limits end a s seated_below = record {
    acts = acts_none calls limits a s;
    turns = λ before. before;
    below = λ place link seat within seated. absurd (let no :
        place < 0 = within in omega (arith, no));
    seated = seated_below;
  }

  pub expires_more : (limits : ServeLimits) (end place : ℕ) (a b c : ServerValue) (s t u : Endpoint)
      → place < end → ExpiresBelow limits end place a s b t → ExpiresAt calls limits place b t c u
      → ExpiresBelow limits end (place + 1) a s c u
  expires_more limits end place a b c s t u here far next = record {
    seated = seated_kept place end b c next.others here far.seated;
    acts = acts_on calls limits a b c s t u far.acts next.acts;
    turns = λ before. next.turns (far.turns before);
    below = fact_more (λ link seat. has_expired link c.time limits.patience ≡ false) place b c
        next.others
        (λ other link seat within seated. ap (λ n. has_expired link n limits.patience)
        next.others.time ∙ far.below other link seat within seated)
        (λ link seat seated. false_from_ne_true (has_expired link c.time limits.patience)
        (λ yes. next.not_expired (record {
          link = link;
          seat = seat;
          seated = seated;
          expired = yes;
        })));
  }

  pub expires_all : (limits : ServeLimits) (end count : ℕ) (a b : ServerValue) (s t : Endpoint)
      → end ≤ count → ExpiresBelow limits end count a s b t → NoneExpired limits b
  expires_all limits end count a b s t all far =
      all_unexpired limits b count (seated_more b end count far.seated all) far.below
