use Rattle.std.proofs.Common.{◌≡◌, length, map, take}
use Rattle.sync_core.specs.StoreCrashes.{IsSettled}
use Rattle.book_service.specs.Runs.{MatchesRows, SystemState}
use Rattle.book_service.proofs.LivedLemmas.{LivesSoFar}
use Rattle.book_service.proofs.restarts.live.Given as goal

abbrev pub invariant-loop-events : goal.invariant-loop-events
invariant-loop-events g l = record {
  limits : g.S.BookStore.model.limits l.store ≡ g.S.BookStore.model.limits l.fn.store;
  many : length l.replied.items ≡ l.events-index;
  count : length l.devices.items ≡ length l.fn.devices.items;
  lives : g.S.BookStore.model.premise l.fn.store → IsSettled g.S.BookStore.model l.fn.store
      → (now : SystemState) → MatchesRows now (g.S.BookStore.model.limits l.fn.store)
      (g.S.BookStore.model.books l.fn.store) → now.devices ≡ l.fn.devices.items →
      LivesSoFar g.S.BookStore.model l.fn.store l.store now
      (map (λ run. run.items) (take l.events-index l.runs)) (map (λ replies. replies.items)
      l.replied.items) l.devices.items;
}
