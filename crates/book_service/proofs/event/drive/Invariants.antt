use Rattle.std.proofs.Common.{◌≡◌, ◌≤◌, length, take, vec_capacity}
use Rattle.book_service.specs.Crashes.{LeavesRun}
use Rattle.book_service.specs.Faults.{AllowedFaults}
use Rattle.book_service.specs.Runs.{SystemState, MatchesRows, RanTo}
use Rattle.book_service.proofs.event.drive.Given as goal

abbrev pub invariant-loop-event : goal.invariant-loop-event
invariant-loop-event g l = record {
  room : length l.events ≤ vec_capacity l.replies;
  received : length l.replies.items ≡ l.event-index;
  count : length l.devices.items ≡ length l.fn.devices.items;
  limits : g.S.BookStore.model.limits l.store ≡ g.S.BookStore.model.limits l.fn.store;
  premise : g.S.BookStore.model.premise l.store → g.S.BookStore.model.premise l.fn.store;
  faults : AllowedFaults g.S.BookStore.model.may_fault (take l.event-index l.events)
      l.replies.items;
  ran : g.S.BookStore.model.premise l.store → (now : SystemState)
      → MatchesRows now (g.S.BookStore.model.limits l.fn.store)
      (g.S.BookStore.model.books l.fn.store) → now.devices ≡ l.fn.devices.items →
      RanTo now (take l.event-index l.events) l.replies.items (g.S.BookStore.model.books l.store)
      l.devices.items;
  ends : LeavesRun g.S.BookStore.model l.fn.store l.store (take l.event-index l.events)
      l.replies.items l.fn.devices.items l.devices.items;
}
