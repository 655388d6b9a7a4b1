use Rattle.std.proofs.Common.{List, Option, length, map}
use Rattle.std.specs.Slice.Iter.{iter_rest}
use Rattle.mio.specs.Events.{items}
use Rattle.socket_endpoint.specs.Lingering.{DrainsSlots, LooksAtEach}
use Rattle.socket_endpoint.specs.Reports.{event_subject}
use Rattle.socket_endpoint.specs.SocketCalls.{SocketLog}
use Rattle.socket_endpoint.specs.declared.lingerers.Lingerer.{Lingerer}
use Rattle.socket_endpoint.proofs.lingerers.look_at_reported.Given as goal

-- each call so far was about a socket that lingers, and a look at what the events that are left are
-- about makes a look at all of it
abbrev pub invariant-loop-event : goal.invariant-loop-event
invariant-loop-event g l =
    DrainsSlots l.fn.slots l.slots (g.S.Sockets.log l.fn.system) (g.S.Sockets.log l.system)
    × ((new : List (Option (Lingerer g.row.C.Denot))) (after : SocketLog g.row.L.Denot
    g.row.C.Denot)
    → LooksAtEach (length l.fn.room) l.now (map event_subject (iter_rest l.event-iterator)) l.slots
    new (g.S.Sockets.log l.system) after
    → LooksAtEach (length l.fn.room) l.now (map event_subject (items l.events)) l.fn.slots new
    (g.S.Sockets.log l.fn.system) after)
