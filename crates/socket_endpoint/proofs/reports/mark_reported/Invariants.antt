use Rattle.std.proofs.Common.{◌≡◌, map}
use Rattle.std.specs.List.{fold}
use Rattle.std.specs.Slice.Iter.{iter_rest}
use Rattle.mio.specs.Events.{items}
use Rattle.socket_endpoint.specs.Reports.{event_subject, finds_listener, ready_after}
use Rattle.socket_endpoint.specs.Reports.{reports_listener}
use Rattle.socket_endpoint.proofs.reports.mark_reported.Given as goal

-- what the events that are left add to the marks gives all marks
abbrev pub invariant-loop-event : goal.invariant-loop-event
invariant-loop-event l =
    (ready_after (iter_rest l.event-iterator) l.ready ≡ ready_after (items l.events) l.fn.ready)
    × (fold finds_listener l.listener (map event_subject (iter_rest l.event-iterator)) ≡
    reports_listener (items l.events))
