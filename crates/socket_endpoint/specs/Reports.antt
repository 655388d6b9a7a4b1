-- What the events of a poll report.
use Rattle.std.specs.Prelude.{Bool, true, false, List, map, set}
use Rattle.std.specs.List.{fold}
use Rattle.mio.specs.Event.{event_token}
use Rattle.mio.specs.declared.event.event.Event.{Event}
use Rattle.socket_endpoint.specs.Subjects.{subject_of}
use Rattle.socket_endpoint.specs.declared.subject.Subject.{Subject}
use Rattle.socket_endpoint.specs.declared.subject.Subject.TheVariants.{Listener, Place, Lingerer}

-- what a place is before an event reports it, whatever it was
abbrev pub not_ready : Bool → Bool
not_ready ready = false

-- what an event is about
abbrev pub event_subject : Event → Subject
event_subject event = subject_of (event_token event).0

-- the list with the place marked, if it has one
abbrev pub mark_subject : List Bool → Subject → List Bool
mark_subject ready Listener = ready
mark_subject ready (Place place) = set ready place true
mark_subject ready (Lingerer slot) = ready

-- the list with the places of these events marked
abbrev pub ready_after : List Event → List Bool → List Bool
ready_after events ready = fold mark_subject ready (map event_subject events)

-- whether it is the listener, or was found before
abbrev pub finds_listener : Bool → Subject → Bool
finds_listener found Listener = true
finds_listener found (Place place) = found
finds_listener found (Lingerer slot) = found

-- whether one of these events is the listener's
abbrev pub reports_listener : List Event → Bool
reports_listener events = fold finds_listener false (map event_subject events)
