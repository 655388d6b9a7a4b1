-- The counts of a log.
use Rattle.std.specs.Prelude.{◌≡◌, ◌+◌, List, length}
use Rattle.std.specs.FinMap as finite
use Rattle.book_model.specs.Counting.{total_changes, arrived_cards, departed_cards}
use Rattle.book_laws.specs.EventLogs.{BookEvent, live}
use Rattle.book_laws.specs.Reasons.{CountsMatchReasons}
use Rattle.book_laws.specs.LogCounts.{counts_of_log}
use Rattle.book_laws.specs.ValidLogs.{IsValidLog}

-- the counts add up to the number of events
abbrev pub EventsAreCounted : Type 0
EventsAreCounted = (h : List BookEvent) → total_changes (counts_of_log h) ≡ length h

-- the live cards of a valid log are the cards that arrived less those that departed
abbrev pub LiveCardsAreCounted : Type 0
LiveCardsAreCounted = (h : List BookEvent) → IsValidLog h →
    finite.len (live h) + departed_cards (counts_of_log h) ≡ arrived_cards (counts_of_log h)

-- each count of a log is the number of its events with that reason
abbrev pub ReasonsAreCounted : Type 0
ReasonsAreCounted = (h : List BookEvent) → CountsMatchReasons h
