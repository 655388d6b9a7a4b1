-- The changes of a log, counted by reason.
use Rattle.std.specs.Prelude.{List, [], ◌∷◌}
use Rattle.book_model.specs.declared.counts.Counts.{Counts}
use Rattle.book_model.specs.Counting.{no_counts, counts_after_change}
use Rattle.book_laws.specs.EventLogs.{BookEvent}

-- how many events of the log have each reason
abbrev pub counts_of_log : List BookEvent → Counts
counts_of_log [] = no_counts
counts_of_log (e ∷ h) = counts_after_change e.change (counts_of_log h)
