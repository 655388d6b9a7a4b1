-- Which members a report lists.
use Rattle.std.specs.Prelude.{ℕ, ◌⊎◌, ◌↔◌, List, IsSome, Contains}
use Rattle.std.specs.FinMap as finite
use Rattle.book_model.specs.declared.token.Mark.{Mark}
use Rattle.book_laws.specs.EventLogs.{BookEvent, HasEventAbove, live}
use Rattle.book_laws.specs.Reports.{due}

-- the due members, which are defined by their last events, are exactly those that have any event
-- above `at`, and are live or have any event above `base`
abbrev pub DueMembersHaveEvents : Type 0
DueMembersHaveEvents = (h : List BookEvent) (mark : Mark) (uid : List ℕ) →
    Contains (due h mark) uid ↔ (HasEventAbove h mark.at uid
    × (IsSome (finite.get (live h) uid) ⊎ HasEventAbove h mark.base uid))
