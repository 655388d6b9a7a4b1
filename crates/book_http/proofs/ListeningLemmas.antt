-- How one connection more lengthens those that were served.
use Rattle.std.proofs.Common.{◌≡◌, ◌<◌, ◌+◌, ◌∙◌, ℕ, List, [], ◌∷◌, ◌++◌, length, Option, Some}
use Rattle.std.proofs.Common.{None, refl, sym, subst, ap, arith}
use Rattle.std.proofs.lemmas.List.{map-append, append_assoc}
use Rattle.std.specs.Option.{option_or}
use Rattle.http_requests.specs.HandlerRuns.{HandlerRelation, FaultReplies}
use Rattle.book_http.specs.declared.serve_fault.ServeFault.{ServeFault}
use Rattle.book_http.specs.Listening.{NextArrival, FailsToWait, AbortsSome, ServesArrivals}
use Rattle.book_http.specs.Listening.{ServesEach, ServesInTurn, ServesNext, ServesOne}
use Rattle.book_http.specs.Listening.{ServedConnection, arrivals_of, first_serve_fault}
use Rattle.book_http.specs.ConnectionModels.{ConnectionModel}

or_none : (end : Option ServeFault) → option_or end None ≡ end
or_none None = refl
or_none (Some fault) = refl

or_assoc : (one other third : Option ServeFault) → option_or one (option_or other third)
    ≡ option_or (option_or one other) third
or_assoc None other third = refl
or_assoc (Some fault) other third = refl

module _ {Connection : Type 0} where
  -- the first fault of more turns than these is theirs, or where they have none, that of the others
  first_of_both : (turns : List (ServedConnection Connection)) (turn : ServedConnection Connection)
      → first_serve_fault (turns ++ turn ∷ []) ≡ option_or (first_serve_fault turns) turn.end
  first_of_both [] turn = or_none turn.end
  first_of_both (t ∷ turns) turn = ap (option_or t.end) (first_of_both turns turn)
      ∙ or_assoc t.end (first_serve_fault turns) turn.end

  one_longer : (turns : List (ServedConnection Connection)) (turn : ServedConnection Connection)
      → length (turns ++ turn ∷ []) ≡ length turns + 1
  one_longer [] turn = refl
  one_longer (t ∷ turns) turn = omega (arith, one_longer turns turn)

  -- arrivals, and the arrivals after them
  arrivals_none : (coming : Option (List (Option Connection))) → NextArrival coming [] coming
  arrivals_none None = tt
  arrivals_none (Some all) = refl

  arrivals_append : (coming between coming_after : Option (List (Option Connection)))
      (arrival_is more : List (Option Connection)) → NextArrival coming arrival_is between
      → NextArrival between more coming_after → NextArrival coming (arrival_is ++ more) coming_after
  arrivals_append None between coming_after arrival_is more first then = tt
  arrivals_append (Some all) None coming_after arrival_is more first then = absurd first
  arrivals_append (Some all) (Some middle) None arrival_is more first then = absurd then
  arrivals_append (Some all) (Some middle) (Some rest) arrival_is more first then =
      first ∙ ap (λ others. arrival_is ++ others) then ∙ sym (append_assoc arrival_is more rest)

module _ {State Connection : Type 0} (does : HandlerRelation State) (fault_reply : FaultReplies)
    (stream : ConnectionModel Connection) where
  served_on : (turns : List (ServedConnection Connection)) (turn : ServedConnection Connection)
      (old middle new : State) →
      ServesInTurn does fault_reply stream old turns middle →
      ServesOne does fault_reply stream middle turn new →
      ServesInTurn does fault_reply stream old (turns ++ turn ∷ []) new
  unfolding ServesInTurn
  served_on [] turn old middle new is one =
      (new, subst (λ s. ServesOne does fault_reply stream s turn new) (sym is) one, refl)
  served_on (t ∷ turns) turn old middle new served one =
      (served.0, served.1, served_on turns turn served.0 middle new served.2 one)

  -- `count` connections were served, and this was the first fault
  pub record SoFar (count : ℕ) (first : Option ServeFault) (coming coming_after :
      Option (List (Option Connection))) (old new : State) : Type 0 where
    pub turns : List (ServedConnection Connection)
    pub arrivals : ServesArrivals does fault_reply stream coming coming_after old turns new
    pub count_is : length turns ≡ count
    pub first_is : first_serve_fault turns ≡ first

  pub so_far_none : (coming : Option (List (Option Connection))) (old : State)
      → SoFar 0 None coming coming old old
  unfolding ServesInTurn
  so_far_none coming old = record {
    turns = [];
    arrivals = record {
      served = refl;
      arrival_is = arrivals_none coming;
    };
    count_is = refl;
    first_is = refl;
  }

  pub so_far_on : (count : ℕ) (first end : Option ServeFault) (coming between coming_after :
      Option (List (Option Connection))) (old middle new : State)
      → SoFar count first coming between old middle
      → ServesNext does fault_reply stream between coming_after middle end new
      → SoFar (count + 1) (option_or first end) coming coming_after old new
  so_far_on count first end coming between coming_after old middle new far next = record {
    turns = far.turns ++ next.turn ∷ [];
    arrivals = record {
      served = served_on far.turns next.turn old middle new far.arrivals.served next.served;
      arrival_is = subst (λ all. NextArrival coming all coming_after)
          (sym (map-append (λ turn. Some turn.connection) far.turns (next.turn ∷ [])))
          (arrivals_append coming between coming_after (arrivals_of far.turns)
          (Some next.turn.connection ∷ []) far.arrivals.arrival_is next.arrival_is);
    };
    count_is = one_longer far.turns next.turn ∙ ap (λ n. n + 1) far.count_is;
    first_is = first_of_both far.turns next.turn ∙ ap (λ f. option_or f next.turn.end) far.first_is
        ∙ ap (option_or first) next.end_is;
  }

  -- a wait failed
  pub stopped_early : (count connections : ℕ) (first : Option ServeFault)
      (coming between coming_after : Option (List (Option Connection))) (old new : State)
      → SoFar count first coming between old new
      → count < connections → NextArrival between (None ∷ []) coming_after
      → FailsToWait does fault_reply stream connections coming old new
  stopped_early count connections first coming between coming_after old new far fewer failed =
      record {
        turns = far.turns;
        between = between;
        coming_after = coming_after;
        arrivals = far.arrivals;
        fewer = subst (λ n. n < connections) (sym far.count_is) fewer;
        failed = failed;
      }

  -- all were served
  pub served_all : (count connections : ℕ) (first : Option ServeFault) (coming coming_after :
      Option (List (Option Connection))) (old new : State)
      → SoFar count first coming coming_after old new
      → count ≡ connections → first ≡ None → ServesEach does fault_reply stream connections coming
      old new
  served_all count connections first coming coming_after old new far all is =
      record {
        turns = far.turns;
        coming_after = coming_after;
        arrivals = far.arrivals;
        count = far.count_is ∙ all;
        ended = far.first_is ∙ is;
      }

  pub served_others : (count connections : ℕ) (first : Option ServeFault) (fault : ServeFault)
      (coming coming_after : Option (List (Option Connection))) (old new : State)
      → SoFar count first coming coming_after old new
      → count ≡ connections → first ≡ Some fault
      → AbortsSome does fault_reply stream fault connections coming old new
  served_others count connections first fault coming coming_after old new far all is =
      record {
        turns = far.turns;
        coming_after = coming_after;
        arrivals = far.arrivals;
        count = far.count_is ∙ all;
        aborted = far.first_is ∙ is;
      }
