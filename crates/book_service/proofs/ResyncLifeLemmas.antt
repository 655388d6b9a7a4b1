-- A resync is one more run of a life.
use Rattle.std.proofs.Common.{inl, List, [], ◌∷◌, ◌++◌, refl, sym, subst}
use Rattle.std.proofs.lemmas.List.{append-nil}
use Rattle.book_service.specs.Lives.{IsLife, LivesAreRuns, LivesStayWellFormed, ServerRun}
use Rattle.book_service.specs.Lives.{PartsOfLivesAreRuns}
use Rattle.book_service.specs.Resyncs.{CardsStayLegal, IsResyncable, ResyncsAreRuns}
use Rattle.book_service.specs.Resyncs.{ResyncsContinueLives, whole_run}
use Rattle.book_service.specs.Runs.{SystemState, TraceStep, end_of}
use Rattle.book_service.proofs.LivedLemmas.{life_more}

still_resyncable : LivesAreRuns → PartsOfLivesAreRuns → LivesStayWellFormed → CardsStayLegal
    → (now : SystemState) (runs : List ServerRun) (trace : List TraceStep)
    → IsResyncable now → IsLife now runs trace → IsResyncable (end_of now trace)
still_resyncable one_run parts stay cards now runs trace ready life = record {
  sound = (parts now runs trace [] [] ready.sound
      (subst (IsLife now runs) (sym (append-nil trace)) life)).0;
  well_formed = stay now runs trace ready.sound ready.well_formed life;
  legal = cards now trace ready.legal (one_run now runs trace life);
}

pub resyncs_continue_lives : LivesAreRuns → PartsOfLivesAreRuns → LivesStayWellFormed
    → CardsStayLegal → ResyncsAreRuns → ResyncsContinueLives
resyncs_continue_lives one_run parts stay cards resyncs now runs trace pairs rows ready life is =
    let then = resyncs (end_of now trace) pairs rows
    (still_resyncable one_run parts stay cards now runs trace ready life) is in (
      then.0,
      then.1,
      subst (λ (t : List TraceStep). IsLife now (runs ++ whole_run then.0 ∷ []) (trace ++ t))
          (append-nil then.0)
          (life_more now runs trace (whole_run then.0) [] life then.1.runs (inl refl)),
    )
