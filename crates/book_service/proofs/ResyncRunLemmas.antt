-- A resync is a run of accepted commands.
use Rattle.std.proofs.Common.{◌≡◌, List, [], ◌∷◌, Result, Ok, Err, refl, sym, ap, ◌∙◌, subst, inl}
use Rattle.std.specs.List.{AllByRecursion}
use Rattle.vcard_lines.specs.declared.line.Line.{Line}
use Rattle.vcard_text.specs.Cards.{IsCard, canonical_text, uid_of}
use Rattle.vcard_text.specs.Spelling.{Spells}
use Rattle.book_model.specs.declared.refusal.Refusal.{Refusal}
use Rattle.book_model.specs.Bounds.{Bounds, IsInRange}
use Rattle.book_model.specs.Books.{Books}
use Rattle.book_model.specs.CallOutcomes.{◌>>=◌}
use Rattle.book_model.specs.Forgetting.{forget_step}
use Rattle.book_model.specs.Putting.{put_step}
use Rattle.book_model.specs.Removing.{remove_step}
use Rattle.book_laws.specs.Calls.{Call, PutCall, RemoveCall, ForgetCall, ReturnedDropped}
use Rattle.book_laws.specs.Calls.{ReturnedPut, ReturnedRemoval, map_answer}
use Rattle.book_laws.specs.ChangeRefinement.{ForgetRefines, PutRefines, RemoveRefines}
use Rattle.book_laws.specs.HistoryChanges.{forget_on_histories, remove_on_histories}
use Rattle.book_laws.specs.HistorySteps.{put_on_histories}
use Rattle.book_laws.specs.Refinement.{AreHistoriesOf, RefinesHistories}
use Rattle.book_laws.specs.RowsAfterCalls.{rows_after_accepted_call, rows_of_step}
use Rattle.book_laws.specs.StoreHistories.{BookHistories, IsSoundStoreHistory, rows_of}
use Rattle.book_resync.specs.ResyncCalls.{IsResyncCall, resync_calls, rows_after_accepted_calls}
use Rattle.book_resync.specs.ResyncLaws.{LegalSpareCardsExist, ResyncCallsAreLegal}
use Rattle.book_resync.specs.ResyncLaws.{ResyncsAreCommands}
use Rattle.book_commands.specs.declared.command.Command.TheVariants.{Put, Remove, Forget}
use Rattle.book_commands.specs.declared.reply.Reply.TheVariants as reply
use Rattle.book_service.specs.declared.event.Event.TheVariants.{Do}
use Rattle.book_service.specs.Resyncs.{IsResyncRun, IsResyncStep, ResyncsAreRuns}
use Rattle.book_service.specs.Runs.{SystemState, Step, TraceStep, MatchesRows}

-- ---- one call

-- the call on histories is accepted, and the histories after it have these rows
record IsDone {A : Type 0} (wanted : Result (A × BookHistories) Refusal) (rows : Books)
    : Type 0 where
  answer : A
  books : BookHistories
  is : wanted ≡ Ok (answer, books)
  at : AreHistoriesOf rows books

-- what the rows accept, the histories accept
accepted : {A : Type 0} (step : Result (A × Books) Refusal)
    (wanted : Result (A × BookHistories) Refusal) (rows : Books) → RefinesHistories step wanted
    → rows_of_step step ≡ Ok rows → IsDone wanted rows
accepted (Ok done) (Ok wanted) rows refines e =
    let same : done.1 ≡ rows = same_rows done.1 e in
    record {
      answer = wanted.0;
      books = wanted.1;
      is = refl;
      at = subst (λ (b : Books). AreHistoriesOf b wanted.1) same refines.1;
    }
  where
    same_rows : (b : Books) → ◌≡◌ {A = Result Books Refusal} (Ok b) (Ok rows) → b ≡ rows
    same_rows b e = cc
accepted (Ok done) (Err refusal) rows refines e = absurd refines
accepted (Err refusal) wanted rows refines e = absurd (no_rows e)
  where
    no_rows : ◌≡◌ {A = Result Books Refusal} (Err refusal) (Ok rows) → ⊥
    no_rows e = cc

-- from this state a step of a resync leads to these rows
record IsOneStep (now : SystemState) (rows : Books) (made : TraceStep) : Type 0 where
  step : Step now made.event made.reply made.after
  command : IsResyncStep made.event made.reply
  at : MatchesRows made.after now.model.limits rows
  same_devices : made.after.devices ≡ now.devices

abbrev with_books : SystemState → BookHistories → SystemState
with_books now books = record now { model = record now.model { books = books } }

module _ (spells : (card : List Line) → IsCard card → Spells (canonical_text card) card) (puts :
    PutRefines) (removes : RemoveRefines) (forgets : ForgetRefines) where
  one_step : (now : SystemState) (call : Call) (rows : Books) → IsSoundStoreHistory now.model
      → IsResyncCall call
      → rows_after_accepted_call now.model.limits (rows_of now.model.books) call ≡ Ok rows
      → (made : TraceStep) × IsOneStep now rows made
  one_step now (PutCall name card expect) rows sound legal e =
      let done = accepted
      (put_step now.model.limits (rows_of now.model.books) name card expect)
      (put_on_histories now.model.limits now.model.books name card expect) rows
      (puts now.model name card expect sound.books) e in (
        record {
          event = Do (Put name (uid_of card) expect (canonical_text card));
          reply = reply.Put done.answer;
          after = with_books now done.books;
        },
        record {
          step = (
            done.books,
            inl (record {
              outcome = Ok (ReturnedPut done.answer, done.books);
              has_outcome = record {
                read = Ok card;
                read_is = (spells card legal, refl);
                outcome_is = sym (ap (map_answer ReturnedPut) done.is);
              };
              delivers = (refl, refl);
            }),
            refl,
          );
          command = tt;
          at = record { limits_are = refl; histories = done.at };
          same_devices = refl;
        },
      )
  one_step now (RemoveCall name uid expect) rows sound legal e =
      let done = accepted
      (remove_step now.model.limits (rows_of now.model.books) name uid expect)
      (remove_on_histories now.model.limits now.model.books name uid expect) rows
      (removes now.model name uid expect sound.books) e in (
        record {
          event = Do (Remove name uid expect);
          reply = reply.Gone done.answer;
          after = with_books now done.books;
        },
        record {
          step = (
            done.books,
            inl (record {
              outcome = Ok (ReturnedRemoval done.answer, done.books);
              has_outcome = sym (ap (map_answer ReturnedRemoval) done.is);
              delivers = (refl, refl);
            }),
            refl,
          );
          command = tt;
          at = record { limits_are = refl; histories = done.at };
          same_devices = refl;
        },
      )
  one_step now (ForgetCall name upto) rows sound legal e =
      let done = accepted (forget_step (rows_of now.model.books) name upto)
      (forget_on_histories now.model.books name upto) rows
      (forgets now.model.books name upto sound.books) e in (
        record {
          event = Do (Forget name upto);
          reply = reply.Forgot done.answer upto;
          after = with_books now done.books;
        },
        record {
          step = (
            done.books,
            inl (record {
              outcome = Ok (ReturnedDropped done.answer, done.books);
              has_outcome = sym (ap (map_answer ReturnedDropped) done.is);
              delivers = (refl, refl);
            }),
            refl,
          );
          command = tt;
          at = record { limits_are = refl; histories = done.at };
          same_devices = refl;
        },
      )
  one_step now _ rows sound legal e = absurd legal

  -- ---- all calls

  -- a step of a resync, and a resync after it
  one_more : (now : SystemState) (made : TraceStep) (between rows : Books) (run : List TraceStep)
      → IsOneStep now between made → IsResyncRun made.after run rows
      → IsResyncRun now (made ∷ run) rows
  one_more now made between rows run one rest = record {
    runs = (one.step, rest.runs);
    commands = (one.command, rest.commands);
    at = record {
      limits_are = rest.at.limits_are ∙ one.at.limits_are;
      histories = rest.at.histories;
    };
    same_devices = rest.same_devices ∙ one.same_devices;
  }

  calls_run : (calls : List Call) (now : SystemState) (rows : Books)
      → IsSoundStoreHistory now.model → AllByRecursion IsResyncCall calls
      → rows_after_accepted_calls now.model.limits (rows_of now.model.books) calls ≡ Ok rows
      → (run : List TraceStep) × IsResyncRun now run rows
  calls_run [] now rows sound legal e = (
    [],
    record {
      runs = tt;
      commands = tt;
      at = record {
        limits_are = refl;
        histories = record { sound = sound.books; rows_are = same_rows e };
      };
      same_devices = refl;
    },
  )
    where
      same_rows : ◌≡◌ {A = Result Books Refusal} (Ok (rows_of now.model.books)) (Ok rows)
          → rows_of now.model.books ≡ rows
      same_rows e = cc
  calls_run (call ∷ calls) now rows sound legal e =
      by (calls_run calls)
      (rows_after_accepted_call now.model.limits (rows_of now.model.books) call) refl e
    where
      by : ((now : SystemState) (rows : Books) → IsSoundStoreHistory now.model
          → AllByRecursion IsResyncCall calls
          → rows_after_accepted_calls now.model.limits (rows_of now.model.books) calls ≡ Ok rows
          → (run : List TraceStep) × IsResyncRun now run rows)
          → (r : Result Books Refusal)
          → rows_after_accepted_call now.model.limits (rows_of now.model.books) call ≡ r
          → (r >>= λ (b : Books). rows_after_accepted_calls now.model.limits b calls) ≡ Ok rows
          → (run : List TraceStep) × IsResyncRun now run rows
      by others (Ok between) is e =
          let one = one_step now call between sound legal.0 is in
          let after = one.0.after in
          let same : after.model.limits ≡ now.model.limits = one.1.at.limits_are in
          let next = others after rows (record {
            limits = subst IsInRange (sym same) sound.limits;
            books = one.1.at.histories.sound;
          }) legal.1
          (ap (λ (l : Bounds). rows_after_accepted_calls l (rows_of after.model.books) calls) same
          ∙ ap (λ (b : Books). rows_after_accepted_calls now.model.limits b calls)
          one.1.at.histories.rows_are ∙ e) in (
            one.0 ∷ next.0,
            one_more now one.0 between rows next.0 one.1 next.1,
          )
      by others (Err refusal) is e = absurd (no_rows e)
        where
          no_rows : ◌≡◌ {A = Result Books Refusal} (Err refusal) (Ok rows) → ⊥
          no_rows e = cc

  pub resyncs_are_runs : ResyncsAreCommands → LegalSpareCardsExist → ResyncCallsAreLegal
      → ResyncsAreRuns
  resyncs_are_runs commands spares calls_legal now pairs rows ready is =
      let books = rows_of now.model.books in
      let range = ready.sound.limits in
      let spare = spares now.model.limits books range ready.well_formed in
      calls_run (resync_calls now.model.limits spare.0 pairs books) now rows ready.sound
      (calls_legal now.model.limits books spare.0 pairs spare.2 ready.legal)
      (commands now.model.limits books rows spare.0 pairs range ready.well_formed spare.1 is)
