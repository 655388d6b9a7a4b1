-- The life of a store goes on over its calls.
use Rattle.std.proofs.Common.{◌≡◌, ℕ, ◌≤◌, ◌==◌, Bool, true, false, cond, List, [], ◌∷◌, ◌++◌}
use Rattle.std.proofs.Common.{Result, Ok, Err, refl, sym, ap, ◌∙◌, subst, ⊎_elim, inl, inr, ◌⊎◌}
use Rattle.std.proofs.Common.{arith}
use Rattle.std.specs.FinMap as finite
use Rattle.std.proofs.Math.Logic.{∥∥₁_elim, ∥∥₁_map}
use Rattle.std.proofs.lemmas.Bool.Decides.{nat_tests}
use Rattle.book_model.specs.declared.denied.Denied.{Denied}
use Rattle.book_model.specs.declared.denied.Denied.TheVariants.{Refused, Fault}
use Rattle.book_model.specs.declared.refusal.Refusal.{Refusal}
use Rattle.book_model.specs.Bounds.{Bounds}
use Rattle.book_model.specs.Books.{Books}
use Rattle.book_model.specs.CallOutcomes.{◌>>=◌, MatchesStep}
use Rattle.book_model.specs.Devices.{DeviceState}
use Rattle.book_resync.specs.Resyncing.{accept_books, books_after_resync, resync_step}
use Rattle.book_resync.specs.ResyncLaws.{IsResync}
use Rattle.sync_core.specs.StoreModels.{StoreModel}
use Rattle.sync_core.specs.StoreCrashes.{IsAfterStep, IsSettled}
use Rattle.book_resync.specs.Resyncs.{some_pairs}
use Rattle.book_commands.specs.declared.reply.Reply.{Reply}
use Rattle.book_service.specs.declared.event.Event.{Event}
use Rattle.book_service.specs.Crashes.{LedTo, LivedTo}
use Rattle.book_service.specs.Resyncs.{IsResyncable, ResyncsContinueLives, whole_run}
use Rattle.book_service.specs.Runs.{SystemState, MatchesRows, end_of}
use Rattle.book_service.specs.Promise.{NewStoresStart}
use Rattle.book_service.specs.StoreLives.{CreationsBeginLives, HasLived, OpeningsLeadOn}
use Rattle.book_service.specs.StoreLives.{ResyncsLeadOn, RestartsLeadOn}
use Rattle.book_service.specs.StoreLives.{RunsLeadOn, StoresBeginLives}
use Rattle.book_service.proofs.LifeLemmas.{life-append}
use Rattle.book_service.proofs.StepLemmas.{end-append}

-- ---- one life after another

-- what a life led to, after one that led to where it began
lived_on : (now : SystemState) (old books : Books) (before after : List DeviceState)
    (lived : HasLived now old before) → HasLived (end_of now lived.trace) books after
    → HasLived now books after
lived_on now old books before after lived more =
    let end = end-append now lived.trace more.trace in
    record {
      runs = lived.runs ++ more.runs;
      trace = lived.trace ++ more.trace;
      life = life-append now lived.runs more.runs lived.trace more.trace lived.life more.life;
      at = subst (λ (s : SystemState). MatchesRows s now.model.limits books) (sym end)
          (record {
            limits_are = more.at.limits_are ∙ lived.at.limits_are;
            histories = more.at.histories;
          });
      devices_are = ap (λ (s : SystemState). s.devices) end ∙ more.devices_are;
    }

of_runs : (now : SystemState) (asked : List (List Event)) (replied : List (List Reply))
    (books : Books) (devices : List DeviceState) → LivedTo now asked replied books devices
    → HasLived now books devices
of_runs now asked replied books devices lived = record {
  runs = lived.runs;
  trace = lived.trace;
  life = lived.life;
  at = lived.at;
  devices_are = lived.devices_are;
}

-- ---- the step of a resync

some_pairs_least : (pairs : ℕ) → 1 ≤ some_pairs pairs
some_pairs_least pairs = by (pairs == 0) refl
  where
    by : (none : Bool) → (pairs == 0) ≡ none → 1 ≤ cond none 1 pairs
    by true is = omega arith
    by false is = grind (arith, nat_tests, is)

-- the answer and the books, if all books were accepted
abbrev if_accepted : Result (Unit {0}) Refusal → ℕ × Books → Result (ℕ × Books) Refusal
if_accepted accepted done = accepted >>= λ _. Ok done

-- the answer is the number of books
same_count : (accepted : Result (Unit {0}) Refusal) (count other : ℕ) (books rows : Books)
    → if_accepted accepted (count, books) ≡ Ok (other, rows)
    → if_accepted accepted (count, books) ≡ Ok (count, rows)
same_count (Ok done) count other books rows e = ap (λ (b : Books). Ok (count, b)) (same e)
  where
    same : ◌≡◌ {A = Result (ℕ × Books) Refusal} (Ok (count, books)) (Ok (other, rows))
        → books ≡ rows
    same e = ap (λ (r : Result (ℕ × Books) Refusal). elim r [
      | Ok p ↦ p.1
      | Err refusal ↦
          books
    ]) e
same_count (Err refusal) count other books rows e = absurd (no e)
  where
    no : ◌≡◌ {A = Result (ℕ × Books) Refusal} (Err refusal) (Ok (other, rows)) → ⊥
    no e = cc

-- a resync that was accepted
resync_made : (limits : Bounds) (books rows : Books) (pairs count : ℕ) → 1 ≤ pairs
    → resync_step limits books pairs ≡ Ok (count, rows) → IsResync limits books pairs rows
resync_made limits books rows pairs count least is = record {
  some = least;
  accepted = same_count (accept_books limits pairs (finite.entries books)) (finite.len books)
      count (books_after_resync limits books pairs) rows is;
}

-- it changed nothing, or was made
matched : (result : Result ℕ Denied) (step : Result (ℕ × Books) Refusal) (old new : Books)
    → MatchesStep result step old new
    → (new ≡ old) ⊎ ((count : ℕ) × (step ≡ Ok (count, new)))
matched (Ok answer) (Ok done) old new is =
    inr (done.0, ap (λ (b : Books). Ok (done.0, b)) (sym is.1))
matched (Ok answer) (Err refusal) old new is = absurd is
matched (Err (Refused refusal)) (Ok done) old new is = absurd is
matched (Err (Refused refusal)) (Err wanted) old new is = inl is.1
matched (Err (Fault fault)) step old new is = inl is

after_step : (step : Result (ℕ × Books) Refusal) (rows : Books) → IsAfterStep step rows
    → (count : ℕ) × (step ≡ Ok (count, rows))
after_step (Ok done) rows is = (done.0, ap (λ (b : Books). Ok (done.0, b)) (sym is))
after_step (Err refusal) rows is = absurd is

resynced : ResyncsContinueLives → (now : SystemState) (old rows : Books) (pairs : ℕ)
    (devices : List DeviceState) → IsResyncable now → IsResync now.model.limits old pairs rows
    → HasLived now old devices → HasLived now rows devices
resynced continue now old rows pairs devices ready is lived =
    let end = end_of now lived.trace in
    let then = continue now lived.runs lived.trace pairs rows ready lived.life
    (subst (λ (b : Books). IsResync end.model.limits b pairs rows)
    (sym lived.at.histories.rows_are)
    (subst (λ (l : Bounds). IsResync l old pairs rows) (sym lived.at.limits_are) is)) in
    let there = end-append now lived.trace then.0 in
    record {
      runs = lived.runs ++ whole_run then.0 ∷ [];
      trace = lived.trace ++ then.0;
      life = then.2;
      at = subst (λ (s : SystemState). MatchesRows s now.model.limits rows) (sym there)
          (record {
            limits_are = then.1.at.limits_are ∙ lived.at.limits_are;
            histories = then.1.at.histories;
          });
      devices_are = ap (λ (s : SystemState). s.devices) there ∙ then.1.same_devices
          ∙ lived.devices_are;
    }

-- ---- the calls

module _ {S : Type 0} (model : StoreModel S) where
  -- what led to the rows of a settled store led to all rows that a crash of it may leave
  settled_leaves : (now : SystemState) (store : S) (devices : List DeviceState)
      → model.premise store → IsSettled model store
      → ∥ HasLived now (model.books store) devices ∥₁ → (rows : Books)
      → model.may_leave store rows → ∥ HasLived now rows devices ∥₁
  settled_leaves now store devices premise settled lived rows left =
      subst (λ (b : Books). ∥ HasLived now b devices ∥₁) (sym (settled premise rows left)) lived

  pub stores_begin_lives : StoresBeginLives model
  stores_begin_lives now store premise settled at =
      let here : HasLived now (model.books store) now.devices = record {
        runs = [];
        trace = [];
        life = refl;
        at = record { limits_are = refl; histories = at.histories };
        devices_are = refl;
      } in
      record {
        limits = sym at.limits_are;
        has = λ holds. ∣ here ∣₁;
        leaves = settled_leaves now store now.devices premise settled ∣ here ∣₁;
      }

  pub openings_lead_on : OpeningsLeadOn model
  openings_lead_on now rows store devices lived limits opens =
      let found : model.premise store → ∥ HasLived now (model.books store) devices ∥₁ =
      λ holds. subst (λ (b : Books). ∥ HasLived now b devices ∥₁) (sym (opens.has holds)) lived in
      record {
        limits = limits;
        has = found;
        leaves = λ rows left. settled_leaves now store devices (opens.opened rows left)
            opens.settled (found (opens.opened rows left)) rows left;
      }

  pub creations_begin_lives : NewStoresStart → CreationsBeginLives model
  creations_begin_lives starts now store none limits opens =
      let here : HasLived now finite.empty now.devices = record {
        runs = [];
        trace = [];
        life = refl;
        at = starts now none;
        devices_are = refl;
      } in
      openings_lead_on now finite.empty store now.devices ∣ here ∣₁ limits opens

  pub runs_lead_on : RunsLeadOn model
  runs_lead_on now first last asked replied before after led premise settled same lives =
      record {
        limits = same ∙ led.limits;
        has = λ holds. ∥∥₁_elim (led.has premise) squash₁ (λ lived. ∥∥₁_map
            ((from lived).has holds) (λ more. join (model.books last) lived more));
        leaves = λ rows left. ∥∥₁_elim (led.has premise) squash₁ (λ lived. ∥∥₁_map
            ((from lived).leaves rows left) (λ more. join rows lived more));
      }
    where
      from : (lived : HasLived now (model.books first) before)
          → LedTo model (end_of now lived.trace) last asked replied after
      from lived = lives premise settled (end_of now lived.trace) (record {
        limits_are = lived.at.limits_are ∙ sym led.limits;
        histories = lived.at.histories;
      }) lived.devices_are

      join : (rows : Books) (lived : HasLived now (model.books first) before)
          → LivedTo (end_of now lived.trace) asked replied rows after → HasLived now rows after
      join rows lived more = lived_on now (model.books first) rows before after lived
          (of_runs (end_of now lived.trace) asked replied rows after more)

  pub restarts_lead_on : RestartsLeadOn model
  restarts_lead_on now old new devices led restarts =
      let found : model.premise new → ∥ HasLived now (model.books new) devices ∥₁ =
      λ holds. ∥∥₁_elim (restarts.finds holds) squash₁ (led.leaves (model.books new)) in
      record {
        limits = restarts.limits ∙ led.limits;
        has = found;
        leaves = λ rows left. settled_leaves now new devices (restarts.opened rows left)
            restarts.settled (found (restarts.opened rows left)) rows left;
      }

  pub resyncs_lead_on : ResyncsContinueLives → ResyncsLeadOn model
  resyncs_lead_on continue now old new pairs result devices ready led resyncs = record {
    limits = resyncs.terms.limits ∙ led.limits;
    has = λ holds. ⊎_elim
        (λ same. subst (λ (b : Books). ∥ HasLived now b devices ∥₁) (sym same)
        (led.has (resyncs.terms.premise holds)))
        (λ made. goes (model.books new) (resyncs.terms.premise holds) made)
        (matched result step (model.books old) (model.books new) (resyncs.step holds));
    leaves = λ rows left. ⊎_elim
        (λ before. led.leaves rows before)
        (λ made. goes rows made.0 (after_step step rows made.1))
        (resyncs.crash.only rows left);
  }
    where
      step : Result (ℕ × Books) Refusal
      step = resync_step (model.limits old) (model.books old) (some_pairs pairs)

      goes : (rows : Books) → model.premise old → (count : ℕ) × (step ≡ Ok (count, rows))
          → ∥ HasLived now rows devices ∥₁
      goes rows premise made = ∥∥₁_map (led.has premise)
          (resynced continue now (model.books old) rows (some_pairs pairs) devices ready
          (subst (λ (l : Bounds). IsResync l (model.books old) (some_pairs pairs) rows) led.limits
          (resync_made (model.limits old) (model.books old) rows (some_pairs pairs) made.0
          (some_pairs_least pairs) made.1)))
