-- Steps and runs.
use Rattle.std.proofs.Common.{◌≡◌, List, [], ◌∷◌, ◌++◌, refl, sym, ap, ◌∙◌, subst, ◌≢◌, ℕ, zero}
use Rattle.std.proofs.Common.{suc, Some, None, slice_get, slice_set, ⊎_elim, inl, inr, ◌⊎◌, arith}
use Rattle.std.proofs.lemmas.Option.{same_Some}
use Rattle.book_model.specs.Bounds.{IsInRange}
use Rattle.book_laws.specs.RunLaws.{CallsKeepHistoriesSound}
use Rattle.book_laws.specs.StoreHistories.{BookHistories, AreSoundHistories, IsSoundStoreHistory}
use Rattle.book_service.specs.declared.event.Event.{Event}
use Rattle.book_service.specs.declared.event.Event.TheVariants.{Do, Ask}
use Rattle.book_commands.specs.declared.reply.Reply.{Reply}
use Rattle.book_service.specs.Promise.{Always, RunsAppend}
use Rattle.book_service.specs.Runs.{SystemState, Step, TraceStep, Run, end_of}
use Rattle.book_service.proofs.RunLemmas.{Leads, EventLeads, leads_nowhere_by, performs_leads}

-- ---- list indices

-- the element at an index after an element was set
pub place_set : {A : Type 0} (xs : List A) (i j : ℕ) (x old was : A) → slice_get xs i ≡ Some old
    → slice_get xs j ≡ Some was
    → ((j ≡ i) × (slice_get (slice_set xs j x) i ≡ Some x) × (was ≡ old))
    ⊎ ((j ≢ i) × (slice_get (slice_set xs j x) i ≡ Some old))
place_set [] i j x old was a b = absurd (let no : None ≡ Some old = a in cc)
place_set (y ∷ ys) zero zero x old was a b = inl (refl, refl, same_Some was old (sym b ∙ a))
place_set (y ∷ ys) zero (suc j) x old was a b = inr (λ e. absurd (omega (arith, e)), a)
place_set (y ∷ ys) (suc i) zero x old was a b = inr (λ e. absurd (omega (arith, e)), a)
place_set (y ∷ ys) (suc i) (suc j) x old was a b =
    ⊎_elim (λ same. inl (ap (λ n. suc n) same.0, same.1, same.2))
    (λ other. inr (λ e. other.0 (omega (arith, e)), other.1)) (place_set ys i j x old was a b)

-- ---- one step

pub step_limits : (now next : SystemState) (event : Event) (r : Reply) → Step now event r next
    → next.model.limits ≡ now.model.limits
step_limits now next (Do command) r s = ap (λ (m : SystemState). m.model.limits) s.2
step_limits now next (Ask i limit) r s = ap (λ (m : SystemState). m.model.limits) s.next_is

-- calls lead from the books to the next
pub event_leads : (now next : SystemState) (event : Event) (r : Reply) → Step now event r next
    → EventLeads now.model.limits now.model.books next.model.books event r
event_leads now next (Do command) r s =
    subst (λ (books : BookHistories). EventLeads now.model.limits now.model.books books (Do command)
    r) (sym (ap (λ (m : SystemState). m.model.books) s.2)) (performs_leads now.model command r
    s.0 s.1)
event_leads now next (Ask i limit) r s =
    leads_nowhere_by now.model.limits now.model.books next.model.books (Ask i limit) r
    (ap (λ (m : SystemState). m.model.books) s.next_is)

abbrev pub step_leads : (now next : SystemState) (event : Event) (r : Reply) → Step now event r next
    → Leads now.model.limits now.model.books next.model.books
step_leads now next event r s = (event_leads now next event r s).leads

-- calls lead from a sound store history to a sound one
pub calls_keep_sound : CallsKeepHistoriesSound → (now next : SystemState)
    → IsSoundStoreHistory now.model → next.model.limits ≡ now.model.limits
    → Leads now.model.limits now.model.books next.model.books → IsSoundStoreHistory next.model
calls_keep_sound stays now next w same leads = record {
  limits = subst IsInRange (sym same) w.limits;
  books = subst AreSoundHistories (sym leads.new_is) (stays now.model leads.calls w.limits w.books);
}

pub steps_keep_sound : CallsKeepHistoriesSound
    → (now next : SystemState) (event : Event) (r : Reply) → IsSoundStoreHistory now.model
    → Step now event r next → IsSoundStoreHistory next.model
steps_keep_sound stays now next event r w s =
    calls_keep_sound stays now next w (step_limits now next event r s) (step_leads now next event r
    s)

-- ---- runs

-- what holds of every single step holds at every step of a run
pub always : CallsKeepHistoriesSound → (holds : SystemState → Event → Reply → SystemState → Type 0)
    → ((now next : SystemState) (event : Event) (r : Reply) → IsSoundStoreHistory now.model
    → Step now event r next → holds now event r next) → Always holds
always stays holds each now [] w run = tt
always stays holds each now (h ∷ rest) w run = (
  each now h.after h.event h.reply w run.0,
  always stays holds each h.after rest (steps_keep_sound stays now h.after h.event h.reply w
      run.0) run.1,
)

pub run_limits : (now : SystemState) (run : List TraceStep) → Run now run
    → (end_of now run).model.limits ≡ now.model.limits
run_limits now [] steps = refl
run_limits now (h ∷ run) steps = run_limits h.after run steps.1
    ∙ step_limits now h.after h.event h.reply steps.0

pub runs_split : (now : SystemState) (run more : List TraceStep) → Run now (run ++ more)
    → Run now run × Run (end_of now run) more
runs_split now [] more steps = (tt, steps)
runs_split now (h ∷ run) more steps = let rest = runs_split h.after run more steps.1 in
    ((steps.0, rest.0), rest.1)

pub runs_join : (now : SystemState) (run more : List TraceStep) → Run now run
    → Run (end_of now run) more → Run now (run ++ more)
runs_join now [] more steps then = then
runs_join now (h ∷ run) more steps then = (steps.0, runs_join h.after run more steps.1 then)

pub end-append : (now : SystemState) (run more : List TraceStep)
    → end_of now (run ++ more) ≡ end_of (end_of now run) more
end-append now [] more = refl
end-append now (h ∷ run) more = end-append h.after run more

pub runs_append : RunsAppend
runs_append now run more = (
  λ all. runs_split now run more all,
  λ both. runs_join now run more both.0 both.1,
)
