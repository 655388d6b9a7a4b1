-- The token of a page, as calls come: its book keeps its id, and the numbers of its mark stay
-- within the history.
use Rattle.std.proofs.Common.{◌≡◌, ℕ, ◌+◌, ◌-◌, ◌<◌, ◌≤◌, ◌⊎◌, inl, inr, min, Bool, true, false}
use Rattle.std.proofs.Common.{cond, ◌&&◌, ◌==◌, List, [], ◌∷◌, length, Option, Some, None, Result}
use Rattle.std.proofs.Common.{Ok, Err, nat_lt, nat_le, get_or, refl, sym, ap, ◌∙◌, subst, ⊎_elim}
use Rattle.std.proofs.Common.{arith}
use Rattle.std.specs.Option.{option_map_or}
use Rattle.std.specs.FinMap as finite
use Rattle.std.proofs.lemmas.Bool.{cases_lt, leb-true, le-leb, both_ways, eq-eqb}
use Rattle.std.proofs.lemmas.Bool.Decides.{nat_tests}
use Rattle.std.proofs.lemmas.List.{length-append}
use Rattle.std.proofs.lemmas.Option.{same_Some}
use Rattle.book_model.specs.declared.page.Page.{Page}
use Rattle.book_model.specs.declared.refusal.Refusal.{Refusal}
use Rattle.book_model.specs.declared.refusal.Refusal.TheVariants.{NoSuchBook, BadToken, BadLimit}
use Rattle.book_model.specs.declared.refusal.TokenCause.{TokenCause}
use Rattle.book_model.specs.declared.refusal.TokenCause.TheVariants.{OtherBook, TooNew, TooOld}
use Rattle.book_model.specs.declared.token.Mark.{Mark}
use Rattle.book_model.specs.declared.token.Token.{Token}
use Rattle.book_model.specs.Bounds.{Bounds}
use Rattle.book_laws.specs.Calls.{Call, histories_after_call, histories_after_calls}
use Rattle.book_laws.specs.EventLogs.{last_number}
use Rattle.book_model.specs.CallOutcomes.{◌>>=◌, refuse_unless}
use Rattle.book_model.specs.Pages.{requested_mark, page_size, page_of, token_of}
use Rattle.book_laws.specs.Reports.{due, truncated_log_page, complete_log_page, report}
use Rattle.book_laws.specs.RemovalCounts.{RemovalsExceedKeep}
use Rattle.book_laws.specs.TokenLaws.{ForgotAbove, FreshTokensAreAccepted, TokensStayValid}
use Rattle.book_laws.specs.StoreHistories.{BookHistory, BookHistories, IsSoundHistory}
use Rattle.book_laws.specs.StoreHistories.{AreSoundHistories, StoreHistory}
use Rattle.book_laws.specs.HistorySteps.{report_on_histories}
use Rattle.book_model.proofs.AnswerLemmas.{same_answer, no_answer}
use Rattle.book_laws.proofs.ExtensionLemmas.{call_continues, calls_extend_histories}
use Rattle.book_laws.proofs.HistoryLemmas.{last-le}
use Rattle.book_laws.proofs.RemovalCountLemmas.{still_lost}

-- ---- a page of a book

-- the position of a page's mark in the log
pub record IsWithin (history : BookHistory) (mark : Mark) : Type 0 where
  pub at : mark.at ≤ length history.log
  pub base : mark.base ≤ length history.log
  pub remembered : history.horizon ≤ mark.base

first_within : (history : BookHistory) → IsSoundHistory history
    → IsWithin history (record { at = 0; base = length history.log })
first_within history sound = record {
  at = omega arith;
  base = omega arith;
  remembered = sound.within_log;
}

-- a token that was accepted
taken : (own at base old : Bool) (mark asked : Mark)
    → (refuse_unless own (BadToken OtherBook) >>= λ _. refuse_unless (at && base) (BadToken TooNew)
    >>= λ _. refuse_unless old (BadToken TooOld) >>= λ _. Ok mark) ≡ Ok asked
    → (at ≡ true) × (base ≡ true) × (old ≡ true) × (mark ≡ asked)
taken true true true true mark asked e = (refl, refl, refl, same_answer mark asked e)
taken true true true false mark asked e = absurd (no_answer (BadToken TooOld) asked e)
taken true true false old mark asked e = absurd (no_answer (BadToken TooNew) asked e)
taken true false base old mark asked e = absurd (no_answer (BadToken TooNew) asked e)
taken false at base old mark asked e = absurd (no_answer (BadToken OtherBook) asked e)

asked_within : (history : BookHistory) → IsSoundHistory history
    → (token : Option Token) (mark : Mark) → requested_mark history.id (length history.log)
    history.horizon token ≡ Ok mark → IsWithin history mark
asked_within history sound None mark e =
    subst (IsWithin history) (same_answer _ mark e) (first_within history sound)
asked_within history sound (Some token) mark e =
    let t = taken (token.book == history.id) (nat_le token.mark.at (length history.log))
    (nat_le token.mark.base (length history.log)) (nat_le history.horizon token.mark.base)
    token.mark mark e in
    subst (IsWithin history) t.3 (record {
      at = leb-true _ _ t.0;
      base = leb-true _ _ t.1;
      remembered = leb-true _ _ t.2;
    })

report_within : (history : BookHistory) → IsSoundHistory history → (mark : Mark) (k : ℕ)
    → IsWithin history mark → IsWithin history (report history.log mark k).mark
report_within history sound mark k w =
    let h = history.log in
    let number = last_number h (get_or (due h mark) (k - 1) []) in
    let low = last-le h (get_or (due h mark) (k - 1) []) in
    let base = w.base in
    let within_log = w.remembered in
    elim (nat_lt k (length (due h mark))) as
    (λ b. IsWithin history (cond b (truncated_log_page h mark k)
    (complete_log_page h mark)).mark) [
      | true ↦ record {
        at = low;
        base = omega (arith, low, base);
        remembered = omega (arith, within_log);
      }
      | false ↦ record { at = omega arith; base = omega arith; remembered = sound.within_log }
    ]

-- what an accepted report implies
pub record Answered (histories : BookHistories) (name : List ℕ) (page : Page) : Type 0 where
  pub history : BookHistory
  pub found : finite.get histories name ≡ Some history
  pub book : page.book ≡ history.id
  pub within : IsWithin history page.mark

pub answered : (store : StoreHistory) (name : List ℕ) (token : Option Token) (limit : Option ℕ)
    (page : Page) → AreSoundHistories store.books
    → report_on_histories store.limits store.books name token limit ≡ Ok page
    → Answered store.books name page
answered store name token limit page sound = by_history (finite.get store.books name) refl
  where
    by_size : (history : BookHistory) → finite.get store.books name ≡ Some history → (mark : Mark)
        → IsWithin history mark → (size : Result ℕ Refusal)
        → (size >>= λ k. Ok (page_of history.id (report history.log mark k))) ≡ Ok page
        → Answered store.books name page
    by_size history found mark w (Ok k) e =
        let found_history = same_answer _ page e in
        record {
          history = history;
          found = found;
          book = ap (λ (p : Page). p.book) (sym found_history);
          within = subst (λ (p : Page). IsWithin history p.mark) found_history
              (report_within history (sound name history found) mark k w);
        }
    by_size history found mark w (Err refusal) e = absurd (no_answer refusal page e)

    by_mark : (history : BookHistory) → finite.get store.books name ≡ Some history
        → (mark : Result Mark Refusal) → requested_mark history.id (length history.log)
        history.horizon token ≡ mark
        → (mark >>= λ m. page_size store.limits.page_max limit >>= λ k. Ok
        (page_of history.id (report history.log m k))) ≡ Ok page
        → Answered store.books name page
    by_mark history found (Ok mark) found_history e =
        by_size history found mark (asked_within history (sound name history found) token mark
        found_history) (page_size store.limits.page_max limit) e
    by_mark history found (Err refusal) found_history e = absurd (no_answer refusal page e)

    by_history : (o : Option BookHistory) → finite.get store.books name ≡ o
        → (option_map_or Ok o (Err NoSuchBook) >>= λ history. requested_mark history.id
        (length history.log) history.horizon token >>= λ m. page_size store.limits.page_max
        limit >>= λ k. Ok (page_of history.id (report history.log m k))) ≡ Ok page
        → Answered store.books name page
    by_history (Some history) found e =
        by_mark history found (requested_mark history.id (length history.log) history.horizon token)
        refl e
    by_history None found e = absurd (no_answer NoSuchBook page e)

-- ---- why a token is refused

size_no_token : (page_max : ℕ) (limit : Option ℕ) (f : ℕ → Result Page Refusal) (cause : TokenCause)
    → ((k : ℕ) → (page : Page) × (f k ≡ Ok page)) → (page_size page_max limit >>= f)
    ≡ Err (BadToken cause) → ⊥
size_no_token page_max None f cause each e = let p = each page_max in
    answer_no_error p.0 (sym p.1 ∙ e)
  where
    answer_no_error : (page : Page) → ◌≡◌ {A = Result Page Refusal} (Ok page) (Err (BadToken cause))
        → ⊥
    answer_no_error page n = cc
size_no_token page_max (Some limit) f cause each e = by (nat_lt 0 limit) e
  where
    answer_no_error : (page : Page) → ◌≡◌ {A = Result Page Refusal} (Ok page) (Err (BadToken cause))
        → ⊥
    answer_no_error page n = cc

    limit_no_token : ◌≡◌ {A = Result Page Refusal} (Err BadLimit) (Err (BadToken cause)) → ⊥
    limit_no_token n = cc

    by : (some : Bool) → ((refuse_unless some BadLimit >>= λ _. Ok (min limit page_max)) >>= f)
        ≡ Err (BadToken cause) → ⊥
    by true e = let p = each (min limit page_max) in answer_no_error p.0 (sym p.1 ∙ e)
    by false e = limit_no_token e

-- with the book's id, and numbers that aren't above its own, a token is refused only as too old
too_old : (own known old : Bool) (rest : Result Page Refusal) (mark : Mark) (f : Mark
    → Result Page Refusal) (cause : TokenCause) → own ≡ true → known ≡ true
    → (f mark ≡ Err (BadToken cause) → ⊥)
    → ((refuse_unless own (BadToken OtherBook) >>= λ _. refuse_unless known (BadToken TooNew) >>=
    λ _. refuse_unless old (BadToken TooOld) >>= λ _. Ok mark) >>= f) ≡ Err (BadToken cause)
    → (cause ≡ TooOld) × (old ≡ false)
too_old true true true rest mark f cause o k none e = absurd (none e)
too_old true true false rest mark f cause o k none e = (same_cause e, refl)
  where
    same_cause : ◌≡◌ {A = Result Page Refusal} (Err (BadToken TooOld)) (Err (BadToken cause))
        → cause ≡ TooOld
    same_cause n = cc
too_old true false old rest mark f cause o k none e = absurd (both_ways false refl k)
too_old false known old rest mark f cause o k none e = absurd (both_ways false refl o)

-- ---- a horizon that rose

-- A horizon is above a number only where a forget raised it there, or where the book had more
-- removals after the number than it keeps tombstones.
rose : (limits : Bounds) (calls : List Call) (histories : BookHistories) (name : List ℕ) (base : ℕ)
    (history new : BookHistory) → finite.get histories name ≡ Some history → history.horizon ≤ base
    → finite.get (histories_after_calls limits histories calls) name ≡ Some new → base < new.horizon
    → ForgotAbove limits histories calls name base
    ⊎ RemovalsExceedKeep (histories_after_calls limits histories calls) name base
rose limits [] histories name base history new found low at high =
    let same : history ≡ new = same_Some history new (sym found ∙ at) in
    let h = ap (λ (s : BookHistory). s.horizon) same in absurd (omega (arith, low, high, h))
rose limits (call ∷ calls) histories name base history new found low at high =
    let one = call_continues limits histories call name history found in
    let next = one.0 in
    ⊎_elim
    (λ above. ⊎_elim
    (λ same. absurd (omega (arith, low, above, same)))
    (λ raised. ⊎_elim
    (λ forgot. inl (record {
      earlier = [];
      later = calls;
      upto = next.horizon;
      above = above;
      calls_are = ap (λ c. c ∷ calls) forgot.call_is;
      dropped = forgot.dropped;
      histories_left = forgot.left;
      accepted = forgot.accepted;
    }))
    (λ lost.
    let g = calls_extend_histories limits (histories_after_call limits histories call) calls name
    next one.1 in
    inr (record {
      history = g.0;
      found_history = g.1;
      more = still_lost next g.0 base g.2 (lost base low above);
    }))
    raised)
    one.2.horizon)
    (λ below. ⊎_elim
    (λ f. inl (record {
      earlier = call ∷ f.earlier;
      later = f.later;
      upto = f.upto;
      above = f.above;
      calls_are = ap (λ cs. call ∷ cs) f.calls_are;
      dropped = f.dropped;
      histories_left = f.histories_left;
      accepted = f.accepted;
    }))
    (λ lost. inr lost)
    (rose limits calls (histories_after_call limits histories call) name base next new one.1 below
    at high))
    (cases_lt base next.horizon)

-- ---- the whole

-- the book of a page in a later state, where it refuses the page's token
record IsRefused (limits : Bounds) (histories : BookHistories) (calls : List Call) (name : List ℕ)
    (page : Page) (cause : TokenCause) : Type 0 where
  old : Answered histories name page
  new : BookHistory
  found : finite.get (histories_after_calls limits histories calls) name ≡ Some new
  cause_is : cause ≡ TooOld
  above : page.mark.base < new.horizon

refused_later : (store : StoreHistory) (name : List ℕ) (token : Option Token) (limit again :
    Option ℕ) (page : Page) (calls : List Call) (cause : TokenCause) → AreSoundHistories store.books
    → report_on_histories store.limits store.books name token limit ≡ Ok page
    → report_on_histories store.limits (histories_after_calls store.limits store.books calls) name
    (Some (token_of page)) again ≡ Err (BadToken cause)
    → IsRefused store.limits store.books calls name page cause
refused_later store name token limit again page calls cause sound made refused =
    let a = answered store name token limit page sound made in
    let g = calls_extend_histories store.limits store.books calls name a.history a.found in
    let new = g.0 in
    let goes = g.2 in
    let longer : length new.log ≡ length goes.later + length a.history.log = ap length goes.log
    ∙ length-append goes.later a.history.log in
    let at = a.within.at in
    let base = a.within.base in
    let own : (page.book == new.id) ≡ true = eq-eqb page.book new.id (a.book ∙ sym goes.id) in
    let known : (nat_le page.mark.at (length new.log) && nat_le page.mark.base (length new.log))
    ≡ true =
    ap (λ b. b && nat_le page.mark.base (length new.log)) (le-leb _ _ (omega (arith, longer, at)))
    ∙ le-leb _ _ (omega (arith, longer, base)) in
    let sized : Mark → Result Page Refusal =
    λ m. page_size store.limits.page_max again >>= λ k. Ok
    (page_of new.id (report new.log m k)) in
    let refused_there : ((requested_mark new.id (length new.log) new.horizon (Some (token_of page)))
    >>= sized) ≡ Err (BadToken cause) =
    ap (λ (o : Option BookHistory). option_map_or Ok o (Err NoSuchBook) >>= asked again) (sym g.1)
    ∙ refused in
    let why = too_old (page.book == new.id) (nat_le page.mark.at (length new.log)
    && nat_le page.mark.base (length new.log)) (nat_le new.horizon page.mark.base)
    (Err BadLimit) page.mark sized cause own known
    (size_no_token store.limits.page_max again
    (λ k. Ok (page_of new.id (report new.log page.mark k))) cause
    (λ k. (page_of new.id (report new.log page.mark k), refl)))
    refused_there in
    record {
      old = a;
      new = new;
      found = g.1;
      cause_is = why.0;
      above = above new.horizon page.mark.base why.1;
    }
  where
    asked : Option ℕ → BookHistory → Result Page Refusal
    asked limit history = requested_mark history.id (length history.log) history.horizon
        (Some (token_of page)) >>= λ m. page_size store.limits.page_max limit >>= λ k. Ok
        (page_of history.id (report history.log m k))

    above : (m n : ℕ) → nat_le m n ≡ false → n < m
    above m n e = grind (arith, nat_tests, e)

pub tokens_stay_valid : TokensStayValid
tokens_stay_valid store name token limit again page calls cause sound made refused =
    let r = refused_later store name token limit again page calls cause sound made refused in (
      r.cause_is,
      rose store.limits calls store.books name page.mark.base r.old.history r.new
          r.old.found r.old.within.remembered r.found r.above,
    )

pub fresh_tokens_are_accepted : FreshTokensAreAccepted
fresh_tokens_are_accepted store name token limit again page cause sound made refused =
    let r = refused_later store name token limit again page [] cause sound made refused in
    let same : r.old.history ≡ r.new = same_Some r.old.history r.new (sym r.old.found ∙ r.found) in
    let horizon = ap (λ (s : BookHistory). s.horizon) same in
    let low = r.old.within.remembered in
    let high = r.above in
    absurd (omega (arith, horizon, low, high))
