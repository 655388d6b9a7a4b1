-- The effect of a store call for a command, on rows and so on store histories.
use Rattle.book_service.specs.internal.TextParsers.{ParserReturns}
use Rattle.std.proofs.Common.{◌≡◌, ℕ, List, Result, Ok, Err, refl, sym, ap, ◌∙◌, subst, ⊎_elim, inl}
use Rattle.std.proofs.Common.{inr, ◌⊎◌}
use Rattle.book_model.specs.declared.denied.Denied.{Denied}
use Rattle.book_model.specs.declared.denied.Denied.TheVariants.{Refused, Fault}
use Rattle.book_model.specs.declared.denied.Fault.{Fault as FaultKind}
use Rattle.book_model.specs.declared.refusal.Refusal.{Refusal}
use Rattle.book_model.specs.Bounds.{Bounds}
use Rattle.book_model.specs.Books.{Books}
use Rattle.book_model.specs.CallOutcomes.{◌>>=◌, MatchesStep, MatchesQuery}
use Rattle.book_laws.specs.Calls.{Call, CallAnswer, map_answer, answer_in_state, call_on_histories}
use Rattle.book_laws.specs.Refinement.{AreHistoriesOf, RefinesHistories}
use Rattle.book_laws.specs.HistoryQueries.{book_line_on_histories, history_line}
use Rattle.book_laws.specs.StoreHistories.{BookHistory, BookHistories, StoreHistory, rows_of}
use Rattle.book_laws.specs.HistorySteps.{history_named}
use Rattle.book_commands.specs.declared.command.Command.{Command}
use Rattle.book_commands.specs.declared.reply.Reply.{Reply}
use Rattle.book_commands.specs.declared.reply.Reply.TheVariants as reply
use Rattle.book_service.specs.Commands.{Outcome, IsCallWithText, outcome_with, HasOutcome}
use Rattle.book_service.specs.Commands.{DeliversOutcome, PerformsCommand}
use Rattle.book_service.specs.internal.RowSteps.{IsPerformed, CommandOnRows, first_denial}
use Rattle.book_service.specs.internal.RowSteps.{IsFaultReply}
use Rattle.book_service.specs.Replies.{UnchangedIfReadOnly, RepliesReturned, reply_to}

-- ---- store histories and their rows

-- what holds of a store history holds of its limits and its rows
pub from_history : (P : Bounds → Books → Type 0) (model : StoreHistory) {limits : Bounds} {books :
    Books} → model.limits ≡ limits → AreHistoriesOf books model.books
    → P model.limits (rows_of model.books) → P limits books
from_history P model {limits = limits} same w p =
    subst (P limits) w.rows_are (subst (λ (l : Bounds). P l (rows_of model.books)) same p)

pub same_rows : (model : StoreHistory) (old new : Books) → new ≡ old
    → AreHistoriesOf old model.books → AreHistoriesOf new model.books
same_rows model old new same w = record { sound = w.sound; rows_are = w.rows_are ∙ sym same }

-- ---- unchanged rows

pub keeps_same : {S : Type 0} (r : Reply) (old new : S) → new ≡ old → UnchangedIfReadOnly r old new
keeps_same (reply.Refused refusal) old new same = same
keeps_same (reply.Fault fault) old new same = same
keeps_same (reply.Created id) old new same = tt
keeps_same (reply.Books lines) old new same = same
keeps_same (reply.Card uid version card) old new same = same
keeps_same (reply.Put answer) old new same = tt
keeps_same (reply.Gone number) old new same = tt
keeps_same (reply.Moved numbers) old new same = tt
keeps_same (reply.Imported tally) old new same = tt
keeps_same (reply.Forgot dropped horizon) old new same = tt
keeps_same (reply.Page page) old new same = same
keeps_same (reply.Tally tally) old new same = same
keeps_same (reply.Csv text) old new same = same
keeps_same (reply.People expansion) old new same = same

-- ---- a fault

-- a fault leaves the histories unchanged, whatever the outcome would be
pub fault_performs : (model : StoreHistory) (command : Command) (fault : FaultKind) (r : Reply)
    → r ≡ reply.Fault fault → PerformsCommand model command r model.books
fault_performs model command fault r is = inr (fault, is, refl)

-- ---- a call that changes books

-- f turns the value into a reply, and g into what a call returned
module _ {A : Type 0} (f : A → Reply) (g : A → CallAnswer) (command : Command) (says : (x : A)
    → RepliesReturned command (g x) (f x)) where
  pub did_keep : (old new : Books) (call_result : Result A Denied) (step :
      Result (A × Books) Refusal) → ((x : A) → UnchangedIfReadOnly (f x) old new)
      → MatchesStep call_result step old new → UnchangedIfReadOnly (reply_to f call_result) old new
  did_keep old new (Ok x) step answers d = answers x
  did_keep old new (Err (Refused refusal)) (Ok done) answers d = absurd d
  did_keep old new (Err (Refused refusal)) (Err wanted) answers d = d.1
  did_keep old new (Err (Fault fault)) step answers d = d

  pub did_perform : (model : StoreHistory) (old new : Books) (call_result : Result A Denied) (step :
      Result (A × Books) Refusal) (outcome : Result (A × BookHistories) Refusal)
      → HasOutcome model command (map_answer g outcome) → AreHistoriesOf old model.books
      → RefinesHistories step outcome → MatchesStep call_result step old new
      → IsPerformed model command (reply_to f call_result) new
  did_perform model old new (Ok x) (Ok done) (Ok outcome) has_outcome w follows d = record {
    next = outcome.1;
    performs = inl (record {
      outcome = Ok (g outcome.0, outcome.1);
      has_outcome = has_outcome;
      delivers = (
        subst (λ y. RepliesReturned command (g y) (f x)) (d.0 ∙ follows.0) (says x),
        refl,
      );
    });
    histories = subst (λ (b : Books). AreHistoriesOf b outcome.1) (sym d.1) follows.1;
  }
  did_perform model old new (Ok x) (Ok done) (Err other) has_outcome w follows d = absurd follows
  did_perform model old new (Ok x) (Err refusal) outcome has_outcome w follows d = absurd d
  did_perform model old new (Err (Refused refusal)) (Ok done) outcome has_outcome w follows d =
      absurd d
  did_perform model old new (Err (Refused refusal)) (Err wanted) (Ok outcome) has_outcome w follows
      d = absurd follows
  did_perform model old new (Err (Refused refusal)) (Err wanted) (Err other) has_outcome w follows
      d = record {
        next = model.books;
        performs = inl (record {
          outcome = Err other;
          has_outcome = has_outcome;
          delivers = (ap (λ r. reply.Refused r) (d.0 ∙ follows), refl);
        });
        histories = same_rows model old new d.1 w;
      }
  did_perform model old new (Err (Fault fault)) step outcome has_outcome w follows d = record {
    next = model.books;
    performs = fault_performs model command fault (reply.Fault fault) refl;
    histories = same_rows model old new d w;
  }

  -- such a call performs its command, if the command's outcome is the call's
  pub did : (limits : Bounds) (old new : Books) (call_result : Result A Denied) (step :
      Result (A × Books) Refusal) (outcome : StoreHistory → Result (A × BookHistories) Refusal)
      → ((x : A) → UnchangedIfReadOnly (f x) old new)
      → ((model : StoreHistory) → model.limits ≡ limits → AreHistoriesOf old model.books
      → RefinesHistories step (outcome model))
      → ((model : StoreHistory) → HasOutcome model command (map_answer g (outcome model)))
      → MatchesStep call_result step old new
      → CommandOnRows limits old command (reply_to f call_result) new
  did limits old new call_result step outcome answers follows has_outcome d = record {
    kept = did_keep old new call_result step answers d;
    performed = λ model same w. did_perform model old new call_result step (outcome model)
        (has_outcome model) w (follows model same w) d;
  }

-- ---- a call that changes nothing

-- the same refusal, or every allowed value is the expected one
abbrev pub ReadFollows : {T A : Type 0} → (T → A → Type 0) → Result T Refusal → Result A Refusal
    → Type 0
ReadFollows {A = A} allows (Ok asked) (Ok outcome) = (answer : A) → allows asked answer
    → answer ≡ outcome
ReadFollows allows (Ok asked) (Err refusal) = ⊥
ReadFollows allows (Err refusal) (Ok outcome) = ⊥
ReadFollows allows (Err refusal) (Err other) = refusal ≡ other

-- the returned value is the expected one
pub returns_expected : {A : Type 0} (received outcome : Result A Refusal) → received ≡ outcome
    → ReadFollows (λ (t a : A). a ≡ t) received outcome
returns_expected (Ok received) outcome same =
    subst (λ m. ReadFollows (λ t a. a ≡ t) (Ok received) m) same (λ answer is. is)
returns_expected (Err refusal) outcome same =
    subst (λ m. ReadFollows (λ t a. a ≡ t) (Err refusal) m) same refl

pub read_keeps : {T A : Type 0} (allows : T → A → Type 0) (old new : Books) (call_result :
    Result A Denied) (asked : Result T Refusal) → MatchesQuery allows call_result asked old new
    → new ≡ old
read_keeps allows old new (Ok x) (Ok asked) d = d.1
read_keeps allows old new (Ok x) (Err refusal) d = absurd d
read_keeps allows old new (Err (Refused refusal)) (Ok asked) d = absurd d
read_keeps allows old new (Err (Refused refusal)) (Err wanted) d = d.1
read_keeps allows old new (Err (Fault fault)) asked d = d

module _ {T A : Type 0} (f : A → Reply) (g : A → CallAnswer) (allows : T → A → Type 0) (command :
    Command) (says : (x : A) → RepliesReturned command (g x) (f x)) where
  read_performs : (model : StoreHistory) (old new : Books) (call_result : Result A Denied) (asked :
      Result T Refusal) (outcome : Result A Refusal)
      → HasOutcome model command (answer_in_state g model.books outcome)
      → ReadFollows allows asked outcome → MatchesQuery allows call_result asked old new
      → PerformsCommand model command (reply_to f call_result) model.books
  read_performs model old new (Ok x) (Ok asked) (Ok outcome) has_outcome follows d =
      inl (record {
        outcome = Ok (g outcome, model.books);
        has_outcome = has_outcome;
        delivers = (
          subst (λ y. RepliesReturned command (g y) (f x)) (follows x d.0) (says x),
          refl,
        );
      })
  read_performs model old new (Ok x) (Ok asked) (Err other) has_outcome follows d = absurd follows
  read_performs model old new (Ok x) (Err refusal) outcome has_outcome follows d = absurd d
  read_performs model old new (Err (Refused refusal)) (Ok asked) outcome has_outcome follows d =
      absurd d
  read_performs model old new (Err (Refused refusal)) (Err wanted) (Ok outcome) has_outcome follows
      d = absurd follows
  read_performs model old new (Err (Refused refusal)) (Err wanted) (Err other) has_outcome follows
      d =
      inl (record {
        outcome = Err other;
        has_outcome = has_outcome;
        delivers = (ap (λ r. reply.Refused r) (d.0 ∙ follows), refl);
      })
  read_performs model old new (Err (Fault fault)) asked outcome has_outcome follows d =
      fault_performs model command fault (reply.Fault fault) refl

  -- such a call performs its command, if the command's outcome is the read
  pub received : (limits : Bounds) (old new : Books) (call_result : Result A Denied) (asked :
      Result T Refusal) (outcome : StoreHistory → Result A Refusal)
      → ((model : StoreHistory) → model.limits ≡ limits → AreHistoriesOf old model.books
      → ReadFollows allows asked (outcome model))
      → ((model : StoreHistory) → HasOutcome model command (answer_in_state g model.books
      (outcome model)))
      → MatchesQuery allows call_result asked old new
      → CommandOnRows limits old command (reply_to f call_result) new
  received limits old new call_result asked outcome follows has_outcome d =
      let same = read_keeps allows old new call_result asked d in
      record {
        kept = keeps_same (reply_to f call_result) old new same;
        performed = λ model limits_are w. record {
          next = model.books;
          performs = read_performs model old new call_result asked (outcome model)
              (has_outcome model) (follows model limits_are w) d;
          histories = same_rows model old new same w;
        };
      }

-- ---- a command whose text was denied

-- the reply is that denial, unless the book is missing
module _ {A : Type 0} (model : StoreHistory) (command : Command) (book : List ℕ) (reads :
    Result A Refusal → Type 0) (call : A → Call)
    (has_outcome : (outcome : Outcome) → IsCallWithText model book reads call outcome
    → HasOutcome model command outcome)
    (unnamed : (x : A) (refusal : Refusal) → history_named model.books book ≡ Err refusal
    → call_on_histories model.limits model.books (call x) ≡ Err refusal) where
  abbrev denial : Result BookHistory Refusal → Denied → Reply
  denial named error = first_denial (named >>= λ (history : BookHistory). Ok (history_line (
    book,
    history,
  ))) error

  refused_as : (r : Reply) (outcome : Outcome) (refusal : Refusal)
      → HasOutcome model command outcome → outcome ≡ Err refusal → r ≡ reply.Refused refusal
      → PerformsCommand model command r model.books
  refused_as r outcome refusal is same said = inl (record {
    outcome = outcome;
    has_outcome = is;
    delivers = subst (λ (m : Outcome). DeliversOutcome command model.books m r model.books)
        (sym same) (said, refl);
  })

  none_there : (read : Result A Refusal) (refusal : Refusal) → history_named model.books book
      ≡ Err refusal → outcome_with model book call read ≡ Err refusal
  none_there (Ok x) refusal none = unnamed x refusal none
  none_there (Err other) refusal none =
      ap (λ (named : Result BookHistory Refusal). ◌>>=◌ {B = CallAnswer × BookHistories} named
      (λ history. Err other)) none

  by_history : (error : Denied) (r : Reply) (named : Result BookHistory Refusal)
      → history_named model.books book ≡ named → ParserReturns {A = A} reads (Err error)
      → r ≡ denial named error → PerformsCommand model command r model.books
  by_history (Refused refusal) r (Ok history) there is same =
      refused_as r (outcome_with model book call (Err refusal)) refusal
      (has_outcome (outcome_with model book call (Err refusal)) (record {
        read = Err refusal;
        read_is = is;
        outcome_is = refl;
      }))
      (ap (λ (named : Result BookHistory Refusal). ◌>>=◌ {B = CallAnswer × BookHistories} named
      (λ s. Err refusal)) there) same
  by_history (Refused refusal) r (Err other) there is same =
      refused_as r (outcome_with model book call (Err refusal)) other
      (has_outcome (outcome_with model book call (Err refusal)) (record {
        read = Err refusal;
        read_is = is;
        outcome_is = refl;
      }))
      (none_there (Err refusal) other there) same
  by_history (Fault fault) r (Ok history) there is same = fault_performs model command fault r same
  by_history (Fault fault) r (Err other) there is same =
      refused_as r (outcome_with model book call is.1.0) other
      (has_outcome (outcome_with model book call is.1.0) (record {
        read = is.1.0;
        read_is = is.1.1;
        outcome_is = refl;
      }))
      (none_there is.1.0 other there) same

  pub denied_read : (error : Denied) (r : Reply) → ParserReturns {A = A} reads (Err error)
      → (r ≡ first_denial (book_line_on_histories model.books book) error) ⊎ IsFaultReply r
      → PerformsCommand model command r model.books
  denied_read error r is d =
      ⊎_elim
      (λ same. by_history error r (history_named model.books book) refl is same)
      (λ fault. fault_performs model command fault.fault r fault.reply_is)
      d
