-- With which status a conversion ends.
use Rattle.std.proofs.Common.{◌≡◌, ◌<◌, ◌&&◌, ℕ, Bool, MatchResult, IfOk, IfSome, Option, Some, None}
use Rattle.std.proofs.Common.{Result, Ok, Err, arith, subst}
use Rattle.std.proofs.lemmas.Result.{IfOk-weaker}
use Rattle.convert_report.specs.declared.ledger.Summary.{Summary}
use Rattle.cli_convert.specs.Endings.{Ends, status_of}

-- A status below 3 is that of the summary, of which something is known.
pub ends : {Stop : Type 0} (done : Result Summary Stop) (shown photos lost : Bool)
    (status : ℕ) (Done : Summary → Type 0) → shown ≡ photos
    → MatchResult done (λ summary. status ≡ status_of (shown && lost) summary) (λ _. status ≡ 3)
    → IfOk done Done → status < 3 → Ends photos Done status
ends (Ok summary) shown photos lost status Done same is knows less =
    (summary, lost, knows, subst (λ b. status ≡ status_of (b && lost) summary) same is)
ends (Err stop) shown photos lost status Done same is knows less =
    absurd (omega (arith, less, is))

-- The same, if it is known of what was chosen, and wanted.
pub ends_so : {Stop A : Type 0} (done : Result Summary Stop) (shown photos lost : Bool)
    (status : ℕ) (chosen : Option A) (Wanted : Type 0) (Done : A → Summary → Type 0)
    → shown ≡ photos
    → MatchResult done (λ summary. status ≡ status_of (shown && lost) summary) (λ _. status ≡ 3)
    → IfOk done (λ summary. IfSome chosen (λ a. Wanted → Done a summary)) → status < 3
    → IfSome chosen (λ a. Wanted → Ends photos (Done a) status)
ends_so done shown photos lost status None Wanted Done same is knows less = tt
ends_so done shown photos lost status (Some a) Wanted Done same is knows less = λ wants.
    ends done shown photos lost status (Done a) same is
    (IfOk-weaker done _ _ (λ summary does. does wants) knows) less
