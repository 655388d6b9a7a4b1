-- How long a page's token is accepted (RFC 6578, section 3.2, the precondition valid-sync-token).
use Rattle.std.specs.Prelude.{ℕ, ◌≡◌, ◌≢◌, ◌<◌, ◌⊎◌, List, ◌∷◌, ◌++◌, Option, Some, Ok, Err}
use Rattle.book_model.specs.declared.page.Page.{Page}
use Rattle.book_model.specs.declared.refusal.Refusal.TheVariants.{BadToken}
use Rattle.book_model.specs.declared.refusal.TokenCause.{TokenCause}
use Rattle.book_model.specs.declared.refusal.TokenCause.TheVariants.{TooOld}
use Rattle.book_model.specs.declared.token.Token.{Token}
use Rattle.book_model.specs.Bounds.{Bounds}
use Rattle.book_model.specs.Pages.{token_of}
use Rattle.book_laws.specs.Calls.{Call, ForgetCall, histories_after_calls}
use Rattle.book_laws.specs.RemovalCounts.{RemovalsExceedKeep}
use Rattle.book_laws.specs.StoreHistories.{BookHistories, AreSoundHistories, StoreHistory}
use Rattle.book_laws.specs.HistoryChanges.{forget_on_histories}
use Rattle.book_laws.specs.HistorySteps.{report_on_histories}

-- One of the calls was an accepted forget of the book, up to a number above this one.
pub record ForgotAbove (limits : Bounds) (histories : BookHistories) (calls : List Call)
    (name : List ℕ) (base : ℕ) : Type 0 where
  pub earlier : List Call
  pub later : List Call
  pub upto : ℕ
  pub above : base < upto
  pub calls_are : calls ≡ earlier ++ ForgetCall name upto ∷ later
  pub dropped : ℕ
  pub histories_left : BookHistories
  pub accepted : forget_on_histories (histories_after_calls limits histories earlier) name upto
      ≡ Ok (dropped, histories_left)

-- The book of a page refuses the page's token only as too old, and only where a forget above the
-- token's base was accepted since, or where the book had more removals after that base than it
-- keeps tombstones.
abbrev pub TokensStayValid : Type 0
TokensStayValid =
    (store : StoreHistory) (name : List ℕ) (token : Option Token) (limit again : Option ℕ)
    (page : Page) (calls : List Call) (cause : TokenCause) → AreSoundHistories store.books →
    report_on_histories store.limits store.books name token limit ≡ Ok page →
    report_on_histories store.limits (histories_after_calls store.limits store.books calls) name
    (Some (token_of page)) again ≡ Err (BadToken cause) →
    (cause ≡ TooOld)
    × (ForgotAbove store.limits store.books calls name page.mark.base
    ⊎ RemovalsExceedKeep (histories_after_calls store.limits store.books calls) name page.mark.base)

-- and it accepts the token on the histories that returned the page
abbrev pub FreshTokensAreAccepted : Type 0
FreshTokensAreAccepted = (store : StoreHistory) (name : List ℕ) (token : Option Token)
    (limit again : Option ℕ) (page : Page) (cause : TokenCause) → AreSoundHistories store.books →
    report_on_histories store.limits store.books name token limit ≡ Ok page →
    report_on_histories store.limits store.books name (Some (token_of page)) again
    ≢ Err (BadToken cause)
