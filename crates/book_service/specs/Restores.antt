-- A store that is put back from a copy: what was done since the copy is lost, and a resync follows.
use Rattle.std.specs.Prelude.{ℕ, ◌≡◌, ◌<◌, ◌⊎◌, List, [], ◌∷◌, ◌++◌, length, Option, Some}
use Rattle.std.specs.FinMap as finite
use Rattle.book_model.specs.declared.answers.Stored.{Stored}
use Rattle.book_model.specs.declared.page.Page.{Page as SyncPage}
use Rattle.book_model.specs.declared.refusal.Refusal.TheVariants.{BadToken}
use Rattle.book_model.specs.declared.refusal.TokenCause.TheVariants.{TooOld}
use Rattle.book_model.specs.declared.token.Token.{Token}
use Rattle.book_model.specs.Pages.{token_of}
use Rattle.book_laws.specs.EventLogs.{live}
use Rattle.book_laws.specs.StoreHistories.{AreSoundHistories, BookHistory, IsSoundStoreHistory}
use Rattle.book_laws.specs.StoreHistories.{rows_of}
use Rattle.book_resync.specs.Resyncing.{number_after_pairs}
use Rattle.book_resync.specs.ResyncLaws.{IsResync}
use Rattle.book_commands.specs.declared.reply.Reply.TheVariants.{Page, Refused}
use Rattle.book_service.specs.Faults.{IsFault}
use Rattle.book_service.specs.Promise.{HasWellFormedRows, RequestsPageAfter}
use Rattle.book_service.specs.Runs.{SystemState, TraceStep, Run, end_of}

-- ---- a store that was put back

-- The copy is of the state `early`, from which the run `lost` went on. A resync of the copy, of
-- this many pairs, led to the state `after`. Its devices are any: they know what was lost.
pub record IsRestored (early : SystemState) (lost : List TraceStep) (pairs : ℕ)
    (after : SystemState) : Type 0 where
  pub sound : IsSoundStoreHistory early.model
  pub well_formed : HasWellFormedRows early
  pub ran : Run early lost
  pub resynced : IsResync early.model.limits (rows_of early.model.books) pairs
      (rows_of after.model.books)
  pub limits_are : after.model.limits ≡ early.model.limits
  pub histories : AreSoundHistories after.model.books

-- the copy has the book of this name, and the resync takes more numbers of it than the run did
pub record SkipsLostNumbers (early : SystemState) (lost : List TraceStep) (pairs : ℕ)
    (name : List ℕ) : Type 0 where
  pub copied : BookHistory
  pub found : finite.get early.model.books name ≡ Some copied
  pub more : (late : BookHistory) →
      finite.get (end_of early lost).model.books name ≡ Some late →
      length late.log < number_after_pairs (length copied.log) pairs

-- ---- laws

-- If a book returned a page in the time that was lost, then every later request with the page's
-- token is refused, as the token is too old; or the reply is a fault. So each device starts again.
abbrev pub LostTokensAreRefused : Type 0
LostTokensAreRefused = (early after : SystemState) (before rest later : List TraceStep)
    (asked again : TraceStep) (pairs : ℕ) (name : List ℕ) (token : Option Token)
    (page : SyncPage) →
    IsRestored early (before ++ asked ∷ rest) pairs after →
    SkipsLostNumbers early (before ++ asked ∷ rest) pairs name →
    RequestsPageAfter (end_of early before) asked.event name token → asked.reply ≡ Page page →
    Run after (later ++ again ∷ []) →
    RequestsPageAfter (end_of after later) again.event name (Some (token_of page)) →
    (again.reply ≡ Refused (BadToken TooOld)) ⊎ IsFault again.reply

-- If a card was live in the time that was lost, and a later card of its UID has its version, then
-- both are the same card. So no change that expects a version of that time overwrites another card.
abbrev pub LostVersionsNameOneCard : Type 0
LostVersionsNameOneCard = (early after : SystemState) (before rest later : List TraceStep)
    (pairs : ℕ) (name uid : List ℕ) (old new : BookHistory) (lost stored : Stored) →
    IsRestored early (before ++ rest) pairs after →
    SkipsLostNumbers early (before ++ rest) pairs name →
    finite.get (end_of early before).model.books name ≡ Some old →
    finite.get (live old.log) uid ≡ Some lost →
    Run after later →
    finite.get (end_of after later).model.books name ≡ Some new →
    finite.get (live new.log) uid ≡ Some stored →
    lost.version ≡ stored.version → lost.card ≡ stored.card
