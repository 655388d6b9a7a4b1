-- The life of a store over all its calls: runs, restarts and resyncs, in any order.
use Rattle.std.specs.Prelude.{ℕ, ◌≡◌, List, Result}
use Rattle.std.specs.FinMap as finite
use Rattle.book_model.specs.declared.denied.Denied.{Denied}
use Rattle.book_model.specs.Books.{Books}
use Rattle.book_model.specs.Devices.{DeviceState}
use Rattle.sync_core.specs.StoreModels.{StoreModel}
use Rattle.sync_core.specs.StoreCrashes.{IsSettled, RestartsFrom}
use Rattle.book_resync.specs.Resyncs.{Resyncs}
use Rattle.book_commands.specs.declared.reply.Reply.{Reply}
use Rattle.book_service.specs.declared.event.Event.{Event}
use Rattle.book_service.specs.Crashes.{LivesOn}
use Rattle.book_service.specs.Lives.{IsLife, ServerRun}
use Rattle.book_service.specs.Resyncs.{IsResyncable}
use Rattle.book_service.specs.Runs.{SystemState, TraceStep, MatchesRows, end_of}

-- some life from this state led to these rows and devices
pub record HasLived (now : SystemState) (rows : Books) (devices : List DeviceState)
    : Type 0 where
  pub runs : List ServerRun
  pub trace : List TraceStep
  pub life : IsLife now runs trace
  pub at : MatchesRows (end_of now trace) now.model.limits rows
  pub devices_are : (end_of now trace).devices ≡ devices

module _ {S : Type 0} (model : StoreModel S) where
  -- The store has the limits of the state. Some life from this state led to the rows of the store,
  -- if its premise holds, and to all rows that a crash of it may leave.
  pub record HasLivedTo (now : SystemState) (store : S) (devices : List DeviceState)
      : Type 0 where
    pub limits : model.limits store ≡ now.model.limits
    pub has : model.premise store → ∥ HasLived now (model.books store) devices ∥₁
    pub leaves : (rows : Books) → model.may_leave store rows → ∥ HasLived now rows devices ∥₁

  -- A store that was opened, over files with these rows, or created: it has them, if its premise
  -- holds. If a crash of it may leave any rows at all, the premise holds.
  pub record OpensWith (rows : Books) (store : S) : Type 0 where
    pub has : model.premise store → model.books store ≡ rows
    pub settled : IsSettled model store
    pub opened : (left : Books) → model.may_leave store left → model.premise store

  -- ---- laws

  -- the life of a store begins in each state that matches its rows
  abbrev pub StoresBeginLives : Type 0
  StoresBeginLives = (now : SystemState) (store : S) →
      model.premise store → IsSettled model store →
      MatchesRows now (model.limits store) (model.books store) →
      HasLivedTo now store now.devices

  -- A creation begins a life in each state without books, whatever was left of an earlier one.
  abbrev pub CreationsBeginLives : Type 0
  CreationsBeginLives = (now : SystemState) (store : S) →
      now.model.books ≡ finite.empty → model.limits store ≡ now.model.limits →
      OpensWith finite.empty store → HasLivedTo now store now.devices

  -- an opening of files with rows that a life led to leads on
  abbrev pub OpeningsLeadOn : Type 0
  OpeningsLeadOn = (now : SystemState) (rows : Books) (store : S) (devices : List DeviceState) →
      ∥ HasLived now rows devices ∥₁ → model.limits store ≡ now.model.limits →
      OpensWith rows store → HasLivedTo now store devices

  -- the runs of `live` lead on
  abbrev pub RunsLeadOn : Type 0
  RunsLeadOn = (now : SystemState) (first last : S) (asked : List (List Event))
      (replied : List (List Reply)) (before after : List DeviceState) →
      HasLivedTo now first before → model.premise first → IsSettled model first →
      model.limits last ≡ model.limits first → LivesOn model first last asked replied before after →
      HasLivedTo now last after

  -- an opening after a crash leads on
  abbrev pub RestartsLeadOn : Type 0
  RestartsLeadOn = (now : SystemState) (old new : S) (devices : List DeviceState) →
      HasLivedTo now old devices → RestartsFrom model old new → HasLivedTo now new devices

  -- A resync leads on, whether it was made, refused, or failed. Only if it was made is it a run of
  -- the life.
  abbrev pub ResyncsLeadOn : Type 0
  ResyncsLeadOn = (now : SystemState) (old new : S) (pairs : ℕ) (result : Result ℕ Denied)
      (devices : List DeviceState) →
      IsResyncable now → HasLivedTo now old devices → Resyncs model old pairs result new →
      HasLivedTo now new devices
