-- Each step that changes rows refines its call on histories.
use Rattle.std.specs.Prelude.{ℕ, List, Option}
use Rattle.std.specs.FinMap as finite
use Rattle.vcard_lines.specs.declared.line.Line.{Line}
use Rattle.book_model.specs.Bounds.{IsInRange}
use Rattle.book_model.specs.Forgetting.{forget_step}
use Rattle.book_model.specs.Importing.{import_step}
use Rattle.book_model.specs.Moving.{move_step}
use Rattle.book_model.specs.Removing.{remove_step}
use Rattle.book_laws.specs.StoreHistories.{BookHistories, AreSoundHistories, StoreHistory, rows_of}
use Rattle.book_laws.specs.HistoryChanges.{remove_on_histories, move_on_histories}
use Rattle.book_laws.specs.HistoryChanges.{import_on_histories, forget_on_histories}
use Rattle.book_laws.specs.Refinement.{AreHistoriesOf, RefinesHistories}
use Rattle.book_laws.specs.HistorySteps.{create_on_histories, put_on_histories}
use Rattle.book_model.specs.Creating.{create_step}
use Rattle.book_model.specs.Putting.{put_step}

-- a store without books has no histories
abbrev pub EmptyStoresHaveNoHistories : Type 0
EmptyStoresHaveNoHistories = AreHistoriesOf finite.empty finite.empty

abbrev pub CreateRefines : Type 0
CreateRefines = (store : StoreHistory) (name : List ℕ) → IsInRange store.limits →
    AreSoundHistories store.books →
    RefinesHistories (create_step store.limits (rows_of store.books) name)
    (create_on_histories store.limits store.books name)

abbrev pub PutRefines : Type 0
PutRefines = (store : StoreHistory) (name : List ℕ) (card : List Line) (expect : Option ℕ) →
    AreSoundHistories store.books →
    RefinesHistories (put_step store.limits (rows_of store.books) name card expect)
    (put_on_histories store.limits store.books name card expect)

abbrev pub RemoveRefines : Type 0
RemoveRefines = (store : StoreHistory) (name uid : List ℕ) (expect : Option ℕ) →
    AreSoundHistories store.books →
    RefinesHistories (remove_step store.limits (rows_of store.books) name uid expect)
    (remove_on_histories store.limits store.books name uid expect)

abbrev pub MoveRefines : Type 0
MoveRefines = (store : StoreHistory) (from to uid : List ℕ) (expect : Option ℕ) →
    AreSoundHistories store.books →
    RefinesHistories (move_step store.limits (rows_of store.books) from to uid expect)
    (move_on_histories store.limits store.books from to uid expect)

abbrev pub ImportRefines : Type 0
ImportRefines = (store : StoreHistory) (name key : List ℕ) (cards : List (List Line)) →
    AreSoundHistories store.books →
    RefinesHistories (import_step store.limits (rows_of store.books) name key cards)
    (import_on_histories store.limits store.books name key cards)

abbrev pub ForgetRefines : Type 0
ForgetRefines =
    (histories : BookHistories) (name : List ℕ) (upto : ℕ) → AreSoundHistories histories →
    RefinesHistories (forget_step (rows_of histories) name upto)
    (forget_on_histories histories name upto)
