-- An accepted move transfers one card between two books.
use Rattle.std.specs.Prelude.{ℕ, ◌≡◌, List, Option, Ok}
use Rattle.book_model.specs.declared.answers.Moved.{Moved}
use Rattle.book_laws.specs.CardMoves.{TransfersOneCard}
use Rattle.book_laws.specs.StoreHistories.{BookHistories, StoreHistory}
use Rattle.book_laws.specs.HistoryChanges.{move_on_histories}

abbrev pub MoveCallsTransferOneCard : Type 0
MoveCallsTransferOneCard =
    (store : StoreHistory) (from to uid : List ℕ) (expect : Option ℕ) (moved : Moved)
    (after : BookHistories) →
    move_on_histories store.limits store.books from to uid expect ≡ Ok (moved, after) →
    TransfersOneCard store.books from to uid moved after
