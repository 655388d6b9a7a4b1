-- Definitions over connections, for contracts, as in `store_tables`.
use Rattle.std.specs.Prelude.{ℕ, ℤ, List, Result}
use Rattle.sqlite.specs.Held.{Held, state}
use Rattle.book_model.specs.Bounds.{Bounds}
use Rattle.book_model.specs.declared.denied.Denied.{Denied}
use Rattle.store_tables.specs.OnConnections.{Ghosts}
use Rattle.book_store.specs.Answering as answering
use Rattle.book_store.specs.OpenOutcomes as outcomes
use Rattle.book_store.specs.StoreViews as views
use Rattle.book_store.specs.Copies as copies
use Rattle.store_copy.specs.declared.reading.StoredRows.{StoredRows}

module _ {S : Type 0} (store : Ghosts S) (conn : Held S) where
  abbrev pub IsNewStoreCommitted : Type 0
  IsNewStoreCommitted = outcomes.IsNewStoreCommitted (state store conn)

  abbrev pub IsStore : Bounds → Type 0
  IsStore = views.IsStore (state store conn)

  abbrev pub HasStoreRows : StoredRows → Type 0
  HasStoreRows = copies.AreStoreRows (state store conn)

  abbrev pub IsMade : List ℤ → StoredRows → Type 0
  IsMade = copies.AreMade (state store conn)

  abbrev pub IsMadeWithout : List (List ℕ) → StoredRows → Type 0
  IsMadeWithout = copies.AreMadeWithout (state store conn)

  abbrev pub IsOpenUnlessFault : {A : Type 0} → Result A Denied → Type 0
  IsOpenUnlessFault = answering.IsOpenUnlessFault (state store conn)

module _ {S : Type 0} (store : Ghosts S) (old new : Held S) where
  abbrev pub StandsOrFaults : {A : Type 0} → Result A Denied → Result A Denied → Type 0
  StandsOrFaults = answering.StandsOrFaults (state store old) (state store new)
