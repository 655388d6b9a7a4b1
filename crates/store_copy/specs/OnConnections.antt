-- Definitions over connections, for contracts, as in `store_tables`.
use Rattle.std.specs.Prelude.{ℤ, ◌≡◌, List}
use Rattle.sqlite.specs.Held.{Held, state}
use Rattle.sqlite.specs.State.{Survives}
use Rattle.store_tables.specs.OnConnections.{Ghosts}
use Rattle.store_copy.specs.CopiedRows as copied
use Rattle.store_copy.specs.RowsWithout as without
use Rattle.store_copy.specs.declared.reading.StoredRows.{StoredRows}

abbrev pub HasRows : {S : Type 0} → Ghosts S → Held S → StoredRows → Type 0
HasRows store conn = copied.HasRows (state store conn).now

abbrev pub HasNewRows : {S : Type 0} → Ghosts S → List ℤ → Held S → StoredRows → Type 0
HasNewRows store ids conn = without.HasNewRows ids (state store conn).now

-- a crash leaves what it could leave before the call, or what the connection shows after it
abbrev pub CommitsWhole : {S : Type 0} → Ghosts S → Held S → Held S → Type 0
CommitsWhole store old new =
    Survives (state store old) (state store new) (λ trees. trees ≡ (state store new).now.trees)
