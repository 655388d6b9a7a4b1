-- The host that orders run on: the calls that are made of it.
use Rattle.std.specs.Prelude.{◌≡◌, ◌≢◌, ℕ, Bool, List, [], ◌∷◌, Option, Result}
use Rattle.cli_orders.specs.declared.address.Address.{Address}
use Rattle.cli_orders.specs.declared.restore_output.Restored.{Restored}
use Rattle.cli_orders.specs.declared.address.Address.TheVariants.{Port, Socket}
use Rattle.cli_orders.specs.declared.stop.Stop.{Stop}
use Rattle.site_files.specs.Sites.{SiteFile}
use Rattle.store_check.specs.declared.faults.FaultyRow.{FaultyRow}
use Rattle.store_schema.specs.declared.open_fault.OpenFault.{OpenFault}

-- A call of a host, with the file or address that it is about, and its result. A store holds the
-- books of a file, an endpoint has the connections to an address, all at once, and a listener
-- accepts them one after another.
pub data HostCall (Store Endpoint Listener : Type 0) : Type 0 where
  -- creating a store without books in the file
  Creates : List ℕ → Result Store OpenFault → HostCall Store Endpoint Listener
  -- looking whether nothing is under the file's name, or a file without octets
  Looks : List ℕ → Bool → HostCall Store Endpoint Listener
  -- opening the store of the books in the file
  Opens : List ℕ → Result Store OpenFault → HostCall Store Endpoint Listener
  -- searching the file for a row at fault, of which there may be none
  FindsFault : List ℕ → Result (Option FaultyRow) OpenFault → HostCall Store Endpoint Listener
  -- closing the store, after all that was done with it
  Closes : Store → HostCall Store Endpoint Listener
  -- migrating the file to the current schema, which returns its number of books
  Migrates : List ℕ → Result ℕ OpenFault → HostCall Store Endpoint Listener
  -- copying the store in the first file into the second, a new one, without the books with these
  -- names, which returns the number of books that it has
  Copies : List ℕ → List ℕ → List (List ℕ) → Result ℕ Stop → HostCall Store Endpoint Listener
  -- putting the copy in the first file back in place of the second, and making every device start
  -- again with this many pairs of numbers
  Restores : List ℕ → List ℕ → ℕ → Result Restored Stop → HostCall Store Endpoint Listener
  -- reading all octets of the file
  ReadsRows : List ℕ → Result (List ℕ) Stop → HostCall Store Endpoint Listener
  -- reading all files of the folder, each with its name and its octets
  ReadsSite : List ℕ → Result (List SiteFile) Stop → HostCall Store Endpoint Listener
  -- binding an endpoint to the address, with places for this number of connections, which returns
  -- the endpoint and its address
  Binds : Address → ℕ → Result (Endpoint × Address) Stop → HostCall Store Endpoint Listener
  -- closing the endpoint, after its connections were served
  Finishes : Endpoint → HostCall Store Endpoint Listener
  -- binding a listener to the port, which returns the listener and its port
  BindsListener : ℕ → Result (Listener × ℕ) Stop → HostCall Store Endpoint Listener

-- A host is represented by what is known of each call: its result, and the host before and after
-- it.
module _ {S P L Host : Type 0} (calls : HostCall S P L → Host → Host → Type 0) where
  -- these calls were made of the host, in this order, and no others
  abbrev pub MakesCalls : Host → List (HostCall S P L) → Host → Type 0
  MakesCalls old [] new = new ≡ old
  MakesCalls old (call ∷ log) new = (next : Host) × calls call old next × MakesCalls next log new

  -- all calls that were made of the host are this log, of which this holds
  pub record LogsCalls (old new : Host) (Holds : List (HostCall S P L) → Type 0) : Type 0 where
    pub log : List (HostCall S P L)
    pub made : MakesCalls old log new
    pub holds : Holds log

-- what was requested at the first address listens at the second; port 0 is any port
abbrev pub IsBoundAs : Address → Address → Type 0
IsBoundAs (Port requested) (Port port) = requested ≢ 0 → port ≡ requested
IsBoundAs (Socket requested) (Socket path) = path ≡ requested
IsBoundAs _ _ = ⊥
