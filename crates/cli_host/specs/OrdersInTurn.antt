-- Serving the store in a file to one connection after another.
use Rattle.std.specs.Prelude.{◌≡◌, ◌≢◌, ◌⊎◌, ℕ, false, List, [], ◌∷◌, Option, Ok, Err}
use Rattle.book_http.specs.ConnectionModels.{ConnectionModel}
use Rattle.book_http.specs.OctetPromise.{ServiceStep}
use Rattle.cli_orders.specs.TurnServing.{AnnouncesAndServesInTurn, StopsServingInTurn}
use Rattle.cli_orders.specs.declared.stop.Stop.{Stop}
use Rattle.http_replies.specs.Replies.{head_fault_octets}
use Rattle.cli_host.specs.EarlyStops.{StopsAtDevice, StopsForMemory}
use Rattle.cli_host.specs.Hosts.{HostCall, BindsListener, Opens}
use Rattle.cli_host.specs.HostStores.{GetsNoStore, UsesStore}
use Rattle.sync_core.specs.StoreModels.{StoreModel}

-- A store is represented by its books, a connection by its octets, and a listener by the
-- connections that arrive at it. `log` has all calls that were made of the host, in order.
module _ {S P L Connection : Type 0} (model : StoreModel S) (stream : ConnectionModel Connection)
    (coming : L → Option (List (Option Connection))) where
  -- A listener was bound to the requested port, or to any port if it is 0. The line that announces
  -- its port was written, and then the requested number of connections was served over the store,
  -- one after another, each to its end.
  pub record ServesAtPort (requested connections : ℕ) (old : S) (before after : Option (List ℕ))
      (new : S) (log : List (HostCall S P L)) : Type 0 where
    pub listener : L
    pub port : ℕ
    pub calls : log ≡ BindsListener requested (Ok (listener, port)) ∷ []
    pub is_requested : requested ≢ 0 → port ≡ requested
    pub announces : AnnouncesAndServesInTurn (ServiceStep model) head_fault_octets stream
        port connections (coming listener) old before after new

  -- the same, up to why not all connections were served to their ends
  pub record StopsServingAtPort (requested connections : ℕ) (stop : Stop) (old : S)
      (before after : Option (List ℕ)) (new : S) (log : List (HostCall S P L)) : Type 0 where
    pub listener : L
    pub port : ℕ
    pub calls : log ≡ BindsListener requested (Ok (listener, port)) ∷ []
    pub is_requested : requested ≢ 0 → port ≡ requested
    pub stops : StopsServingInTurn (ServiceStep model) head_fault_octets stream
        port connections (coming listener) old before after stop new

  -- no listener could be bound to the port, and nothing was handled
  pub record BindsNoListener (requested : ℕ) (stop : Stop) (old : S)
      (before after : Option (List ℕ)) (new : S) (log : List (HostCall S P L)) : Type 0 where
    pub calls : log ≡ BindsListener requested (Err stop) ∷ []
    pub unhandled : new ≡ old
    pub at_device : StopsAtDevice stop before after

  -- no listener was bound, or serving stopped
  abbrev pub StopsAtPort : ℕ → ℕ → Stop → S → Option (List ℕ) → Option (List ℕ) → S
      → List (HostCall S P L) → Type 0
  StopsAtPort requested connections stop old before after new log =
      BindsNoListener requested stop old before after new log
      ⊎ StopsServingAtPort requested connections stop old before after new log

  -- the file's store was opened, and served at the port; and it was closed as serving left it
  abbrev pub ServesFile : List ℕ → ℕ → ℕ → Option (List ℕ) → Option (List ℕ)
      → List (HostCall S P L) → Type 0
  ServesFile file requested connections before after log = UsesStore file false
      (λ old new later. ServesAtPort requested connections old before after new later) log

  -- the file's store wasn't opened; or it was, and memory ran out; or no listener was bound, or
  -- serving stopped, and the store was closed as that left it
  abbrev pub StopsServe : List ℕ → ℕ → ℕ → Stop → Option (List ℕ) → Option (List ℕ)
      → List (HostCall S P L) → Type 0
  StopsServe file requested connections stop before after log =
      GetsNoStore file false stop before after log
      ⊎ (((store : S) × (log ≡ Opens file (Ok store) ∷ []) × StopsForMemory stop before after)
      ⊎ UsesStore file false
      (λ old new later. StopsAtPort requested connections stop old before after new later) log)
