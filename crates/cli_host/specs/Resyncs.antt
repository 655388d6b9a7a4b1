-- What `resync` prints, and why it stops.
use Rattle.std.specs.Prelude.{◌≡◌, ◌⊎◌, ℕ, List, Option, Ok, Err}
use Rattle.std.specs.Io.KnownBytes.{Appends, Keeps}
use Rattle.book_resync.specs.Resyncs.{Resyncs}
use Rattle.book_model.specs.declared.denied.Denied.{Denied}
use Rattle.cli_host.specs.EarlyStops.{StopsForMemory, StopsOverText}
use Rattle.cli_orders.specs.OrderOutputs.{resync_output}
use Rattle.cli_orders.specs.Stops.{stop_of}
use Rattle.cli_orders.specs.declared.stop.Stop.{Stop}
use Rattle.sync_core.specs.StoreModels.{StoreModel}

module _ {S : Type 0} (model : StoreModel S) where
  -- the books were resynced, and their number is printed
  pub record PrintsResync (old : S) (pairs : ℕ) (before after : Option (List ℕ)) (new : S)
      : Type 0 where
    pub count : ℕ
    pub resynced : Resyncs model old pairs (Ok count) new
    pub printed : Appends before after (resync_output count)

  -- the resync was denied, and nothing is written
  pub record IsResyncDenied (old : S) (pairs : ℕ) (stop : Stop) (before after : Option (List ℕ))
      (new : S) : Type 0 where
    pub denied : Denied
    pub stop_is : stop ≡ stop_of denied
    pub unsynced : Resyncs model old pairs (Err denied) new
    pub unwritten : Keeps before after

  -- the books were resynced, but memory ran out or the writer failed over the text
  pub record PrintsNoResync (old : S) (pairs : ℕ) (stop : Stop) (before after : Option (List ℕ))
      (new : S) : Type 0 where
    pub count : ℕ
    pub resynced : Resyncs model old pairs (Ok count) new
    pub stops : StopsForMemory stop before after
        ⊎ StopsOverText (resync_output count) stop before after

  -- either
  abbrev pub StopsResync : S → ℕ → Stop → Option (List ℕ) → Option (List ℕ) → S → Type 0
  StopsResync old pairs stop before after new =
      IsResyncDenied old pairs stop before after new
      ⊎ PrintsNoResync old pairs stop before after new
