-- The folder of a site is read first, and then the books are served.
use Rattle.std.proofs.Common.{◌≡◌, ◌⊎◌, ℕ, Bool, List, [], ◌∷◌, Option, Result, Ok, Err, IfErr}
use Rattle.std.proofs.Common.{OnOk, inl, inr, refl}
use Rattle.cli_host.proofs.CallLemmas.{unbound}
use Rattle.cli_host.specs.Hosts.{HostCall, LogsCalls, ReadsSite}
use Rattle.cli_host.specs.OrdersOnHost.{RunsFolder, RunsSite, StopsFolder, StopsSite}
use Rattle.cli_orders.specs.Stops.{out_of_memory}
use Rattle.cli_orders.specs.declared.address.Address.{Address}
use Rattle.cli_orders.specs.declared.stop.Stop.{Stop}
use Rattle.cli_orders.specs.declared.stop.Stop.TheVariants.{Device}
use Rattle.hub_server.specs.EndpointRuns.{EndpointRelation}
use Rattle.hub_server.specs.declared.limits.ServeLimits.{ServeLimits}
use Rattle.site_files.specs.Sites.{SiteFile}
use Rattle.sync_core.specs.StoreModels.{StoreModel}
use Rattle.http_fronts.specs.Fronts.{FrontRelation}

module _ {S P L H : Type 0} (model : StoreModel S) (front : FrontRelation) (effects :
    EndpointRelation P) (calls : HostCall S P L → H → H → Type 0) where
  pub folder_unread : (old new : H) (dir file : List ℕ) (creates : Bool) (names : List (List ℕ))
      (requested : Address) (limits : ServeLimits) (stop : Stop) (w : Option (List ℕ))
      → calls (ReadsSite dir (Err stop)) old new → (stop ≡ out_of_memory) ⊎ (stop ≡ Device)
      → LogsCalls calls old new (StopsFolder model front effects dir file creates names requested
      limits stop w w)
  folder_unread old new dir file creates names requested limits stop w made stop_is = record {
    log = ReadsSite dir (Err stop) ∷ [];
    made = (new, made, refl);
    holds = inl (refl, unbound stop w stop_is);
  }

  pub folder_served : (result : Result (Unit {0}) Stop) (old read new : H) (dir file : List ℕ)
      (files : List SiteFile) (creates : Bool) (names : List (List ℕ)) (requested : Address)
      (limits : ServeLimits) (before after : Option (List ℕ))
      → calls (ReadsSite dir (Ok files)) old read
      → OnOk result (LogsCalls calls read new (RunsSite model front effects files file creates names
      requested limits before after))
      → OnOk result (LogsCalls calls old new (RunsFolder model front effects dir file creates names
      requested limits before after))
  folder_served (Ok done) old read new dir file files creates names requested limits before after
      made runs = record {
        log = ReadsSite dir (Ok files) ∷ runs.log;
        made = (read, made, runs.made);
        holds = record { files = files; later = runs.log; calls = refl; runs = runs.holds };
      }
  folder_served (Err stop) old read new dir file files creates names requested limits before after
      made runs = tt

  pub folder_unserved : (result : Result (Unit {0}) Stop) (old read new : H) (dir file : List ℕ)
      (files : List SiteFile) (creates : Bool) (names : List (List ℕ)) (requested : Address)
      (limits : ServeLimits) (before after : Option (List ℕ))
      → calls (ReadsSite dir (Ok files)) old read
      → IfErr result (λ stop. LogsCalls calls read new (StopsSite model front effects files file
      creates names requested limits stop before after))
      → IfErr result (λ stop. LogsCalls calls old new (StopsFolder model front effects dir file
      creates names requested limits stop before after))
  folder_unserved (Ok done) old read new dir file files creates names requested limits before after
      made stops = tt
  folder_unserved (Err stop) old read new dir file files creates names requested limits before after
      made stops = record {
        log = ReadsSite dir (Ok files) ∷ stops.log;
        made = (read, made, stops.made);
        holds = inr (record {
          files = files;
          later = stops.log;
          calls = refl;
          stops = stops.holds;
        });
      }
