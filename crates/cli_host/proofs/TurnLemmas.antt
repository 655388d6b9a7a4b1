-- Serving connections one after another: the calls that are made of the host, and what is written.
use Rattle.std.proofs.Common.{◌≡◌, ◌≢◌, ℕ, false, List, [], ◌∷◌, Option, Result, Ok, Err, IfErr}
use Rattle.std.proofs.Common.{OnOk}
use Rattle.std.proofs.Common.{inl, inr, refl}
use Rattle.book_http.specs.ConnectionModels.{ConnectionModel}
use Rattle.book_http.specs.OctetPromise.{ServiceStep}
use Rattle.cli_orders.specs.ReplyTexts.{KeepsOutput}
use Rattle.cli_orders.specs.Stops.{out_of_memory}
use Rattle.cli_orders.specs.TurnServing.{AnnouncesAndServesInTurn, StopsServingInTurn}
use Rattle.cli_orders.specs.declared.stop.Stop.{Stop}
use Rattle.cli_orders.specs.declared.stop.Stop.TheVariants.{Open, Device}
use Rattle.cli_orders.proofs.StopLemmas.{keeps_leaves, kept_same}
use Rattle.cli_orders.proofs.TurnLemmas.{turn_stop_leaves}
use Rattle.cli_host.specs.HostStores.{GetsStore}
use Rattle.cli_host.specs.Hosts.{HostCall, BindsListener, Closes, LogsCalls, Opens}
use Rattle.cli_host.specs.OrdersInTurn.{ServesAtPort, StopsAtPort, StopsServe}
use Rattle.cli_host.proofs.CallLemmas.{store_used}
use Rattle.http_replies.specs.Replies.{head_fault_octets}
use Rattle.store_schema.specs.declared.open_fault.OpenFault.{OpenFault}
use Rattle.sync_core.specs.StoreModels.{StoreModel}

module _ {S P L Connection : Type 0} (model : StoreModel S) (stream : ConnectionModel Connection)
    (coming : L → Option (List (Option Connection))) where
  pub turns_leave : (file : List ℕ) (requested connections : ℕ) (stop : Stop) (before after :
      Option (List ℕ)) (log : List (HostCall S P L)) → StopsServe model stream coming file requested
      connections stop before after log
      → KeepsOutput stop before after
  turns_leave file requested connections stop before after log (inl s) =
      keeps_leaves stop before after s.2.unwritten
  turns_leave file requested connections stop before after log (inr (inl s)) =
      keeps_leaves stop before after s.2.unwritten
  turns_leave file requested connections stop before after log (inr (inr s)) = elim s.does [
    | inl none ↦ keeps_leaves stop before after none.at_device.unwritten
    | inr serving ↦ turn_stop_leaves (ServiceStep model) head_fault_octets stream serving.port
        connections (coming serving.listener) s.store s.store_after before after stop serving.stops
  ]

module _ {S P L Connection H : Type 0} (model : StoreModel S) (stream : ConnectionModel Connection)
    (coming : L → Option (List (Option Connection))) (calls : HostCall S P L → H → H → Type 0) where
  pub serve_unopened : (old new : H) (file : List ℕ) (requested connections : ℕ) (fault : OpenFault)
      (w : Option (List ℕ)) → calls (Opens file (Err fault)) old new
      → LogsCalls calls old new (StopsServe model stream coming file requested connections
      (Open fault) w w)
  serve_unopened old new file requested connections fault w made = record {
    log = Opens file (Err fault) ∷ [];
    made = (new, made, refl);
    holds = inl (fault, refl, record { stop_is = refl; unwritten = kept_same w });
  }

  pub serve_without_memory : (old new : H) (file : List ℕ) (requested connections : ℕ) (store : S)
      (w : Option (List ℕ)) → calls (Opens file (Ok store)) old new
      → LogsCalls calls old new (StopsServe model stream coming file requested connections
      out_of_memory w w)
  serve_without_memory old new file requested connections store w made = record {
    log = Opens file (Ok store) ∷ [];
    made = (new, made, refl);
    holds = inr (inl (store, refl, record { stop_is = refl; unwritten = kept_same w }));
  }

  pub port_unbound : (old new : H) (requested connections : ℕ) (store : S) (stop : Stop)
      (w : Option (List ℕ)) → calls (BindsListener requested (Err stop)) old new → stop ≡ Device
      → LogsCalls calls old new (StopsAtPort model stream coming requested connections stop store w
      w store)
  port_unbound old new requested connections store stop w binds stop_is = record {
    log = BindsListener requested (Err stop) ∷ [];
    made = (new, binds, refl);
    holds = inl (record {
      calls = refl;
      unhandled = refl;
      at_device = record { stop_is = stop_is; unwritten = kept_same w };
    });
  }

  pub port_served : (result : Result (Unit {0}) Stop) (old new : H) (requested port connections : ℕ)
      (store store_after : S) (listener : L) (before after : Option (List ℕ))
      → calls (BindsListener requested (Ok (listener, port))) old new
      → (requested ≢ 0 → port ≡ requested)
      → OnOk result (AnnouncesAndServesInTurn (ServiceStep model) head_fault_octets stream port
      connections (coming listener) store before after store_after)
      → OnOk result (LogsCalls calls old new (ServesAtPort model stream coming requested connections
      store before after store_after))
  port_served (Ok done) old new requested port connections store store_after listener before after
      binds is_requested announces = record {
        log = BindsListener requested (Ok (listener, port)) ∷ [];
        made = (new, binds, refl);
        holds = record {
          listener = listener;
          port = port;
          calls = refl;
          is_requested = is_requested;
          announces = announces;
        };
      }
  port_served (Err stop) old new requested port connections store store_after listener before after
      binds is_requested announces = tt

  pub port_unserved : (result : Result (Unit {0}) Stop) (old new : H) (requested port connections :
      ℕ) (store store_after : S) (listener : L) (before after : Option (List ℕ))
      → calls (BindsListener requested (Ok (listener, port))) old new
      → (requested ≢ 0 → port ≡ requested)
      → IfErr result (λ stop. StopsServingInTurn (ServiceStep model) head_fault_octets stream port
      connections (coming listener) store before after stop store_after)
      → IfErr result (λ stop. LogsCalls calls old new (StopsAtPort model stream coming requested
      connections stop store before after store_after))
  port_unserved (Ok done) old new requested port connections store store_after listener before after
      binds is_requested stops = tt
  port_unserved (Err stop) old new requested port connections store store_after listener before
      after binds is_requested stops = record {
        log = BindsListener requested (Ok (listener, port)) ∷ [];
        made = (new, binds, refl);
        holds = inr (record {
          listener = listener;
          port = port;
          calls = refl;
          is_requested = is_requested;
          stops = stops;
        });
      }

  pub serve_stopped : (result : Result (Unit {0}) Stop) (old got worked new : H) (file : List ℕ)
      (requested connections : ℕ) (store store_after : S) (before after : Option (List ℕ))
      → LogsCalls calls old got (GetsStore file false (Ok store))
      → IfErr result (λ stop. LogsCalls calls got worked (StopsAtPort model stream coming requested
      connections stop store before after store_after)) → calls (Closes store_after) worked new
      → IfErr result (λ stop. LogsCalls calls old new (StopsServe model stream coming file requested
      connections stop before after))
  serve_stopped (Ok done) old got worked new file requested connections store store_after before
      after gets stops closes = tt
  serve_stopped (Err stop) old got worked new file requested connections store store_after before
      after gets stops closes =
      let used = store_used calls old got worked new file false (λ old new later.
      StopsAtPort model stream coming requested connections stop old before after new later) store
      store_after gets stops closes in
      record { log = used.log; made = used.made; holds = inr (inr used.holds) }
