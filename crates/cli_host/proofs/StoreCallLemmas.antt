-- The calls that are made of a host with a store: opening, using and serving it.
use Rattle.std.proofs.Common.{◌≡◌, ◌≢◌, ◌⊎◌, ℕ, Bool, false, List, [], ◌∷◌, ◌++◌, Option}
use Rattle.std.proofs.Common.{Result, Ok, Err, IfErr, OnOk, inl, inr, refl}
use Rattle.book_commands.specs.declared.command.Command.TheVariants.{Import as ImportRows}
use Rattle.cli_orders.specs.Announcements.{AnnouncesAndServes, StopsServing}
use Rattle.cli_orders.specs.CommandRuns.{PrintsCommand, StopsCommand}
use Rattle.cli_orders.specs.FaultyRows.{ReportsDamage}
use Rattle.cli_host.specs.Listings.{PrintsListing, StopsListing}
use Rattle.cli_host.specs.declared.listing.Listing.{Listing}
use Rattle.cli_host.specs.declared.listing.Listing.TheVariants.{Verified}
use Rattle.cli_orders.specs.Stops.{out_of_memory}
use Rattle.cli_orders.specs.declared.address.Address.{Address}
use Rattle.cli_orders.specs.declared.stop.Stop.{Stop}
use Rattle.cli_orders.specs.declared.stop.Stop.TheVariants.{Open, Device}
use Rattle.cli_orders.proofs.StopLemmas.{kept_same}
use Rattle.cli_host.specs.Hosts.{HostCall, Closes, Opens, FindsFault}
use Rattle.cli_host.specs.Hosts.{ReadsRows, Binds, Finishes, IsBoundAs, LogsCalls}
use Rattle.cli_host.specs.OrdersOnHost.{DoesStoreWork}
use Rattle.cli_host.specs.OrdersOnHost.{GetsStore, ImportsRows}
use Rattle.cli_host.specs.OrdersOnHost.{ServesAt, ServesStore, StopsAt}
use Rattle.cli_host.specs.OrdersOnHost.{StopsInFile}
use Rattle.cli_host.specs.OrdersOnHost.{StopsOnImport, StopsReadingRows, StopsStore}
use Rattle.cli_host.specs.OrdersOnHost.{StopsStoreWork, StopsVerifying}
use Rattle.cli_host.specs.CardFiles.{StopsCards}
use Rattle.cli_host.specs.Resyncs.{StopsResync}
use Rattle.cli_host.specs.declared.work.StoreWork.{StoreWork}
use Rattle.cli_host.specs.declared.work.StoreWork.TheVariants.{ExportCards, ListBooks, Resync}
use Rattle.http_replies.specs.Replies.{head_fault_octets}
use Rattle.http_requests.specs.HandlerRuns.{FaultReplies, HandlerRelation}
use Rattle.hub_server.specs.EndpointRuns.{EndpointRelation}
use Rattle.hub_server.specs.declared.limits.ServeLimits.{ServeLimits}
use Rattle.store_check.specs.declared.faults.FaultyRow.{FaultyRow}
use Rattle.store_schema.specs.declared.open_fault.OpenFault.{OpenFault}
use Rattle.store_schema.specs.declared.open_fault.OpenFault.TheVariants.{Damaged}
use Rattle.sync_core.specs.StoreModels.{StoreModel}
use Rattle.cli_host.proofs.CallLemmas.{unopened, unbound, one_call, makes_both, store_used}

-- ---- stores

module _ {S P L H : Type 0} (model : StoreModel S) (calls : HostCall S P L → H → H → Type 0) where
  abbrev StopsImport : S → List ℕ → List ℕ → List ℕ → Stop → Option (List ℕ) → Option (List ℕ) → S
      → List (HostCall S P L) → Type 0
  StopsImport old book key csv stop before after new log =
      StopsReadingRows model old csv stop before after new log
      ⊎ StopsOnImport model old book key csv stop before after new log

  pub rows_unread : (host_old host_new : H) (old : S) (book key csv : List ℕ) (stop : Stop) (w :
      Option (List ℕ)) → calls (ReadsRows csv (Err stop)) host_old host_new → (stop ≡ out_of_memory)
      ⊎ (stop ≡ Device)
      → LogsCalls calls host_old host_new (StopsImport old book key csv stop w w old)
  rows_unread host_old host_new old book key csv stop w made stop_is =
      one_call calls host_old host_new (ReadsRows csv (Err stop)) (StopsImport old book key csv stop
      w w old) made (inl (record {
        calls = refl;
        unchanged = refl;
        unwritten = kept_same w;
        stop_is = stop_is;
      }))

  pub rows_file_imported : (result : Result (Unit {0}) Stop) (host_old host_new : H) (old new : S)
      (book key csv rows : List ℕ) (before after : Option (List ℕ))
      → calls (ReadsRows csv (Ok rows)) host_old host_new
      → OnOk result (PrintsCommand model old (ImportRows book key rows) before after new)
      → OnOk result (LogsCalls calls host_old host_new (ImportsRows model old book key csv
      before after new))
  rows_file_imported (Ok done) host_old host_new old new book key csv rows before after made
      prints = one_call calls host_old host_new (ReadsRows csv (Ok rows))
      (ImportsRows model old book key csv before after new) made (record {
        rows = rows;
        calls = refl;
        prints = prints;
      })
  rows_file_imported (Err stop) host_old host_new old new book key csv rows before after made
      prints = tt

  pub rows_file_unimported : (result : Result (Unit {0}) Stop) (host_old host_new : H) (old new : S)
      (book key csv rows : List ℕ) (before after : Option (List ℕ))
      → calls (ReadsRows csv (Ok rows)) host_old host_new
      → IfErr result (λ stop. StopsCommand model old (ImportRows book key rows) stop before after
      new) → IfErr result (λ stop. LogsCalls calls host_old host_new
      (StopsImport old book key csv stop before after new))
  rows_file_unimported (Ok done) host_old host_new old new book key csv rows before after made
      stops = tt
  rows_file_unimported (Err stop) host_old host_new old new book key csv rows before after made
      stops =
      one_call calls host_old host_new (ReadsRows csv (Ok rows)) (StopsImport old book key csv stop
      before after new) made (inr (record { rows = rows; calls = refl; stops = stops }))

  -- ---- the store in a file

  pub file_unopened : (old new : H) (file : List ℕ) (work : StoreWork) (fault : OpenFault) (w :
      Option (List ℕ)) → calls (Opens file (Err fault)) old new
      → LogsCalls calls old new (StopsInFile model file work (Open fault) w w)
  file_unopened old new file work fault w made =
      one_call calls old new (Opens file (Err fault)) (StopsInFile model file work (Open fault) w w)
      made (inl (fault, refl, unopened fault w))

  pub file_stopped : (result : Result (Unit {0}) Stop) (old got worked new : H) (file : List ℕ)
      (work : StoreWork) (store store_after : S) (before after : Option (List ℕ))
      → LogsCalls calls old got (GetsStore file false (Ok store))
      → IfErr result (λ stop. LogsCalls calls got worked (StopsStoreWork model store work stop
      before after store_after)) → calls (Closes store_after) worked new
      → IfErr result (λ stop. LogsCalls calls old new (StopsInFile model file work stop before
      after))
  file_stopped (Ok done) old got worked new file work store store_after before after gets stops
      closes = tt
  file_stopped (Err stop) old got worked new file work store store_after before after gets stops
      closes =
      let used = store_used calls old got worked new file false (λ old new later.
      StopsStoreWork model old work stop before after new later) store store_after gets stops
      closes in
      record { log = used.log; made = used.made; holds = inr used.holds }

  -- ---- a resync

  pub resync_stopped : (result : Result (Unit {0}) Stop) (host : H) (old new : S) (pairs : ℕ)
      (before after : Option (List ℕ))
      → IfErr result (λ stop. StopsResync model old pairs stop before after new)
      → IfErr result (λ stop. LogsCalls calls host host (StopsStoreWork model old (Resync pairs)
      stop before after new))
  resync_stopped (Ok done) host old new pairs before after s = tt
  resync_stopped (Err stop) host old new pairs before after s = record {
    log = [];
    made = refl;
    holds = (refl, s);
  }

  -- ---- an export as vCards

  pub export_stopped : (result : Result (Unit {0}) Stop) (host : H) (old new : S) (book : List ℕ)
      (is_older : Bool) (before after : Option (List ℕ))
      → IfErr result (λ stop. StopsCards model old book is_older stop before after new)
      → IfErr result (λ stop. LogsCalls calls host host
      (StopsStoreWork model old (ExportCards book is_older) stop before after new))
  export_stopped (Ok done) host old new book is_older before after s = tt
  export_stopped (Err stop) host old new book is_older before after s =
      record { log = []; made = refl; holds = (refl, s) }

  -- ---- verifying a file

  pub verify_unopened : (old new : H) (file : List ℕ) (fault : OpenFault) (w : Option (List ℕ))
      → fault ≢ Damaged → calls (Opens file (Err fault)) old new
      → LogsCalls calls old new (StopsVerifying model file (Open fault) w w)
  verify_unopened old new file fault w undamaged made =
      one_call calls old new (Opens file (Err fault)) (StopsVerifying model file (Open fault) w w)
      made (inl (record {
        fault = fault;
        undamaged = undamaged;
        calls = refl;
        stops = unopened fault w;
      }))

  pub damage_reported : (old opened new : H) (file : List ℕ) (found :
      Result (Option FaultyRow) OpenFault) (stop : Stop) (before after : Option (List ℕ))
      → calls (Opens file (Err Damaged)) old opened → calls (FindsFault file found) opened new
      → ReportsDamage found stop before after
      → LogsCalls calls old new (StopsVerifying model file stop before after)
  damage_reported old opened new file found stop before after made searched reports = record {
    log = Opens file (Err Damaged) ∷ FindsFault file found ∷ [];
    made = (opened, made, (new, searched, refl));
    holds = inr (inl (record { found = found; calls = refl; reports = reports }));
  }

  pub verify_stopped : (result : Result (Unit {0}) Stop) (old got worked new : H) (file : List ℕ)
      (store store_after : S) (before after : Option (List ℕ))
      → LogsCalls calls old got (GetsStore file false (Ok store))
      → IfErr result (λ stop. LogsCalls calls got worked (StopsStoreWork model store
      (ListBooks Verified) stop before after store_after)) → calls (Closes store_after) worked new
      → IfErr result (λ stop. LogsCalls calls old new (StopsVerifying model file stop before after))
  verify_stopped (Ok done) old got worked new file store store_after before after gets stops
      closes = tt
  verify_stopped (Err stop) old got worked new file store store_after before after gets stops
      closes =
      let used = store_used calls old got worked new file false (λ old new later.
      StopsStoreWork model old (ListBooks Verified) stop before after new later) store store_after
      gets stops closes in
      record { log = used.log; made = used.made; holds = inr (inr used.holds) }

  -- a listing calls nothing of the host
  pub listing_done : (result : Result (Unit {0}) Stop) (host : H) (old new : S) (what : Listing)
      (before after : Option (List ℕ))
      → OnOk result (PrintsListing model what old before after new)
      → OnOk result (LogsCalls calls host host (DoesStoreWork model old (ListBooks what) before
      after new))
  listing_done (Ok done) host old new what before after s =
      record { log = []; made = refl; holds = (refl, s) }
  listing_done (Err stop) host old new what before after s = tt

  pub listing_stopped : (result : Result (Unit {0}) Stop) (host : H) (old new : S) (what : Listing)
      (before after : Option (List ℕ))
      → IfErr result (λ stop. StopsListing model what old stop before after new)
      → IfErr result (λ stop. LogsCalls calls host host (StopsStoreWork model old (ListBooks what)
      stop before after new))
  listing_stopped (Ok done) host old new what before after s = tt
  listing_stopped (Err stop) host old new what before after s =
      record { log = []; made = refl; holds = (refl, s) }

-- ---- serving

module _ {S P L State H : Type 0} (does : HandlerRelation State) (fault_reply : FaultReplies)
    (effects : EndpointRelation P) (calls : HostCall S P L → H → H → Type 0) where
  pub at_unbound : (old new : H) (requested : Address) (limits : ServeLimits) (state : State)
      (stop : Stop) (w : Option (List ℕ)) → calls (Binds requested limits.together (Err stop)) old
      new → (stop ≡ out_of_memory) ⊎ (stop ≡ Device)
      → LogsCalls calls old new (StopsAt does fault_reply effects requested limits stop state w w)
  at_unbound old new requested limits state stop w binds stop_is =
      one_call calls old new (Binds requested limits.together (Err stop))
      (StopsAt does fault_reply effects requested limits stop state w w) binds
      (inl (refl, unbound stop w stop_is))

  pub at_served : (result : Result (Unit {0}) Stop) (old bound new : H) (requested address :
      Address) (limits : ServeLimits) (state state_after : State) (endpoint endpoint_after : P)
      (before after : Option (List ℕ))
      → calls (Binds requested limits.together (Ok (endpoint, address))) old bound
      → calls (Finishes endpoint_after) bound new → IsBoundAs requested address
      → OnOk result (AnnouncesAndServes does fault_reply effects address limits state endpoint
      before after state_after endpoint_after)
      → OnOk result (LogsCalls calls old new (ServesAt does fault_reply effects requested limits
      state before after))
  at_served (Ok done) old bound new requested address limits state state_after endpoint
      endpoint_after before after binds finishes is_requested announces = record {
        log = Binds requested limits.together (Ok (endpoint, address)) ∷ Finishes endpoint_after ∷
            [];
        made = (bound, binds, (new, finishes, refl));
        holds = record {
          endpoint = endpoint;
          address = address;
          new = state_after;
          endpoint_after = endpoint_after;
          calls = refl;
          is_requested = is_requested;
          announces = announces;
        };
      }
  at_served (Err stop) old bound new requested address limits state state_after endpoint
      endpoint_after before after binds finishes is_requested announces = tt

  pub at_stopped : (result : Result (Unit {0}) Stop) (old bound new : H) (requested address :
      Address) (limits : ServeLimits) (state state_after : State) (endpoint endpoint_after : P)
      (before after : Option (List ℕ))
      → calls (Binds requested limits.together (Ok (endpoint, address))) old bound
      → calls (Finishes endpoint_after) bound new → IsBoundAs requested address
      → IfErr result (λ stop. StopsServing does fault_reply effects address limits state endpoint
      before after stop state_after endpoint_after)
      → IfErr result (λ stop. LogsCalls calls old new (StopsAt does fault_reply effects requested
      limits stop state before after))
  at_stopped (Ok done) old bound new requested address limits state state_after endpoint
      endpoint_after before after binds finishes is_requested stops = tt
  at_stopped (Err stop) old bound new requested address limits state state_after endpoint
      endpoint_after before after binds finishes is_requested stops = record {
        log = Binds requested limits.together (Ok (endpoint, address)) ∷ Finishes endpoint_after ∷
            [];
        made = (bound, binds, (new, finishes, refl));
        holds = inr (record {
          endpoint = endpoint;
          address = address;
          new = state_after;
          endpoint_after = endpoint_after;
          calls = refl;
          is_requested = is_requested;
          stops = stops;
        });
      }

module _ {S P L State H : Type 0} (does : HandlerRelation State) (effects : EndpointRelation P)
    (state_of : S → State) (calls : HostCall S P L → H → H → Type 0) where
  pub store_missing : (old new : H) (file : List ℕ) (creates : Bool) (requested : Address) (limits :
      ServeLimits) (fault : OpenFault) (w : Option (List ℕ))
      → LogsCalls calls old new (GetsStore file creates (Err fault))
      → LogsCalls calls old new (StopsStore does effects state_of file creates requested limits
      (Open fault) w w)
  store_missing old new file creates requested limits fault w got =
      record { log = got.log; made = got.made; holds = inl (fault, got.holds, unopened fault w) }

  pub store_without_memory : (old new : H) (file : List ℕ) (creates : Bool) (requested : Address)
      (limits : ServeLimits) (store : S) (w : Option (List ℕ))
      → LogsCalls calls old new (GetsStore file creates (Ok store))
      → LogsCalls calls old new (StopsStore does effects state_of file creates requested limits
      out_of_memory w w)
  store_without_memory old new file creates requested limits store w got =
      record {
        log = got.log;
        made = got.made;
        holds = inr (inl (store, got.holds, record { stop_is = refl; unwritten = kept_same w }));
      }

  pub store_served : (result : Result (Unit {0}) Stop) (old middle new : H) (file : List ℕ)
      (creates : Bool) (requested : Address) (limits : ServeLimits) (store : S) (before after :
      Option (List ℕ)) → LogsCalls calls old middle (GetsStore file creates (Ok store))
      → OnOk result (LogsCalls calls middle new (ServesAt does head_fault_octets effects requested
      limits (state_of store) before after))
      → OnOk result (LogsCalls calls old new (ServesStore does effects state_of file creates
      requested limits before after))
  store_served (Ok done) old middle new file creates requested limits store before after got
      serves = record {
        log = got.log ++ serves.log;
        made = makes_both calls got.log serves.log old middle new got.made serves.made;
        holds = record {
          store = store;
          first = got.log;
          later = serves.log;
          calls = refl;
          gets = got.holds;
          serves = serves.holds;
        };
      }
  store_served (Err stop) old middle new file creates requested limits store before after got
      serves = tt

  pub store_unserved : (result : Result (Unit {0}) Stop) (old middle new : H) (file : List ℕ)
      (creates : Bool) (requested : Address) (limits : ServeLimits) (store : S) (before after :
      Option (List ℕ)) → LogsCalls calls old middle (GetsStore file creates (Ok store))
      → IfErr result (λ stop. LogsCalls calls middle new (StopsAt does head_fault_octets effects
      requested limits stop (state_of store) before after))
      → IfErr result (λ stop. LogsCalls calls old new (StopsStore does effects state_of file creates
      requested limits stop before after))
  store_unserved (Ok done) old middle new file creates requested limits store before after got
      stops = tt
  store_unserved (Err stop) old middle new file creates requested limits store before after got
      stops = record {
        log = got.log ++ stops.log;
        made = makes_both calls got.log stops.log old middle new got.made stops.made;
        holds = inr (inr (record {
          store = store;
          first = got.log;
          later = stops.log;
          calls = refl;
          gets = got.holds;
          stops = stops.holds;
        }));
      }
