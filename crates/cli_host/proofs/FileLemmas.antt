-- What is left of the output where an order isn't done.
use Rattle.std.proofs.Common.{◌≡◌, ◌⊎◌, ℕ, Bool, List, Option, Some, None, Result, Ok, Err, IfErr}
use Rattle.std.proofs.Common.{inl, inr}
use Rattle.book_http.specs.ConnectionModels.{ConnectionModel}
use Rattle.book_http.specs.OctetPromise.{ServiceStep}
use Rattle.http_fronts.specs.Fronts.{FrontRelation, with_front}
use Rattle.http_replies.specs.Replies.{head_fault_octets}
use Rattle.http_requests.specs.GuardedHandlers.{guarded}
use Rattle.http_requests.specs.HandlerRuns.{HandlerRelation}
use Rattle.hub_server.specs.EndpointRuns.{EndpointRelation}
use Rattle.hub_server.specs.declared.limits.ServeLimits.{ServeLimits}
use Rattle.site_files.specs.SiteHandlers.{with_site}
use Rattle.sync_core.specs.StoreModels.{StoreModel}
use Rattle.cli_orders.specs.declared.address.Address.{Address}
use Rattle.cli_orders.specs.declared.stop.Stop.{Stop}
use Rattle.cli_host.specs.Hosts.{HostCall, LogsCalls}
use Rattle.cli_host.specs.OrdersOnHost.{HasRefusedFile, HasReportedDamage, KeepsWorkOutput}
use Rattle.cli_host.specs.OrdersOnHost.{StopsAtDamage, StopsChecking, StopsCopying, StopsFolder}
use Rattle.cli_host.specs.OrdersOnHost.{StopsInFile, StopsMaking, StopsMigrating, StopsRestoring}
use Rattle.cli_host.specs.OrdersOnHost.{StopsRun, StopsStore, StopsStoreWork, StopsVerifying}
use Rattle.cli_host.specs.OrdersOnHost.{StopsWork}
use Rattle.cli_host.specs.declared.work.StoreWork.{StoreWork}
use Rattle.cli_host.specs.declared.work.StoreWork.TheVariants.{ExportCards, Perform, ImportFile}
use Rattle.cli_host.specs.declared.work.StoreWork.TheVariants.{ListBooks, MirrorBook, Resync}
use Rattle.cli_host.specs.declared.work.Work.{Work}
use Rattle.cli_host.specs.declared.work.Work.TheVariants.{Nothing, PrintVersion, CheckFile}
use Rattle.cli_host.specs.declared.work.Work.TheVariants.{CopyFile, CreateFile, MigrateFile}
use Rattle.cli_host.specs.declared.work.Work.TheVariants.{RestoreFile, RunFile, ServeFile, UseFile}
use Rattle.cli_host.specs.declared.work.Work.TheVariants.{VerifyFile}
use Rattle.cli_orders.specs.Announcements.{WritesListeningLine}
use Rattle.cli_host.specs.declared.listing.Listing.TheVariants.{Verified}
use Rattle.cli_orders.specs.ReplyTexts.{KeepsOutput}
use Rattle.cli_orders.specs.Stops.{out_of_memory}
use Rattle.cli_orders.proofs.CommandLemmas.{mirror_stop_leaves}
use Rattle.cli_host.proofs.ListingLemmas.{listing_stop_leaves}
use Rattle.cli_host.specs.Resyncs.{StopsResync}
use Rattle.cli_host.specs.CardFiles.{StopsCards}
use Rattle.cli_host.proofs.TurnLemmas.{turns_leave}
use Rattle.cli_orders.proofs.StopLemmas.{keeps_leaves, output_kept_by_device, serving_stop_leaves}
use Rattle.cli_orders.proofs.StopLemmas.{stop_leaves}

module _ {S P L : Type 0} where
  making_leaves : (file : List ℕ) (stop : Stop) (before after : Option (List ℕ)) (log :
      List (HostCall S P L)) → StopsMaking file stop before after log
      → KeepsOutput stop before after
  making_leaves file stop before after log (inl s) = keeps_leaves stop before after s.2.unwritten
  making_leaves file stop before after log (inr s) =
      output_kept_by_device stop before after s.2.stop_is

  migrating_leaves : (file : List ℕ) (stop : Stop) (before after : Option (List ℕ)) (log :
      List (HostCall S P L)) → StopsMigrating file stop before after log
      → KeepsOutput stop before after
  migrating_leaves file stop before after log (inl s) = keeps_leaves stop before after s.2.unwritten
  migrating_leaves file stop before after log (inr (count, migrated, inl s)) =
      keeps_leaves stop before after s.unwritten
  migrating_leaves file stop before after log (inr (count, migrated, inr s)) =
      output_kept_by_device stop before after s.stop_is

  copying_leaves : (file target : List ℕ) (without : List (List ℕ)) (stop : Stop) (before after :
      Option (List ℕ)) (log : List (HostCall S P L)) → StopsCopying file target without stop before
      after log → KeepsOutput stop before after
  copying_leaves file target without stop before after log (inl s) =
      keeps_leaves stop before after s.1
  copying_leaves file target without stop before after log (inr (count, copied, inl s)) =
      keeps_leaves stop before after s.unwritten
  copying_leaves file target without stop before after log (inr (count, copied, inr s)) =
      output_kept_by_device stop before after s.stop_is

  restoring_leaves : (backup file : List ℕ) (pairs : ℕ) (stop : Stop) (before after :
      Option (List ℕ)) (log : List (HostCall S P L)) → StopsRestoring backup file pairs stop before
      after log → KeepsOutput stop before after
  restoring_leaves backup file pairs stop before after log (inl s) =
      keeps_leaves stop before after s.1
  restoring_leaves backup file pairs stop before after log (inr (restored, called, inl s)) =
      keeps_leaves stop before after s.unwritten
  restoring_leaves backup file pairs stop before after log (inr (restored, called, inr s)) =
      output_kept_by_device stop before after s.stop_is

  -- a check that was stopped wrote nothing, or the words for why it refuses the file
  checking_leaves : (file : List ℕ) (stop : Stop) (before after : Option (List ℕ)) (log :
      List (HostCall S P L)) → StopsChecking file stop before after log
      → KeepsOutput stop before after ⊎ HasRefusedFile (CheckFile file) stop before after
  checking_leaves file stop before after log (inl (unread, inl s)) =
      inl (keeps_leaves stop before after s.unwritten)
  checking_leaves file stop before after log (inl (unread, inr s)) =
      inl (keeps_leaves stop before after s.unwritten)
  checking_leaves file stop before after log (inr s) = elim s.stops [
    | inl found ↦ inr (s.octets, found)
    | inr rest ↦ inl (elim rest [
      | inl kept ↦ keeps_leaves stop before after kept.1
      | inr cut ↦ output_kept_by_device stop before after cut.0
    ])
  ]

  -- a damaged file was reported, or nothing was written
  damage_leaves : (file : List ℕ) (stop : Stop) (before after : Option (List ℕ)) (log :
      List (HostCall S P L)) → StopsAtDamage file stop before after log
      → KeepsOutput stop before after ⊎ HasReportedDamage (VerifyFile file) stop before after
  damage_leaves file stop before after log s = elim s.reports [
    | inl reported ↦ inr (reported.0, s.found, reported.1)
    | inr rest ↦ inl (elim rest [
      | inl kept ↦ keeps_leaves stop before after kept.1
      | inr cut ↦ output_kept_by_device stop before after cut.0
    ])
  ]

module _ {S : Type 0} (model : StoreModel S) where
  resync_leaves : (old new : S) (pairs : ℕ) (stop : Stop) (before after : Option (List ℕ))
      → StopsResync model old pairs stop before after new → KeepsOutput stop before after
  resync_leaves old new pairs stop before after (inl s) = keeps_leaves stop before after s.unwritten
  resync_leaves old new pairs stop before after (inr s) = elim s.stops [
    | inl memory ↦ keeps_leaves stop before after memory.unwritten
    | inr cut ↦ output_kept_by_device stop before after cut.stop_is
  ]

  export_leaves : (old new : S) (book : List ℕ) (is_older : Bool) (stop : Stop) (before after :
      Option (List ℕ)) → StopsCards model old book is_older stop before after new
      → KeepsOutput stop before after
  export_leaves old new book is_older stop before after (inl s) =
      keeps_leaves stop before after s.unwritten
  export_leaves old new book is_older stop before after (inr s) =
      output_kept_by_device stop before after s.stop_is

module _ {S P L : Type 0} (model : StoreModel S) where
  store_work_leaves : (work : StoreWork) (old new : S) (stop : Stop) (before after :
      Option (List ℕ)) (log : List (HostCall S P L))
      → StopsStoreWork model old work stop before after new log → KeepsOutput stop before after
  store_work_leaves (Perform command) old new stop before after log s =
      stop_leaves s.1.reply stop before after s.1.stops
  store_work_leaves (ImportFile book key csv) old new stop before after log (inl s) =
      keeps_leaves stop before after s.unwritten
  store_work_leaves (ImportFile book key csv) old new stop before after log (inr s) =
      stop_leaves s.stops.reply stop before after s.stops.stops
  store_work_leaves (MirrorBook book limit pages) old new stop before after log s =
      mirror_stop_leaves model old new book limit pages stop before after s.1
  store_work_leaves (ExportCards book is_older) old new stop before after log s =
      export_leaves model old new book is_older stop before after s.1
  store_work_leaves (ListBooks what) old new stop before after log s =
      listing_stop_leaves model what old new stop before after s.1
  store_work_leaves (Resync pairs) old new stop before after log s =
      resync_leaves model old new pairs stop before after s.1

  in_file_leaves : (file : List ℕ) (work : StoreWork) (stop : Stop) (before after : Option (List ℕ))
      (log : List (HostCall S P L)) → StopsInFile model file work stop before after log
      → KeepsOutput stop before after
  in_file_leaves file work stop before after log (inl s) =
      keeps_leaves stop before after s.2.unwritten
  in_file_leaves file work stop before after log (inr s) =
      store_work_leaves work s.store s.store_after stop before after s.later s.does

  verifying_leaves : (file : List ℕ) (stop : Stop) (before after : Option (List ℕ)) (log :
      List (HostCall S P L)) → StopsVerifying model file stop before after log
      → KeepsOutput stop before after ⊎ HasReportedDamage (VerifyFile file) stop before after
  verifying_leaves file stop before after log (inl s) =
      inl (keeps_leaves stop before after s.stops.unwritten)
  verifying_leaves file stop before after log (inr (inl s)) =
      damage_leaves file stop before after log s
  verifying_leaves file stop before after log (inr (inr s)) =
      inl (store_work_leaves (ListBooks Verified) s.store s.store_after stop before after s.later
      s.does)

module _ {S P L State : Type 0} (does : HandlerRelation State) (effects : EndpointRelation P)
    (state_of : S → State) where
  serve_leaves : (file : List ℕ) (creates : Bool) (requested : Address) (limits : ServeLimits)
      (stop : Stop) (before after : Option (List ℕ)) (log : List (HostCall S P L))
      → StopsStore does effects state_of file creates requested limits stop before after log
      → KeepsOutput stop before after ⊎ ((stop ≡ out_of_memory) × WritesListeningLine before after)
  serve_leaves file creates requested limits stop before after log (inl s) =
      inl (keeps_leaves stop before after s.2.unwritten)
  serve_leaves file creates requested limits stop before after log (inr (inl s)) =
      inl (keeps_leaves stop before after s.2.unwritten)
  serve_leaves file creates requested limits stop before after log (inr (inr s)) = elim s.stops [
    | inl unbound ↦ inl (elim unbound.1 [
      | inl memory ↦ keeps_leaves stop before after memory.unwritten
      | inr device ↦ keeps_leaves stop before after device.unwritten
    ])
    | inr serving ↦ serving_stop_leaves does head_fault_octets effects serving.address limits
        (state_of s.store) serving.new serving.endpoint serving.endpoint_after before after stop
        serving.stops
  ]

module _ {S P L : Type 0} (model : StoreModel S) (front : FrontRelation) (effects :
    EndpointRelation P) where
  folder_leaves : (dir file : List ℕ) (creates : Bool) (names : List (List ℕ)) (requested : Address)
      (limits : ServeLimits) (stop : Stop) (before after : Option (List ℕ)) (log :
      List (HostCall S P L))
      → StopsFolder model front effects dir file creates names requested limits stop before after
      log → KeepsOutput stop before after
      ⊎ ((stop ≡ out_of_memory) × WritesListeningLine before after)
  folder_leaves dir file creates names requested limits stop before after log
      (inl (unread, inl s)) = inl (keeps_leaves stop before after s.unwritten)
  folder_leaves dir file creates names requested limits stop before after log
      (inl (unread, inr s)) = inl (keeps_leaves stop before after s.unwritten)
  folder_leaves dir file creates names requested limits stop before after log (inr s) =
      serve_leaves (guarded (with_front front (with_site (ServiceStep model)))) effects
      (λ store. (names, (s.files, store))) file creates requested limits stop before after
      s.later s.stops

  run_leaves : (file : List ℕ) (creates : Bool) (names : List (List ℕ)) (requested : Address)
      (limits : ServeLimits) (site : Option (List ℕ)) (stop : Stop) (before after : Option (List ℕ))
      (log : List (HostCall S P L))
      → StopsRun model front effects file creates names requested limits site stop before after log
      → KeepsOutput stop before after
      ⊎ ((stop ≡ out_of_memory) × WritesListeningLine before after)
  run_leaves file creates names requested limits None stop before after log s =
      serve_leaves (guarded (with_front front (ServiceStep model))) effects
      (λ store. (names, store)) file creates requested limits stop before after log s
  run_leaves file creates names requested limits (Some dir) stop before after log s =
      folder_leaves dir file creates names requested limits stop before after log s

module _ {S P L Connection : Type 0} (model : StoreModel S) (front : FrontRelation) (effects :
    EndpointRelation P) (stream : ConnectionModel Connection) (coming : L
    → Option (List (Option Connection))) where
  work_leaves : (work : Work) (stop : Stop) (before after : Option (List ℕ)) (log :
      List (HostCall S P L)) → StopsWork model front effects stream coming work stop before after
      log → KeepsWorkOutput work stop before after
  work_leaves Nothing stop before after log s = inl (keeps_leaves stop before after s.1.unwritten)
  work_leaves PrintVersion stop before after log s =
      inl (output_kept_by_device stop before after s.1.stop_is)
  work_leaves (CheckFile file) stop before after log s =
      elim (checking_leaves file stop before after log s) [
        | inl kept ↦ inl kept
        | inr refused ↦ inr (inr (inl refused))
      ]
  work_leaves (CreateFile file) stop before after log s =
      inl (making_leaves file stop before after log s)
  work_leaves (MigrateFile file) stop before after log s =
      inl (migrating_leaves file stop before after log s)
  work_leaves (CopyFile file target without) stop before after log s =
      inl (copying_leaves file target without stop before after log s)
  work_leaves (RestoreFile backup file pairs) stop before after log s =
      inl (restoring_leaves backup file pairs stop before after log s)
  work_leaves (ServeFile file port connections) stop before after log s =
      inl (turns_leave model stream coming file port connections stop before after log s)
  work_leaves (RunFile file creates names address limits is_logged site) stop before after log s =
      elim (run_leaves model front effects file creates names address limits site stop before after
      log s) [
        | inl kept ↦ inl kept
        | inr announced ↦ inr (inl announced)
      ]
  work_leaves (VerifyFile file) stop before after log s =
      elim (verifying_leaves model file stop before after log s) [
        | inl kept ↦ inl kept
        | inr reported ↦ inr (inr (inr reported))
      ]
  work_leaves (UseFile file work) stop before after log s =
      inl (in_file_leaves model file work stop before after log s)

  pub stopped_work_leaves : {H : Type 0} (calls : HostCall S P L → H → H
      → Type 0) (r : Result (Unit {0}) Stop) (old new : H) (work : Work) (before after :
      Option (List ℕ))
      → IfErr r (λ stop. LogsCalls calls old new (StopsWork model front effects stream coming work
      stop before after)) → IfErr r (λ stop. KeepsWorkOutput work stop before after)
  stopped_work_leaves calls (Ok done) old new work before after s = tt
  stopped_work_leaves calls (Err stop) old new work before after s =
      work_leaves work stop before after s.log s.holds
