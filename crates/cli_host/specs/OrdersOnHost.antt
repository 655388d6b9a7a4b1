-- Running an order on a host: the calls that are made of the host, what is done with their results,
-- and what is printed.
use Rattle.std.specs.Prelude.{◌≡◌, ◌≢◌, ◌⊎◌, ℕ, Bool, false, List, [], ◌∷◌, ◌++◌, Option}
use Rattle.std.specs.Prelude.{Some, None, Result, Ok, Err}
use Rattle.std.specs.Io.KnownBytes.{Appends, Keeps}
use Rattle.book_commands.specs.declared.command.Command.TheVariants.{Import as ImportRows}
use Rattle.book_http.specs.ConnectionModels.{ConnectionModel}
use Rattle.book_http.specs.OctetPromise.{ServiceStep}
use Rattle.cli_args.specs.declared.order.Order.{Order}
use Rattle.http_fronts.specs.Fronts.{FrontRelation, with_front}
use Rattle.http_replies.specs.Replies.{head_fault_octets}
use Rattle.http_requests.specs.GuardedHandlers.{guarded}
use Rattle.http_requests.specs.HandlerRuns.{FaultReplies, HandlerRelation}
use Rattle.hub_server.specs.EndpointRuns.{EndpointRelation}
use Rattle.hub_server.specs.declared.limits.ServeLimits.{ServeLimits}
use Rattle.cli_orders.specs.OrderOutputs.{copy_output, made_output, migrate_output}
use Rattle.cli_orders.specs.RestoreOutputs.{restore_output}
use Rattle.cli_orders.specs.declared.restore_output.Restored.{Restored}
use Rattle.cli_orders.specs.CommandRuns.{PrintsCommand, PrintsMirror, StopsCommand, StopsMirror}
use Rattle.cli_orders.specs.declared.address.Address.{Address}
use Rattle.cli_orders.specs.declared.stop.Stop.{Stop}
use Rattle.cli_orders.specs.declared.stop.Stop.TheVariants.{Open, Device}
pub use Rattle.cli_host.specs.EarlyStops.{StopsAtDevice, StopsForMemory, StopsOverText}
pub use Rattle.cli_host.specs.EarlyStops.{StopsUnopened}
use Rattle.cli_host.specs.CardFiles.{PrintsCards, StopsCards}
pub use Rattle.cli_host.specs.HostStores.{GetsNoStore, GetsStore, UsesStore}
use Rattle.cli_host.specs.Hosts.{HostCall, Closes, Creates, Opens, FindsFault, Migrates}
use Rattle.cli_host.specs.Hosts.{Copies, Restores, ReadsRows, ReadsSite, Binds, Finishes}
use Rattle.cli_host.specs.Hosts.{IsBoundAs}
use Rattle.cli_host.specs.OrderWork.{work_of}
use Rattle.cli_host.specs.OrdersInTurn.{ServesFile, StopsServe}
use Rattle.cli_host.specs.declared.work.StoreWork.{StoreWork}
use Rattle.cli_host.specs.declared.work.StoreWork.TheVariants.{Perform, ImportFile, MirrorBook}
use Rattle.cli_host.specs.declared.work.StoreWork.TheVariants.{ExportCards, ListBooks, Resync}
use Rattle.cli_host.specs.declared.work.Work.{Work}
use Rattle.cli_host.specs.declared.work.Work.TheVariants.{Nothing, PrintVersion, CheckFile}
use Rattle.cli_host.specs.declared.work.Work.TheVariants.{CreateFile, MigrateFile, CopyFile}
use Rattle.cli_host.specs.declared.work.Work.TheVariants.{RestoreFile, RunFile}
use Rattle.cli_host.specs.declared.work.Work.TheVariants.{ServeFile, UseFile, VerifyFile}
use Rattle.cli_orders.specs.FaultyRows.{ReportsDamage, damage_text}
use Rattle.cli_orders.specs.Findings.{PassesCheck, PrintsFinding, StopsCheck, kind_of_file}
use Rattle.cli_host.specs.Listings.{PrintsListing, StopsListing}
use Rattle.cli_host.specs.Resyncs.{PrintsResync, StopsResync}
use Rattle.cli_host.specs.declared.listing.Listing.TheVariants.{Verified}
use Rattle.cli_orders.specs.Versions.{version_output}
use Rattle.cli_orders.specs.Announcements.{AnnouncesAndServes, StopsServing, WritesListeningLine}
use Rattle.cli_orders.specs.ReplyTexts.{KeepsOutput}
use Rattle.cli_orders.specs.Stops.{out_of_memory}
use Rattle.site_files.specs.SiteHandlers.{with_site}
use Rattle.site_files.specs.Sites.{SiteFile}
use Rattle.store_check.specs.declared.faults.FaultyRow.{FaultyRow}
use Rattle.store_schema.specs.declared.open_fault.OpenFault.{OpenFault}
use Rattle.store_schema.specs.declared.open_fault.OpenFault.TheVariants.{Damaged}
use Rattle.sync_core.specs.StoreModels.{StoreModel}

-- no endpoint was bound, or no file was read: for lack of memory, or because the port or the file
-- can't be used
abbrev pub StopsUnbound : Stop → Option (List ℕ) → Option (List ℕ) → Type 0
StopsUnbound stop before after = StopsForMemory stop before after ⊎ StopsAtDevice stop before after

-- the work is to serve behind a guard, and the line that announces a port was written
abbrev pub HasAnnounced : Work → Option (List ℕ) → Option (List ℕ) → Type 0
HasAnnounced (RunFile file creates names address limits is_logged site) before after =
    WritesListeningLine before after
HasAnnounced work before after = ⊥

-- the work is to check a file, this is the refusal of what was found in some octets, and the words
-- for it were written
abbrev pub HasRefusedFile : Work → Stop → Option (List ℕ) → Option (List ℕ) → Type 0
HasRefusedFile (CheckFile file) stop before after =
    (octets : List ℕ) × PrintsFinding (kind_of_file file) octets (Err stop) before after
HasRefusedFile work stop before after = ⊥

-- the work is to verify a file, which is damaged, and the text for what a search of it found was
-- written
abbrev pub HasReportedDamage : Work → Stop → Option (List ℕ) → Option (List ℕ) → Type 0
HasReportedDamage (VerifyFile file) stop before after = (stop ≡ Open Damaged)
    × (found : Result (Option FaultyRow) OpenFault) × Appends before after (damage_text found)
HasReportedDamage work stop before after = ⊥

-- Nothing is written on a refusal, on a fault, or if the file can't be opened. But the order `run`
-- may have announced its port before memory ran out, the order to check a file has written why it
-- refuses the file, and the order to verify one which row is at fault.
abbrev pub KeepsWorkOutput : Work → Stop → Option (List ℕ) → Option (List ℕ) → Type 0
KeepsWorkOutput work stop before after = KeepsOutput stop before after
    ⊎ (((stop ≡ out_of_memory) × HasAnnounced work before after)
    ⊎ (HasRefusedFile work stop before after ⊎ HasReportedDamage work stop before after))

abbrev pub KeepsOrderOutput : Order → Stop → Option (List ℕ) → Option (List ℕ) → Type 0
KeepsOrderOutput order stop before after = KeepsWorkOutput (work_of order) stop before after

-- In each of these, `log` has all calls that were made of the host, in order.
module _ {S P L : Type 0} where
  -- ---- a new store

  -- a store without books was created in the file and closed, and that is printed
  pub record MakesStore
      (file : List ℕ) (before after : Option (List ℕ)) (log : List (HostCall S P L)) : Type 0 where
    pub store : S
    pub calls : log ≡ Creates file (Ok store) ∷ Closes store ∷ []
    pub printed : Appends before after made_output

  -- none was created in the file, or the writer failed
  abbrev pub StopsMaking : List ℕ → Stop → Option (List ℕ) → Option (List ℕ)
      → List (HostCall S P L) → Type 0
  StopsMaking file stop before after log =
      ((fault : OpenFault) × (log ≡ Creates file (Err fault) ∷ [])
      × StopsUnopened fault stop before after)
      ⊎ ((store : S) × (log ≡ Creates file (Ok store) ∷ Closes store ∷ [])
      × StopsOverText made_output stop before after)

  -- ---- a file of the first schema

  -- the file was migrated to the current schema, and its number of books is printed
  pub record MigratesFile
      (file : List ℕ) (before after : Option (List ℕ)) (log : List (HostCall S P L)) : Type 0 where
    pub count : ℕ
    pub calls : log ≡ Migrates file (Ok count) ∷ []
    pub printed : Appends before after (migrate_output count)

  -- the file wasn't migrated, or memory ran out or the writer failed over the text
  abbrev pub StopsMigrating : List ℕ → Stop → Option (List ℕ) → Option (List ℕ)
      → List (HostCall S P L) → Type 0
  StopsMigrating file stop before after log =
      ((fault : OpenFault) × (log ≡ Migrates file (Err fault) ∷ [])
      × StopsUnopened fault stop before after)
      ⊎ ((count : ℕ) × (log ≡ Migrates file (Ok count) ∷ [])
      × (StopsForMemory stop before after
      ⊎ StopsOverText (migrate_output count) stop before after))

  -- ---- a copy

  -- the store in the file was copied into a new file without the books with these names, and the
  -- number of books that it has is printed
  pub record CopiesFile (file target : List ℕ) (without : List (List ℕ))
      (before after : Option (List ℕ)) (log : List (HostCall S P L)) : Type 0 where
    pub count : ℕ
    pub calls : log ≡ Copies file target without (Ok count) ∷ []
    pub printed : Appends before after (copy_output count)

  -- it wasn't copied, or memory ran out or the writer failed over the text
  abbrev pub StopsCopying : List ℕ → List ℕ → List (List ℕ) → Stop → Option (List ℕ)
      → Option (List ℕ) → List (HostCall S P L) → Type 0
  StopsCopying file target without stop before after log =
      ((log ≡ Copies file target without (Err stop) ∷ []) × Keeps before after)
      ⊎ ((count : ℕ) × (log ≡ Copies file target without (Ok count) ∷ [])
      × (StopsForMemory stop before after
      ⊎ StopsOverText (copy_output count) stop before after))

  -- the copy was put back in place of the file, and what became of the file is printed
  pub record RestoresFile (backup file : List ℕ) (pairs : ℕ) (before after : Option (List ℕ))
      (log : List (HostCall S P L)) : Type 0 where
    pub restored : Restored
    pub calls : log ≡ Restores backup file pairs (Ok restored) ∷ []
    pub printed : Appends before after (restore_output file restored)

  -- it wasn't, or memory ran out or the writer failed over the text
  abbrev pub StopsRestoring : List ℕ → List ℕ → ℕ → Stop → Option (List ℕ) → Option (List ℕ)
      → List (HostCall S P L) → Type 0
  StopsRestoring backup file pairs stop before after log =
      ((log ≡ Restores backup file pairs (Err stop) ∷ []) × Keeps before after)
      ⊎ ((restored : Restored) × (log ≡ Restores backup file pairs (Ok restored) ∷ [])
      × (StopsForMemory stop before after
      ⊎ StopsOverText (restore_output file restored) stop before after))

  -- ---- a check of a file

  -- the octets of the file were read, they have no fault, and what was found is printed
  pub record ChecksFile
      (file : List ℕ) (before after : Option (List ℕ)) (log : List (HostCall S P L)) : Type 0 where
    pub octets : List ℕ
    pub calls : log ≡ ReadsRows file (Ok octets) ∷ []
    pub passes : PassesCheck (kind_of_file file) octets before after

  -- the octets of the file were read, and this is why their check stopped
  pub record StopsOnCheck (file : List ℕ) (stop : Stop)
      (before after : Option (List ℕ)) (log : List (HostCall S P L)) : Type 0 where
    pub octets : List ℕ
    pub calls : log ≡ ReadsRows file (Ok octets) ∷ []
    pub stops : StopsCheck (kind_of_file file) octets stop before after

  -- the file couldn't be read, or its check stopped
  abbrev pub StopsChecking : List ℕ → Stop → Option (List ℕ) → Option (List ℕ)
      → List (HostCall S P L) → Type 0
  StopsChecking file stop before after log =
      ((log ≡ ReadsRows file (Err stop) ∷ []) × StopsUnbound stop before after)
      ⊎ StopsOnCheck file stop before after log

  -- ---- a damaged file

  -- the file's store wasn't opened for another fault than damage, and nothing is written
  pub record StopsUndamaged (file : List ℕ) (stop : Stop)
      (before after : Option (List ℕ)) (log : List (HostCall S P L)) : Type 0 where
    pub fault : OpenFault
    pub undamaged : fault ≢ Damaged
    pub calls : log ≡ Opens file (Err fault) ∷ []
    pub stops : StopsUnopened fault stop before after

  -- the file is damaged, it was searched next, and what was found was reported
  pub record StopsAtDamage (file : List ℕ) (stop : Stop)
      (before after : Option (List ℕ)) (log : List (HostCall S P L)) : Type 0 where
    pub found : Result (Option FaultyRow) OpenFault
    pub calls : log ≡ Opens file (Err Damaged) ∷ FindsFault file found ∷ []
    pub reports : ReportsDamage found stop before after

-- A store is represented by its books.
module _ {S P L : Type 0} (model : StoreModel S) where
  -- ---- an import

  -- all octets of the file of rows were imported into the book, and the counts are printed
  pub record ImportsRows (old : S) (book key csv : List ℕ) (before after : Option (List ℕ))
      (new : S) (log : List (HostCall S P L)) : Type 0 where
    pub rows : List ℕ
    pub calls : log ≡ ReadsRows csv (Ok rows) ∷ []
    pub prints : PrintsCommand model old (ImportRows book key rows) before after new

  -- the import of all octets of the file of rows is why the order stops
  pub record StopsOnImport (old : S) (book key csv : List ℕ) (stop : Stop)
      (before after : Option (List ℕ)) (new : S) (log : List (HostCall S P L)) : Type 0 where
    pub rows : List ℕ
    pub calls : log ≡ ReadsRows csv (Ok rows) ∷ []
    pub stops : StopsCommand model old (ImportRows book key rows) stop before after new

  -- the file of rows couldn't be read: nothing was performed or written
  pub record StopsReadingRows (old : S) (csv : List ℕ) (stop : Stop)
      (before after : Option (List ℕ)) (new : S) (log : List (HostCall S P L)) : Type 0 where
    pub calls : log ≡ ReadsRows csv (Err stop) ∷ []
    pub unchanged : new ≡ old
    pub unwritten : Keeps before after
    pub stop_is : (stop ≡ out_of_memory) ⊎ (stop ≡ Device)

  -- ---- a store

  -- The work was done on the store, and its result is printed. Only an import calls the host.
  abbrev pub DoesStoreWork : S → StoreWork → Option (List ℕ) → Option (List ℕ) → S
      → List (HostCall S P L) → Type 0
  DoesStoreWork old (Perform command) before after new log =
      (log ≡ []) × PrintsCommand model old command before after new
  DoesStoreWork old (ImportFile book key csv) before after new log =
      ImportsRows old book key csv before after new log
  DoesStoreWork old (MirrorBook book limit pages) before after new log =
      (log ≡ []) × PrintsMirror model old book limit pages before after new
  DoesStoreWork old (ExportCards book is_older) before after new log =
      (log ≡ []) × PrintsCards model old book is_older before after new
  DoesStoreWork old (ListBooks what) before after new log =
      (log ≡ []) × PrintsListing model what old before after new
  DoesStoreWork old (Resync pairs) before after new log =
      (log ≡ []) × PrintsResync model old pairs before after new

  -- why the work wasn't done on the store, or its result wasn't printed
  abbrev pub StopsStoreWork : S → StoreWork → Stop → Option (List ℕ) → Option (List ℕ) → S
      → List (HostCall S P L) → Type 0
  StopsStoreWork old (Perform command) stop before after new log =
      (log ≡ []) × StopsCommand model old command stop before after new
  StopsStoreWork old (ImportFile book key csv) stop before after new log =
      StopsReadingRows old csv stop before after new log
      ⊎ StopsOnImport old book key csv stop before after new log
  StopsStoreWork old (MirrorBook book limit pages) stop before after new log =
      (log ≡ []) × StopsMirror model old book limit pages stop before after new
  StopsStoreWork old (ExportCards book is_older) stop before after new log =
      (log ≡ []) × StopsCards model old book is_older stop before after new
  StopsStoreWork old (ListBooks what) stop before after new log =
      (log ≡ []) × StopsListing model what old stop before after new
  StopsStoreWork old (Resync pairs) stop before after new log =
      (log ≡ []) × StopsResync model old pairs stop before after new

  -- ---- the store in a file

  -- the file's store was opened, the work was done on it, and it was closed as the work left it
  abbrev pub DoesInFile : List ℕ → StoreWork → Option (List ℕ) → Option (List ℕ)
      → List (HostCall S P L) → Type 0
  DoesInFile file work before after log = UsesStore file false
      (λ old new later. DoesStoreWork old work before after new later) log

  -- the file's store was opened, this is why the work stopped, and it was closed as that left it
  abbrev pub StopsOnFile : List ℕ → StoreWork → Stop → Option (List ℕ) → Option (List ℕ)
      → List (HostCall S P L) → Type 0
  StopsOnFile file work stop before after log = UsesStore file false
      (λ old new later. StopsStoreWork old work stop before after new later) log

  -- the file wasn't opened, or it was and the work stopped
  abbrev pub StopsInFile : List ℕ → StoreWork → Stop → Option (List ℕ) → Option (List ℕ)
      → List (HostCall S P L) → Type 0
  StopsInFile file work stop before after log =
      GetsNoStore file false stop before after log ⊎ StopsOnFile file work stop before after log

  -- ---- verifying a file

  -- the file's store was opened, and its books and their number were listed
  abbrev pub VerifiesFile : List ℕ → Option (List ℕ) → Option (List ℕ) → List (HostCall S P L)
      → Type 0
  VerifiesFile file before after log = DoesInFile file (ListBooks Verified) before after log

  -- the file wasn't opened, and if it is damaged, the row at fault was reported; or it was opened,
  -- and the listing stopped
  abbrev pub StopsVerifying : List ℕ → Stop → Option (List ℕ) → Option (List ℕ)
      → List (HostCall S P L) → Type 0
  StopsVerifying file stop before after log =
      StopsUndamaged file stop before after log
      ⊎ (StopsAtDamage file stop before after log
      ⊎ StopsOnFile file (ListBooks Verified) stop before after log)

-- ---- serving

-- A handler is represented by what it does, and an endpoint by the effects of its calls.
module _ {S P L State : Type 0} (does : HandlerRelation State) (fault_reply : FaultReplies)
    (effects : EndpointRelation P) where
  -- An endpoint was bound to the requested address, at any port if it is 0, with a place for each
  -- connection that may be open at once. The line that announces its address was written, and then
  -- all connections were served. At last the endpoint, as serving left it, was closed. What is
  -- logged of the requests changes none of this.
  pub record ServesAt (requested : Address) (limits : ServeLimits) (old : State)
      (before after : Option (List ℕ)) (log : List (HostCall S P L)) : Type 0 where
    pub endpoint : P
    pub address : Address
    pub new : State
    pub endpoint_after : P
    pub calls : log ≡
        Binds requested limits.together (Ok (endpoint, address)) ∷ Finishes endpoint_after ∷ []
    pub is_requested : IsBoundAs requested address
    pub announces : AnnouncesAndServes does fault_reply effects address limits
        old endpoint before after new endpoint_after

  -- the same, but not all connections were served
  pub record StopsServingAt (requested : Address) (limits : ServeLimits) (stop : Stop) (old : State)
      (before after : Option (List ℕ)) (log : List (HostCall S P L)) : Type 0 where
    pub endpoint : P
    pub address : Address
    pub new : State
    pub endpoint_after : P
    pub calls : log ≡
        Binds requested limits.together (Ok (endpoint, address)) ∷ Finishes endpoint_after ∷ []
    pub is_requested : IsBoundAs requested address
    pub stops : StopsServing does fault_reply effects address limits
        old endpoint before after stop new endpoint_after

  -- no endpoint was bound, or not all connections were served
  abbrev pub StopsAt : Address → ServeLimits → Stop → State → Option (List ℕ) → Option (List ℕ)
      → List (HostCall S P L) → Type 0
  StopsAt requested limits stop old before after log =
      ((log ≡ Binds requested limits.together (Err stop) ∷ []) × StopsUnbound stop before after)
      ⊎ StopsServingAt requested limits stop old before after log

-- The handler begins with a store in this state of its own.
module _ {S P L State : Type 0} (does : HandlerRelation State) (effects : EndpointRelation P)
    (state_of : S → State) where
  -- the file's store was opened or created, and then it was served
  pub record ServesStore (file : List ℕ) (creates : Bool) (requested : Address)
      (limits : ServeLimits) (before after : Option (List ℕ)) (log : List (HostCall S P L))
      : Type 0 where
    pub store : S
    pub first : List (HostCall S P L)
    pub later : List (HostCall S P L)
    pub calls : log ≡ first ++ later
    pub gets : GetsStore file creates (Ok store) first
    pub serves : ServesAt does head_fault_octets effects requested limits (state_of store)
        before after later

  -- the file's store was opened or created, and this is why serving it stopped
  pub record StopsServingStore (file : List ℕ) (creates : Bool) (requested : Address)
      (limits : ServeLimits) (stop : Stop) (before after : Option (List ℕ))
      (log : List (HostCall S P L)) : Type 0 where
    pub store : S
    pub first : List (HostCall S P L)
    pub later : List (HostCall S P L)
    pub calls : log ≡ first ++ later
    pub gets : GetsStore file creates (Ok store) first
    pub stops : StopsAt does head_fault_octets effects requested limits stop (state_of store)
        before after later

  -- there is no store of the file; or there is, and memory ran out, or serving it stopped
  abbrev pub StopsStore : List ℕ → Bool → Address → ServeLimits → Stop
      → Option (List ℕ) → Option (List ℕ) → List (HostCall S P L) → Type 0
  StopsStore file creates requested limits stop before after log =
      ((fault : OpenFault) × GetsStore file creates (Err fault) log
      × StopsUnopened fault stop before after)
      ⊎ (((store : S) × GetsStore file creates (Ok store) log × StopsForMemory stop before after)
      ⊎ StopsServingStore file creates requested limits stop before after log)

-- A store is represented by its books, a front by what it answers, and an endpoint by the effects
-- of its calls.
module _ {S P L : Type 0} (model : StoreModel S) (front : FrontRelation)
    (effects : EndpointRelation P) where
  -- the file's store was opened, or created if that was asked for, and served with the front before
  -- it, behind a guard of a server with these names
  abbrev pub RunsGuarded : List ℕ → Bool → List (List ℕ) → Address → ServeLimits
      → Option (List ℕ) → Option (List ℕ) → List (HostCall S P L) → Type 0
  RunsGuarded file creates names requested limits before after log =
      ServesStore (guarded (with_front front (ServiceStep model))) effects
      (λ store. (names, store)) file creates requested limits before after log

  -- why it wasn't
  abbrev pub StopsGuarded : List ℕ → Bool → List (List ℕ) → Address → ServeLimits → Stop
      → Option (List ℕ) → Option (List ℕ) → List (HostCall S P L) → Type 0
  StopsGuarded file creates names requested limits stop before after log =
      StopsStore (guarded (with_front front (ServiceStep model))) effects
      (λ store. (names, store)) file creates requested limits stop before after log

  -- the same with these files of a site beside the service
  abbrev pub RunsSite : List SiteFile → List ℕ → Bool → List (List ℕ) → Address → ServeLimits
      → Option (List ℕ) → Option (List ℕ) → List (HostCall S P L) → Type 0
  RunsSite files file creates names requested limits before after log =
      ServesStore (guarded (with_front front (with_site (ServiceStep model)))) effects
      (λ store. (names, (files, store))) file creates requested limits before after log

  -- why it wasn't
  abbrev pub StopsSite : List SiteFile → List ℕ → Bool → List (List ℕ) → Address → ServeLimits
      → Stop → Option (List ℕ) → Option (List ℕ) → List (HostCall S P L) → Type 0
  StopsSite files file creates names requested limits stop before after log =
      StopsStore (guarded (with_front front (with_site (ServiceStep model)))) effects
      (λ store. (names, (files, store))) file creates requested limits stop before after log

  -- the files of the folder were read first, and are the site
  pub record RunsFolder (dir file : List ℕ) (creates : Bool) (names : List (List ℕ))
      (requested : Address) (limits : ServeLimits) (before after : Option (List ℕ))
      (log : List (HostCall S P L)) : Type 0 where
    pub files : List SiteFile
    pub later : List (HostCall S P L)
    pub calls : log ≡ ReadsSite dir (Ok files) ∷ later
    pub runs : RunsSite files file creates names requested limits before after later

  -- the files of the folder were read, and this is why serving them and the books stopped
  pub record StopsBesideFolder (dir file : List ℕ) (creates : Bool) (names : List (List ℕ))
      (requested : Address) (limits : ServeLimits) (stop : Stop) (before after : Option (List ℕ))
      (log : List (HostCall S P L)) : Type 0 where
    pub files : List SiteFile
    pub later : List (HostCall S P L)
    pub calls : log ≡ ReadsSite dir (Ok files) ∷ later
    pub stops : StopsSite files file creates names requested limits stop before after later

  -- the files of the folder couldn't be read; or they were, and serving stopped
  abbrev pub StopsFolder : List ℕ → List ℕ → Bool → List (List ℕ) → Address → ServeLimits → Stop
      → Option (List ℕ) → Option (List ℕ) → List (HostCall S P L) → Type 0
  StopsFolder dir file creates names requested limits stop before after log =
      ((log ≡ ReadsSite dir (Err stop) ∷ []) × StopsUnbound stop before after)
      ⊎ StopsBesideFolder dir file creates names requested limits stop before after log

  -- with the site of a folder, if one was given
  abbrev pub RunsFile : List ℕ → Bool → List (List ℕ) → Address → ServeLimits → Option (List ℕ)
      → Option (List ℕ) → Option (List ℕ) → List (HostCall S P L) → Type 0
  RunsFile file creates names requested limits None before after log =
      RunsGuarded file creates names requested limits before after log
  RunsFile file creates names requested limits (Some dir) before after log =
      RunsFolder dir file creates names requested limits before after log

  -- why it wasn't
  abbrev pub StopsRun : List ℕ → Bool → List (List ℕ) → Address → ServeLimits → Option (List ℕ)
      → Stop → Option (List ℕ) → Option (List ℕ) → List (HostCall S P L) → Type 0
  StopsRun file creates names requested limits None stop before after log =
      StopsGuarded file creates names requested limits stop before after log
  StopsRun file creates names requested limits (Some dir) stop before after log =
      StopsFolder dir file creates names requested limits stop before after log

-- ---- all orders

-- A store is represented by its books, a front by what it answers, an endpoint by the effects of
-- its calls, a connection by its octets, and a listener by the connections that arrive at it.
module _ {S P L Connection : Type 0} (model : StoreModel S) (front : FrontRelation)
    (effects : EndpointRelation P) (stream : ConnectionModel Connection)
    (coming : L → Option (List (Option Connection))) where
  -- the work was done, and its output is printed
  abbrev pub DoesWork : Work → Option (List ℕ) → Option (List ℕ) → List (HostCall S P L) → Type 0
  DoesWork Nothing before after log = ⊥
  DoesWork PrintVersion before after log = (log ≡ []) × Appends before after version_output
  DoesWork (CheckFile file) before after log = ChecksFile file before after log
  DoesWork (CreateFile file) before after log = MakesStore file before after log
  DoesWork (MigrateFile file) before after log = MigratesFile file before after log
  DoesWork (CopyFile file target without) before after log =
      CopiesFile file target without before after log
  DoesWork (RestoreFile backup file pairs) before after log =
      RestoresFile backup file pairs before after log
  DoesWork (ServeFile file port connections) before after log =
      ServesFile model stream coming file port connections before after log
  DoesWork (RunFile file creates names address limits is_logged site) before after log =
      RunsFile model front effects file creates names address limits site before after log
  DoesWork (VerifyFile file) before after log = VerifiesFile model file before after log
  DoesWork (UseFile file work) before after log = DoesInFile model file work before after log

  -- Why the work wasn't done, or its output wasn't printed. `try` has no work here, since it needs
  -- standard input.
  abbrev pub StopsWork : Work → Stop → Option (List ℕ) → Option (List ℕ)
      → List (HostCall S P L) → Type 0
  StopsWork Nothing stop before after log = (log ≡ []) × StopsAtDevice stop before after
  StopsWork PrintVersion stop before after log =
      (log ≡ []) × StopsOverText version_output stop before after
  StopsWork (CheckFile file) stop before after log = StopsChecking file stop before after log
  StopsWork (CreateFile file) stop before after log = StopsMaking file stop before after log
  StopsWork (MigrateFile file) stop before after log = StopsMigrating file stop before after log
  StopsWork (CopyFile file target without) stop before after log =
      StopsCopying file target without stop before after log
  StopsWork (RestoreFile backup file pairs) stop before after log =
      StopsRestoring backup file pairs stop before after log
  StopsWork (ServeFile file port connections) stop before after log =
      StopsServe model stream coming file port connections stop before after log
  StopsWork (RunFile file creates names address limits is_logged site) stop before after log =
      StopsRun model front effects file creates names address limits site stop before after log
  StopsWork (VerifyFile file) stop before after log =
      StopsVerifying model file stop before after log
  StopsWork (UseFile file work) stop before after log =
      StopsInFile model file work stop before after log

  -- the work of the order was done, and its output is printed
  abbrev pub RunsOnHost : Order → Option (List ℕ) → Option (List ℕ) → List (HostCall S P L) → Type 0
  RunsOnHost order before after log = DoesWork (work_of order) before after log

  -- why it wasn't
  abbrev pub StopsOnHost : Order → Stop → Option (List ℕ) → Option (List ℕ)
      → List (HostCall S P L) → Type 0
  StopsOnHost order stop before after log = StopsWork (work_of order) stop before after log
