-- The calls that are made of a host, and what is done with their results.
use Rattle.std.proofs.Common.{◌≡◌, ◌⊎◌, ℕ, Bool, true, false, List, [], ◌∷◌, ◌++◌, Option}
use Rattle.std.proofs.Common.{Result, Ok, Err, IfErr, OnOk, inl, inr, refl, subst, sym}
use Rattle.std.specs.Io.KnownBytes.{Appends}
use Rattle.cli_orders.specs.OrderOutputs.{copy_output, made_output, migrate_output}
use Rattle.cli_orders.specs.RestoreOutputs.{restore_output}
use Rattle.cli_orders.specs.declared.restore_output.Restored.{Restored}
use Rattle.cli_orders.specs.Findings.{PassesCheck, StopsCheck, kind_of_file}
use Rattle.cli_orders.specs.Stops.{out_of_memory}
use Rattle.book_http.specs.Streams.{WritesPrefix}
use Rattle.cli_orders.specs.declared.stop.Stop.{Stop}
use Rattle.cli_orders.specs.declared.stop.Stop.TheVariants.{Open, Device}
use Rattle.cli_orders.proofs.StopLemmas.{kept_same}
use Rattle.cli_host.specs.Hosts.{HostCall, Closes, Copies, Creates, Looks, Opens}
use Rattle.cli_host.specs.Hosts.{Migrates}
use Rattle.cli_host.specs.Hosts.{ReadsRows, Restores, LogsCalls}
use Rattle.cli_host.specs.Hosts.{MakesCalls}
use Rattle.cli_host.specs.OrdersOnHost.{ChecksFile, CopiesFile}
use Rattle.cli_host.specs.OrdersOnHost.{GetsStore, MakesStore, MigratesFile}
use Rattle.cli_host.specs.OrdersOnHost.{RestoresFile, StopsChecking}
use Rattle.cli_host.specs.OrdersOnHost.{StopsCopying, StopsMaking, StopsMigrating}
use Rattle.cli_host.specs.OrdersOnHost.{StopsRestoring}
use Rattle.cli_host.specs.OrdersOnHost.{StopsUnbound, StopsUnopened}
use Rattle.cli_host.specs.OrdersOnHost.{UsesStore}
use Rattle.store_schema.specs.declared.open_fault.OpenFault.{OpenFault}

pub unopened : (fault : OpenFault) (w : Option (List ℕ)) → StopsUnopened fault (Open fault) w w
unopened fault w = record { stop_is = refl; unwritten = kept_same w }

pub unbound : (stop : Stop) (w : Option (List ℕ)) → (stop ≡ out_of_memory) ⊎ (stop ≡ Device)
    → StopsUnbound stop w w
unbound stop w (inl is) = inl (record { stop_is = is; unwritten = kept_same w })
unbound stop w (inr is) = inr (record { stop_is = is; unwritten = kept_same w })

module _ {S P L H : Type 0} (calls : HostCall S P L → H → H → Type 0) where
  pub one_call : (old new : H) (call : HostCall S P L) (Holds : List (HostCall S P L) → Type 0)
      → calls call old new → Holds (call ∷ []) → LogsCalls calls old new Holds
  one_call old new call Holds made holds = record {
    log = call ∷ [];
    made = (new, made, refl);
    holds = holds;
  }

  -- ---- a new store

  pub store_uncreated : (old new : H) (file : List ℕ) (fault : OpenFault) (w : Option (List ℕ))
      → calls (Creates file (Err fault)) old new
      → LogsCalls calls old new (StopsMaking file (Open fault) w w)
  store_uncreated old new file fault w made =
      one_call old new (Creates file (Err fault)) (StopsMaking file (Open fault) w w) made
      (inl (fault, refl, unopened fault w))

  pub store_made : (result : Result (Unit {0}) Stop) (old created new : H) (file : List ℕ)
      (store : S) (before after : Option (List ℕ)) → calls (Creates file (Ok store)) old created
      → calls (Closes store) created new → OnOk result (Appends before after made_output)
      → OnOk result (LogsCalls calls old new (MakesStore file before after))
  store_made (Ok done) old created new file store before after made closes printed = record {
    log = Creates file (Ok store) ∷ Closes store ∷ [];
    made = (created, made, (new, closes, refl));
    holds = record { store = store; calls = refl; printed = printed };
  }
  store_made (Err stop) old created new file store before after made closes printed = tt

  pub store_made_unprinted : (result : Result (Unit {0}) Stop) (old created new : H) (file : List ℕ)
      (store : S) (before after : Option (List ℕ)) → calls (Creates file (Ok store)) old created
      → calls (Closes store) created new → WritesPrefix made_output before after
      → IfErr result (λ stop. stop ≡ Device)
      → IfErr result (λ stop. LogsCalls calls old new (StopsMaking file stop before after))
  store_made_unprinted (Ok done) old created new file store before after made closes front device =
      tt
  store_made_unprinted (Err stop) old created new file store before after made closes front device =
      record {
        log = Creates file (Ok store) ∷ Closes store ∷ [];
        made = (created, made, (new, closes, refl));
        holds = inr (store, refl, record { stop_is = device; front = front });
      }

  -- ---- a file of the first schema

  pub file_unmigrated : (old new : H) (file : List ℕ) (fault : OpenFault) (w : Option (List ℕ))
      → calls (Migrates file (Err fault)) old new
      → LogsCalls calls old new (StopsMigrating file (Open fault) w w)
  file_unmigrated old new file fault w made =
      one_call old new (Migrates file (Err fault)) (StopsMigrating file (Open fault) w w) made
      (inl (fault, refl, unopened fault w))

  pub migration_without_text : (old new : H) (file : List ℕ) (count : ℕ) (w : Option (List ℕ))
      → calls (Migrates file (Ok count)) old new
      → LogsCalls calls old new (StopsMigrating file out_of_memory w w)
  migration_without_text old new file count w made =
      one_call old new (Migrates file (Ok count)) (StopsMigrating file out_of_memory w w) made
      (inr (count, refl, inl (record { stop_is = refl; unwritten = kept_same w })))

  pub file_migrated : (result : Result (Unit {0}) Stop) (old new : H) (file : List ℕ) (count : ℕ)
      (before after : Option (List ℕ)) → calls (Migrates file (Ok count)) old new
      → OnOk result (Appends before after (migrate_output count))
      → OnOk result (LogsCalls calls old new (MigratesFile file before after))
  file_migrated (Ok done) old new file count before after made printed =
      one_call old new (Migrates file (Ok count)) (MigratesFile file before after) made
      (record { count = count; calls = refl; printed = printed })
  file_migrated (Err stop) old new file count before after made printed = tt

  pub file_migrated_unprinted : (result : Result (Unit {0}) Stop) (old new : H) (file : List ℕ)
      (count : ℕ) (before after : Option (List ℕ)) → calls (Migrates file (Ok count)) old new
      → WritesPrefix (migrate_output count) before after → IfErr result (λ stop. stop ≡ Device)
      → IfErr result (λ stop. LogsCalls calls old new (StopsMigrating file stop before after))
  file_migrated_unprinted (Ok done) old new file count before after made front device = tt
  file_migrated_unprinted (Err stop) old new file count before after made front device =
      one_call old new (Migrates file (Ok count)) (StopsMigrating file stop before after) made
      (inr (count, refl, inr (record { stop_is = device; front = front })))

  -- ---- a copy

  pub file_uncopied : (old new : H) (file target : List ℕ) (without : List (List ℕ)) (stop : Stop)
      (w : Option (List ℕ)) → calls (Copies file target without (Err stop)) old new
      → LogsCalls calls old new (StopsCopying file target without stop w w)
  file_uncopied old new file target without stop w made =
      one_call old new (Copies file target without (Err stop)) (StopsCopying file target without
      stop w w) made (inl (refl, kept_same w))

  pub copy_without_text : (old new : H) (file target : List ℕ) (without : List (List ℕ)) (count : ℕ)
      (w : Option (List ℕ)) → calls (Copies file target without (Ok count)) old new
      → LogsCalls calls old new (StopsCopying file target without out_of_memory w w)
  copy_without_text old new file target without count w made =
      one_call old new (Copies file target without (Ok count)) (StopsCopying file target without
      out_of_memory w w) made (inr (
        count,
        refl,
        inl (record { stop_is = refl; unwritten = kept_same w }),
      ))

  pub file_copied : (result : Result (Unit {0}) Stop) (old new : H) (file target : List ℕ)
      (without : List (List ℕ)) (count : ℕ) (before after : Option (List ℕ))
      → calls (Copies file target without (Ok count)) old new
      → OnOk result (Appends before after (copy_output count))
      → OnOk result (LogsCalls calls old new (CopiesFile file target without before after))
  file_copied (Ok done) old new file target without count before after made printed =
      one_call old new (Copies file target without (Ok count)) (CopiesFile file target without
      before after) made (record { count = count; calls = refl; printed = printed })
  file_copied (Err stop) old new file target without count before after made printed = tt

  pub file_copied_unprinted : (result : Result (Unit {0}) Stop) (old new : H) (file target : List ℕ)
      (without : List (List ℕ)) (count : ℕ) (before after : Option (List ℕ))
      → calls (Copies file target without (Ok count)) old new
      → WritesPrefix (copy_output count) before after → IfErr result (λ stop. stop ≡ Device)
      → IfErr result (λ stop. LogsCalls calls old new (StopsCopying file target without stop
      before after))
  file_copied_unprinted (Ok done) old new file target without count before after made front device =
      tt
  file_copied_unprinted (Err stop) old new file target without count before after made front
      device =
      one_call old new (Copies file target without (Ok count)) (StopsCopying file target without
      stop before after) made (inr (
        count,
        refl,
        inr (record { stop_is = device; front = front }),
      ))

  -- ---- a copy that is put back

  pub file_unrestored : (old new : H) (backup file : List ℕ) (pairs : ℕ) (stop : Stop) (w :
      Option (List ℕ)) → calls (Restores backup file pairs (Err stop)) old new
      → LogsCalls calls old new (StopsRestoring backup file pairs stop w w)
  file_unrestored old new backup file pairs stop w made =
      one_call old new (Restores backup file pairs (Err stop)) (StopsRestoring backup file pairs
      stop w w) made (inl (refl, kept_same w))

  pub restore_without_text : (old new : H) (backup file : List ℕ) (pairs : ℕ) (restored : Restored)
      (w : Option (List ℕ)) → calls (Restores backup file pairs (Ok restored)) old new
      → LogsCalls calls old new (StopsRestoring backup file pairs out_of_memory w w)
  restore_without_text old new backup file pairs restored w made =
      one_call old new (Restores backup file pairs (Ok restored)) (StopsRestoring backup file pairs
      out_of_memory w w) made (inr (
        restored,
        refl,
        inl (record { stop_is = refl; unwritten = kept_same w }),
      ))

  pub file_restored : (result : Result (Unit {0}) Stop) (old new : H) (backup file : List ℕ)
      (pairs : ℕ) (restored : Restored) (before after : Option (List ℕ))
      → calls (Restores backup file pairs (Ok restored)) old new
      → OnOk result (Appends before after (restore_output file restored))
      → OnOk result (LogsCalls calls old new (RestoresFile backup file pairs before after))
  file_restored (Ok done) old new backup file pairs restored before after made printed =
      one_call old new (Restores backup file pairs (Ok restored)) (RestoresFile backup file pairs
      before after) made (record { restored = restored; calls = refl; printed = printed })
  file_restored (Err stop) old new backup file pairs restored before after made printed = tt

  pub file_restored_unprinted : (result : Result (Unit {0}) Stop) (old new : H) (backup file :
      List ℕ) (pairs : ℕ) (restored : Restored) (before after : Option (List ℕ))
      → calls (Restores backup file pairs (Ok restored)) old new
      → WritesPrefix (restore_output file restored) before after
      → IfErr result (λ stop. stop ≡ Device)
      → IfErr result (λ stop. LogsCalls calls old new (StopsRestoring backup file pairs stop
      before after))
  file_restored_unprinted (Ok done) old new backup file pairs restored before after made front
      device = tt
  file_restored_unprinted (Err stop) old new backup file pairs restored before after made front
      device =
      one_call old new (Restores backup file pairs (Ok restored)) (StopsRestoring backup file pairs
      stop before after) made (inr (
        restored,
        refl,
        inr (record { stop_is = device; front = front }),
      ))

  -- ---- a check of a file

  pub octets_unread : (old new : H) (file : List ℕ) (stop : Stop) (w : Option (List ℕ))
      → calls (ReadsRows file (Err stop)) old new → (stop ≡ out_of_memory) ⊎ (stop ≡ Device)
      → LogsCalls calls old new (StopsChecking file stop w w)
  octets_unread old new file stop w made stop_is =
      one_call old new (ReadsRows file (Err stop)) (StopsChecking file stop w w) made
      (inl (refl, unbound stop w stop_is))

  pub file_checked : (result : Result (Unit {0}) Stop) (old new : H) (file octets : List ℕ)
      (before after : Option (List ℕ)) → calls (ReadsRows file (Ok octets)) old new
      → OnOk result (PassesCheck (kind_of_file file) octets before after)
      → OnOk result (LogsCalls calls old new (ChecksFile file before after))
  file_checked (Ok done) old new file octets before after made passes =
      one_call old new (ReadsRows file (Ok octets)) (ChecksFile file before after) made
      (record { octets = octets; calls = refl; passes = passes })
  file_checked (Err stop) old new file octets before after made passes = tt

  pub file_refused : (result : Result (Unit {0}) Stop) (old new : H) (file octets : List ℕ)
      (before after : Option (List ℕ)) → calls (ReadsRows file (Ok octets)) old new
      → IfErr result (λ stop. StopsCheck (kind_of_file file) octets stop before after)
      → IfErr result (λ stop. LogsCalls calls old new (StopsChecking file stop before after))
  file_refused (Ok done) old new file octets before after made stops = tt
  file_refused (Err stop) old new file octets before after made stops =
      one_call old new (ReadsRows file (Ok octets)) (StopsChecking file stop before after) made
      (inr (record { octets = octets; calls = refl; stops = stops }))

-- ---- the store of a file

module _ {S P L H : Type 0} (calls : HostCall S P L → H → H → Type 0) where
  -- calls of the host in turn
  pub makes_both : (first later : List (HostCall S P L)) (old middle new : H)
      → MakesCalls calls old first middle → MakesCalls calls middle later new
      → MakesCalls calls old (first ++ later) new
  makes_both [] later old middle new same made =
      subst (λ (h : H). MakesCalls calls h later new) same made
  makes_both (call ∷ first) later old middle new (next, did, rest) made =
      (next, did, makes_both first later next middle new rest made)

  pub store_opened : (old new : H) (file : List ℕ) (creates : Bool) (result : Result S OpenFault)
      → creates ≡ false → calls (Opens file result) old new
      → LogsCalls calls old new (GetsStore file creates result)
  store_opened old new file creates result asked made =
      subst (λ (creates : Bool). LogsCalls calls old new (GetsStore file creates result))
      (sym asked) (one_call calls old new (Opens file result) (GetsStore file false result) made
      refl)

  pub store_got : (old new : H) (file : List ℕ) (creates : Bool) (result : Result S OpenFault)
      → creates ≡ true → LogsCalls calls old new (GetsStore file true result)
      → LogsCalls calls old new (GetsStore file creates result)
  store_got old new file creates result asked got =
      subst (λ (creates : Bool). LogsCalls calls old new (GetsStore file creates result))
      (sym asked) got

  pub vacant_created : (old looked new : H) (file : List ℕ) (vacant : Bool) (result :
      Result S OpenFault) → vacant ≡ true → calls (Looks file vacant) old looked
      → calls (Creates file result) looked new
      → LogsCalls calls old new (GetsStore file true result)
  vacant_created old looked new file vacant result is looks made = record {
    log = Looks file true ∷ Creates file result ∷ [];
    made = (
      looked,
      subst (λ (vacant : Bool). calls (Looks file vacant) old looked) is looks,
      (new, made, refl),
    );
    holds = inl refl;
  }

  pub used_opened : (old looked new : H) (file : List ℕ) (vacant : Bool) (result :
      Result S OpenFault) → vacant ≡ false → calls (Looks file vacant) old looked
      → calls (Opens file result) looked new → LogsCalls calls old new (GetsStore file true result)
  used_opened old looked new file vacant result is looks made = record {
    log = Looks file false ∷ Opens file result ∷ [];
    made = (
      looked,
      subst (λ (vacant : Bool). calls (Looks file vacant) old looked) is looks,
      (new, made, refl),
    );
    holds = inr refl;
  }

  pub store_opened_at : (old new : H) (file : List ℕ) (store : S)
      → calls (Opens file (Ok store)) old new
      → LogsCalls calls old new (GetsStore file false (Ok store))
  store_opened_at old new file store made =
      record { log = Opens file (Ok store) ∷ []; made = (new, made, refl); holds = refl }

  -- the store was got, used and closed
  pub store_used : (old got worked new : H) (file : List ℕ) (creates : Bool)
      (Does : S → S → List (HostCall S P L) → Type 0) (store store_after : S)
      → LogsCalls calls old got (GetsStore file creates (Ok store))
      → LogsCalls calls got worked (Does store store_after) → calls (Closes store_after) worked new
      → LogsCalls calls old new (UsesStore file creates Does)
  store_used old got worked new file creates Does store store_after gets does closes =
      let last : List (HostCall S P L) = Closes store_after ∷ [] in
      let rest : MakesCalls calls got (does.log ++ last) new =
      makes_both does.log last got worked new does.made (new, closes, refl) in
      record {
        log = gets.log ++ (does.log ++ last);
        made = makes_both gets.log (does.log ++ last) old got new gets.made rest;
        holds = record {
          store = store;
          store_after = store_after;
          first = gets.log;
          later = does.log;
          calls = refl;
          gets = gets.holds;
          does = does.holds;
        };
      }

  pub store_used_well : (result : Result (Unit {0}) Stop) (old got worked new : H) (file : List ℕ)
      (creates : Bool) (Does : S → S → List (HostCall S P L) → Type 0) (store store_after : S)
      → LogsCalls calls old got (GetsStore file creates (Ok store))
      → OnOk result (LogsCalls calls got worked (Does store store_after))
      → calls (Closes store_after) worked new
      → OnOk result (LogsCalls calls old new (UsesStore file creates Does))
  store_used_well (Ok done) old got worked new file creates Does store store_after gets does
      closes = store_used old got worked new file creates Does store store_after gets does closes
  store_used_well (Err stop) old got worked new file creates Does store store_after gets does
      closes = tt
