use Rattle.std.proofs.Common.{false, rules, Ok, Err, inl, inr, refl}
use Rattle.cli_host.specs.Hosts.{FindsFault, Opens}
use Rattle.cli_host.specs.OrdersOnHost.{DoesStoreWork}
use Rattle.cli_host.specs.declared.listing.Listing.TheVariants.{Verified}
use Rattle.cli_host.specs.declared.work.StoreWork.TheVariants.{ListBooks}
use Rattle.cli_host.proofs.StoreCallLemmas.{damage_reported, listing_done, listing_stopped}
use Rattle.cli_host.proofs.CallLemmas.{store_opened_at, store_used_well}
use Rattle.cli_host.proofs.StoreCallLemmas.{verify_stopped}
use Rattle.cli_host.proofs.StoreCallLemmas.{verify_unopened}
use Rattle.store_schema.specs.declared.open_fault.OpenFault.TheVariants.{Damaged}
use Rattle.cli_host.proofs.verifying.run_verify.Goals as goal

pub returns-in-Ok-clause-done : goal.returns-in-Ok-clause-done
returns-in-Ok-clause-done g c =
    let made : g.M.Host.calls (Opens c.args.file (Ok c.in-Ok.store)) c.args.host.now
    c.open_watched.new.host = search (rules) in
    let before = g.W.Write.contents c.args.writer.now in
    let after = g.W.Write.contents c.run_listing-listed.new.writer in
    store_used_well g.M.Host.calls c.run_listing-listed.result c.args.host.now
    c.open_watched.new.host c.open_watched.new.host c.close.new.self c.args.file false
    (λ old new later. DoesStoreWork g.S.BookStore.model old (ListBooks Verified) before after new
    later) c.in-Ok.store c.run_listing-listed.new.store
    (store_opened_at g.M.Host.calls c.args.host.now c.open_watched.new.host c.args.file
    c.in-Ok.store made)
    (listing_done g.S.BookStore.model g.M.Host.calls c.run_listing-listed.result
    c.open_watched.new.host c.in-Ok.store c.run_listing-listed.new.store Verified before after
    c.run_listing-listed.ensures.printed) c.close.ensures

pub returns-in-Ok-clause-stopped : goal.returns-in-Ok-clause-stopped
returns-in-Ok-clause-stopped g c =
    let made : g.M.Host.calls (Opens c.args.file (Ok c.in-Ok.store)) c.args.host.now
    c.open_watched.new.host = search (rules) in
    let before = g.W.Write.contents c.args.writer.now in
    let after = g.W.Write.contents c.run_listing-listed.new.writer in
    verify_stopped g.S.BookStore.model g.M.Host.calls c.run_listing-listed.result c.args.host.now
    c.open_watched.new.host c.open_watched.new.host c.close.new.self c.args.file c.in-Ok.store
    c.run_listing-listed.new.store before after
    (store_opened_at g.M.Host.calls c.args.host.now c.open_watched.new.host c.args.file
    c.in-Ok.store made)
    (listing_stopped g.S.BookStore.model g.M.Host.calls c.run_listing-listed.result
    c.open_watched.new.host c.in-Ok.store c.run_listing-listed.new.store Verified before after
    c.run_listing-listed.ensures.stopped) c.close.ensures

pub returns-in-Damaged-clause-stopped : goal.returns-in-Damaged-clause-stopped
returns-in-Damaged-clause-stopped g c =
    let made : g.M.Host.calls (Opens c.args.file (Err Damaged)) c.args.host.now
    c.open_watched.new.host = search (rules) in
    let searched : g.M.Host.calls (FindsFault c.args.file c.find_fault-found.result)
    c.open_watched.new.host c.find_fault-found.new.self = search (rules) in
    damage_reported g.S.BookStore.model g.M.Host.calls c.args.host.now c.open_watched.new.host
    c.find_fault-found.new.self c.args.file c.find_fault-found.result c.report_damage.result
    (g.W.Write.contents c.args.writer.now) (g.W.Write.contents c.report_damage.new.writer) made
    searched c.report_damage.ensures.reported

pub returns : goal.returns
returns g c =
    let made : g.M.Host.calls (Opens c.args.file (Err c.in-Err.fault)) c.args.host.now
    c.open_watched.new.host = search (rules) in
    record {
      done = tt;
      stopped = verify_unopened g.S.BookStore.model g.M.Host.calls c.args.host.now
          c.open_watched.new.host c.args.file c.in-Err.fault (g.W.Write.contents c.args.writer.now)
          c.in_default.not-Damaged made;
      flushed = record { done = tt; stopped = inr (inl refl) };
    }
