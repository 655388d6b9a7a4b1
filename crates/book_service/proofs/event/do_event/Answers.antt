use Rattle.std.proofs.Common.{List, length, slice_set, refl, sym, ap, ◌∙◌, subst}
use Rattle.std.proofs.lemmas.List.{set-get_or}
use Rattle.std.proofs.lemmas.Option.{slice_get_read}
use Rattle.book_model.specs.Devices.{DeviceState}
use Rattle.book_service.specs.declared.event.Event.{Event}
use Rattle.book_service.specs.declared.event.Event.TheVariants.{Do}
use Rattle.book_commands.specs.declared.reply.Reply.{Reply}
use Rattle.book_commands.specs.declared.reply.Reply.TheVariants as reply
use Rattle.book_service.specs.Crashes.{LeavesAsk}
use Rattle.book_service.specs.DeviceReplies.{HandlesReply}
use Rattle.book_service.specs.Mirrors.{report_at}
use Rattle.book_service.specs.Runs.{NamesDeviceBelow, StepsTo}
use Rattle.book_service.proofs.CrashLemmas.{ask_event_leaves, event_leaves}
use Rattle.book_service.proofs.EventLemmas.{ask_happens}
use Rattle.book_service.proofs.event.do_event.Goals as goal

pub returns-in-Do-clause-step : goal.returns-in-Do-clause-step
returns-in-Do-clause-step g c = λ premise now at device_at.
    let limits = g.S.BookStore.model.limits c.args.store.now in
    let old = g.S.BookStore.model.books c.args.store.now in
    let new = g.S.BookStore.model.books c.perform.new.store in
    let devices = c.args.devices.now.items in
    subst (λ (e : Event). StepsTo now e c.perform.result new devices) (sym c.in-Do.is)
    (subst (λ (ds : List DeviceState). StepsTo now (Do c.in-Do.command) c.perform.result new ds)
    device_at (c.perform.ensures.step premise now at))

pub returns-in-Ok-clause-step : goal.returns-in-Ok-clause-step
returns-in-Ok-clause-step g c = λ premise now at device_at.
    let devices = c.args.devices.now.items in
    let within = subst (NamesDeviceBelow (length devices)) c.in-Ask.is c.requires in
    let was = c.index_mut.result.now in
    subst (λ (e : Event). StepsTo now e (reply.Page c.in-Ok.page)
    (g.S.BookStore.model.books c.next_page.new.store) (slice_set devices c.in-Ask.device
    c.next_page.new.device)) (sym c.in-Ask.is)
    (ask_happens (g.S.BookStore.model.limits c.args.store.now)
    (g.S.BookStore.model.books c.args.store.now)
    (g.S.BookStore.model.books c.next_page.new.store) (reply.Page c.in-Ok.page) now at devices
    device_at c.in-Ask.device c.in-Ask.limit was c.next_page.new.device
    (slice_get_read devices (length devices) c.in-Ask.device was refl within
    c.index_mut.ensures.value)
    (c.in-Ok.ensures.handled premise now at) (c.next_page.ensures.reads_only premise))

pub returns-in-Err-clause-step : goal.returns-in-Err-clause-step
returns-in-Err-clause-step g c = λ premise now at device_at.
    let devices = c.args.devices.now.items in
    let within = subst (NamesDeviceBelow (length devices)) c.in-Ask.is c.requires in
    let was = c.index_mut.result.now in
    subst (λ (e : Event). StepsTo now e c.denied_reply.result
    (g.S.BookStore.model.books c.next_page.new.store) (slice_set devices c.in-Ask.device
    c.next_page.new.device)) (sym c.in-Ask.is)
    (ask_happens (g.S.BookStore.model.limits c.args.store.now)
    (g.S.BookStore.model.books c.args.store.now)
    (g.S.BookStore.model.books c.next_page.new.store) c.denied_reply.result now at devices
    device_at c.in-Ask.device c.in-Ask.limit was c.next_page.new.device
    (slice_get_read devices (length devices) c.in-Ask.device was refl within
    c.index_mut.ensures.value)
    (subst (λ (r : Reply). HandlesReply r (report_at now was.book was.token c.in-Ask.limit) was
    c.next_page.new.device) (sym c.denied_reply.ensures) (c.in-Err.ensures.handled premise now
    at))
    (c.next_page.ensures.reads_only premise))

pub returns-in-Do-clause-crash : goal.returns-in-Do-clause-crash
returns-in-Do-clause-crash g c = event_leaves g.S.BookStore.model c.args.store.now
    c.perform.new.store c.args.event.now c.in-Do.command c.perform.result c.args.devices.now.items
    c.in-Do.is c.perform.ensures.crash

pub returns-in-Ok-clause-crash : goal.returns-in-Ok-clause-crash
returns-in-Ok-clause-crash g c =
    let devices = c.args.devices.now.items in
    let was = c.index_mut.result.now in
    ask_event_leaves g.S.BookStore.model c.args.store.now c.next_page.new.store c.args.event.now
    (reply.Page c.in-Ok.page) was c.next_page.new.device devices
    (slice_set devices c.in-Ask.device c.next_page.new.device)
    (λ same. ap (slice_set devices c.in-Ask.device) (same ∙ c.index_mut.ensures.value)
    ∙ set-get_or devices c.in-Ask.device was) c.in-Ok.ensures.crash

pub returns-in-Err-clause-crash : goal.returns-in-Err-clause-crash
returns-in-Err-clause-crash g c =
    let devices = c.args.devices.now.items in
    let was = c.index_mut.result.now in
    ask_event_leaves g.S.BookStore.model c.args.store.now c.next_page.new.store c.args.event.now
    c.denied_reply.result was c.next_page.new.device devices (slice_set devices c.in-Ask.device
    c.next_page.new.device)
    (λ same. ap (slice_set devices c.in-Ask.device) (same ∙ c.index_mut.ensures.value)
    ∙ set-get_or devices c.in-Ask.device was)
    (subst (λ (r : Reply). LeavesAsk g.S.BookStore.model c.args.store.now c.next_page.new.store r
    was c.next_page.new.device) (sym c.denied_reply.ensures) c.in-Err.ensures.crash)
