use Rattle.std.proofs.Common.{◌∙◌, OnOk, subst}
use Rattle.std.proofs.lemmas.Result.{err_from_is_err_and}
use Rattle.std.specs.Io.KnownBytes.{Appends}
use Rattle.book_http.specs.Streams.{WritesPrefix}
use Rattle.cli_orders.proofs.CommandLemmas.{mirror_cut_off, mirror_denied, mirror_printed}
use Rattle.cli_orders.proofs.CommandLemmas.{mirror_without_text}
use Rattle.cli_orders.proofs.commands.run_mirror.Goals as goal

pub returns-in_err-mirrored-clause-stopped : goal.returns-in_err-mirrored-clause-stopped
returns-in_err-mirrored-clause-stopped g c =
    let p = err_from_is_err_and c.from_residual.result c.from_residual.ensures.1 in
    rw (p.1, p.2)
    (mirror_denied g.S.BookStore.model c.args.store.now c.mirror.new.store c.args.book.now
    c.args.limit c.args.pages (g.W.Write.contents c.args.writer.now) c.in_err-mirrored.field-0.0
    c.mirror.ensures.reads_only c.in_err-mirrored.ensures.fault
    c.in_err-mirrored.ensures.denied)

pub returns-in_err-text-clause-stopped : goal.returns-in_err-text-clause-stopped
returns-in_err-text-clause-stopped g c =
    let p = err_from_is_err_and c.from_residual-in_err-text.result
    c.from_residual-in_err-text.ensures.1 in
    rw (p.1, p.2)
    (mirror_without_text g.S.BookStore.model c.args.store.now c.mirror.new.store c.args.book.now
    c.args.limit c.args.pages (g.W.Write.contents c.args.writer.now)
    c.mirror.ensures.reads_only)

pub returns-clause-printed : goal.returns-clause-printed
returns-clause-printed g c =
    mirror_printed g.S.BookStore.model c.write_out.result c.args.store.now c.mirror.new.store
    c.args.book.now c.args.limit c.args.pages (g.W.Write.contents c.args.writer.now)
    (g.W.Write.contents c.write_out.new.writer) c.in_ok-mirrored.mirrored
    c.in_ok-mirrored.ensures.mirrors c.in_ok-mirrored.ensures.pages c.mirror.ensures.reads_only
    (subst (λ octets. OnOk c.write_out.result (Appends (g.W.Write.contents c.args.writer.now)
    (g.W.Write.contents c.write_out.new.writer) octets)) (c.as_slice.ensures.value
    ∙ c.in_ok-text.ensures) c.write_out.ensures.written)

pub returns-clause-stopped : goal.returns-clause-stopped
returns-clause-stopped g c =
    mirror_cut_off g.S.BookStore.model c.write_out.result c.args.store.now c.mirror.new.store
    c.args.book.now c.args.limit c.args.pages (g.W.Write.contents c.args.writer.now)
    (g.W.Write.contents c.write_out.new.writer) c.in_ok-mirrored.mirrored
    c.in_ok-mirrored.ensures.mirrors c.in_ok-mirrored.ensures.pages c.mirror.ensures.reads_only
    (subst (λ octets. WritesPrefix octets (g.W.Write.contents c.args.writer.now)
    (g.W.Write.contents c.write_out.new.writer)) (c.as_slice.ensures.value
    ∙ c.in_ok-text.ensures) c.write_out.ensures.prefix)
    c.write_out.ensures.stop
