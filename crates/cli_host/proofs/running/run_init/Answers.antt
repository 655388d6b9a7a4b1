use Rattle.std.proofs.Common.{◌∙◌, rules, Ok, Err, OnOk, subst}
use Rattle.std.proofs.lemmas.Result.{err_from_is_err_and}
use Rattle.std.specs.Io.KnownBytes.{Appends}
use Rattle.book_http.specs.Streams.{WritesPrefix}
use Rattle.cli_host.specs.Hosts.{Creates}
use Rattle.cli_host.proofs.CallLemmas.{store_made, store_made_unprinted, store_uncreated}
use Rattle.cli_host.proofs.running.run_init.Goals as goal

pub returns-in_err-books-clause-stopped : goal.returns-in_err-books-clause-stopped
returns-in_err-books-clause-stopped g c =
    let made : g.M.Host.calls (Creates c.args.file (Err c.in_err-books.field-0.0)) c.args.host.now
    c.create.new.self = search (rules) in
    let p = err_from_is_err_and c.from_residual.result c.from_residual.ensures.1 in
    rw (p.1, p.2)
    (store_uncreated g.M.Host.calls c.args.host.now c.create.new.self c.args.file
    c.in_err-books.field-0.0 (g.W.Write.contents c.args.writer.now) made)

pub returns-clause-done : goal.returns-clause-done
returns-clause-done g c =
    let made : g.M.Host.calls (Creates c.args.file (Ok c.in_ok-books.books)) c.args.host.now
    c.create.new.self = search (rules) in
    store_made g.M.Host.calls c.write_out.result c.args.host.now c.create.new.self
    c.close.new.self c.args.file c.in_ok-books.books (g.W.Write.contents c.args.writer.now)
    (g.W.Write.contents c.write_out.new.writer) made c.close.ensures
    (subst (λ octets. OnOk c.write_out.result (Appends (g.W.Write.contents c.args.writer.now)
    (g.W.Write.contents c.write_out.new.writer) octets)) (c.as_bytes.ensures.value
    ∙ c.created_line.ensures) c.write_out.ensures.written)

pub returns-clause-stopped : goal.returns-clause-stopped
returns-clause-stopped g c =
    let made : g.M.Host.calls (Creates c.args.file (Ok c.in_ok-books.books)) c.args.host.now
    c.create.new.self = search (rules) in
    store_made_unprinted g.M.Host.calls c.write_out.result c.args.host.now c.create.new.self
    c.close.new.self c.args.file c.in_ok-books.books (g.W.Write.contents c.args.writer.now)
    (g.W.Write.contents c.write_out.new.writer) made c.close.ensures
    (subst (λ octets. WritesPrefix octets (g.W.Write.contents c.args.writer.now)
    (g.W.Write.contents c.write_out.new.writer)) (c.as_bytes.ensures.value
    ∙ c.created_line.ensures) c.write_out.ensures.prefix)
    c.write_out.ensures.stop
