use Rattle.std.proofs.Common.{◌∙◌, rules, Ok, Err, OnOk, subst}
use Rattle.std.proofs.lemmas.Result.{err_from_is_err_and}
use Rattle.std.specs.Io.KnownBytes.{Appends}
use Rattle.book_http.specs.Streams.{WritesPrefix}
use Rattle.cli_host.specs.Hosts.{Migrates}
use Rattle.cli_host.proofs.CallLemmas.{file_migrated, file_migrated_unprinted, file_unmigrated}
use Rattle.cli_host.proofs.CallLemmas.{migration_without_text}
use Rattle.cli_host.proofs.running.run_migrate.Goals as goal

pub returns-in_err-books-clause-stopped : goal.returns-in_err-books-clause-stopped
returns-in_err-books-clause-stopped g c =
    let made : g.M.Host.calls (Migrates c.args.file (Err c.in_err-books.field-0.0)) c.args.host.now
    c.migrate_file.new.self = search (rules) in
    let p = err_from_is_err_and c.from_residual.result c.from_residual.ensures.1 in
    rw (p.1, p.2)
    (file_unmigrated g.M.Host.calls c.args.host.now c.migrate_file.new.self c.args.file
    c.in_err-books.field-0.0 (g.W.Write.contents c.args.writer.now) made)

pub returns-in_err-text-clause-stopped : goal.returns-in_err-text-clause-stopped
returns-in_err-text-clause-stopped g c =
    let made : g.M.Host.calls (Migrates c.args.file (Ok c.in_ok-books.books)) c.args.host.now
    c.migrate_file.new.self = search (rules) in
    let p = err_from_is_err_and c.from_residual-in_err-text.result
    c.from_residual-in_err-text.ensures.1 in
    rw (p.1, p.2)
    (migration_without_text g.M.Host.calls c.args.host.now c.migrate_file.new.self c.args.file
    c.in_ok-books.books (g.W.Write.contents c.args.writer.now) made)

pub returns-clause-done : goal.returns-clause-done
returns-clause-done g c =
    let made : g.M.Host.calls (Migrates c.args.file (Ok c.in_ok-books.books)) c.args.host.now
    c.migrate_file.new.self = search (rules) in
    file_migrated g.M.Host.calls c.write_out.result c.args.host.now c.migrate_file.new.self
    c.args.file c.in_ok-books.books (g.W.Write.contents c.args.writer.now)
    (g.W.Write.contents c.write_out.new.writer) made
    (subst (λ octets. OnOk c.write_out.result (Appends (g.W.Write.contents c.args.writer.now)
    (g.W.Write.contents c.write_out.new.writer) octets)) (c.as_slice.ensures.value
    ∙ c.in_ok-text.ensures) c.write_out.ensures.written)

pub returns-clause-stopped : goal.returns-clause-stopped
returns-clause-stopped g c =
    let made : g.M.Host.calls (Migrates c.args.file (Ok c.in_ok-books.books)) c.args.host.now
    c.migrate_file.new.self = search (rules) in
    file_migrated_unprinted g.M.Host.calls c.write_out.result c.args.host.now
    c.migrate_file.new.self c.args.file c.in_ok-books.books
    (g.W.Write.contents c.args.writer.now) (g.W.Write.contents c.write_out.new.writer) made
    (subst (λ octets. WritesPrefix octets (g.W.Write.contents c.args.writer.now)
    (g.W.Write.contents c.write_out.new.writer)) (c.as_slice.ensures.value
    ∙ c.in_ok-text.ensures) c.write_out.ensures.prefix)
    c.write_out.ensures.stop
