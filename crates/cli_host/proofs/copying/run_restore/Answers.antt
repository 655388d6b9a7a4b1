use Rattle.std.proofs.Common.{◌∙◌, rules, Ok, Err, OnOk, subst}
use Rattle.std.proofs.lemmas.Result.{err_from_is_err_and}
use Rattle.std.specs.Io.KnownBytes.{Appends}
use Rattle.book_http.specs.Streams.{WritesPrefix}
use Rattle.cli_host.specs.Hosts.{Restores}
use Rattle.cli_host.proofs.CallLemmas.{file_restored, file_restored_unprinted, file_unrestored}
use Rattle.cli_host.proofs.CallLemmas.{restore_without_text}
use Rattle.cli_host.proofs.copying.run_restore.Goals as goal

pub returns-in_err-restored-clause-stopped : goal.returns-in_err-restored-clause-stopped
returns-in_err-restored-clause-stopped g c =
    let made : g.M.Host.calls (Restores c.args.backup c.args.file c.args.pairs
    (Err c.in_err-restored.field-0.0)) c.args.host.now c.restore_file.new.self =
    search (rules) in
    let p = err_from_is_err_and c.from_residual.result c.from_residual.ensures.1 in
    rw (p.1, p.2)
    (file_unrestored g.M.Host.calls c.args.host.now c.restore_file.new.self c.args.backup
    c.args.file c.args.pairs c.in_err-restored.field-0.0 (g.W.Write.contents c.args.writer.now)
    made)

pub returns-in_err-text-clause-stopped : goal.returns-in_err-text-clause-stopped
returns-in_err-text-clause-stopped g c =
    let made : g.M.Host.calls (Restores c.args.backup c.args.file c.args.pairs
    (Ok c.in_ok-restored.restored)) c.args.host.now c.restore_file.new.self = search (rules) in
    let p = err_from_is_err_and c.from_residual-in_err-text.result
    c.from_residual-in_err-text.ensures.1 in
    rw (p.1, p.2)
    (restore_without_text g.M.Host.calls c.args.host.now c.restore_file.new.self c.args.backup
    c.args.file c.args.pairs c.in_ok-restored.restored (g.W.Write.contents c.args.writer.now)
    made)

pub returns-clause-done : goal.returns-clause-done
returns-clause-done g c =
    let made : g.M.Host.calls (Restores c.args.backup c.args.file c.args.pairs
    (Ok c.in_ok-restored.restored)) c.args.host.now c.restore_file.new.self = search (rules) in
    file_restored g.M.Host.calls c.write_out.result c.args.host.now c.restore_file.new.self
    c.args.backup c.args.file c.args.pairs c.in_ok-restored.restored
    (g.W.Write.contents c.args.writer.now) (g.W.Write.contents c.write_out.new.writer) made
    (subst (λ octets. OnOk c.write_out.result (Appends (g.W.Write.contents c.args.writer.now)
    (g.W.Write.contents c.write_out.new.writer) octets)) (c.as_slice.ensures.value
    ∙ (rw c.as_str-3.ensures at c.in_ok-text.ensures)) c.write_out.ensures.written)

pub returns-clause-stopped : goal.returns-clause-stopped
returns-clause-stopped g c =
    let made : g.M.Host.calls (Restores c.args.backup c.args.file c.args.pairs
    (Ok c.in_ok-restored.restored)) c.args.host.now c.restore_file.new.self = search (rules) in
    file_restored_unprinted g.M.Host.calls c.write_out.result c.args.host.now
    c.restore_file.new.self c.args.backup c.args.file c.args.pairs c.in_ok-restored.restored
    (g.W.Write.contents c.args.writer.now) (g.W.Write.contents c.write_out.new.writer) made
    (subst (λ octets. WritesPrefix octets (g.W.Write.contents c.args.writer.now)
    (g.W.Write.contents c.write_out.new.writer)) (c.as_slice.ensures.value
    ∙ (rw c.as_str-3.ensures at c.in_ok-text.ensures)) c.write_out.ensures.prefix)
    c.write_out.ensures.stop
