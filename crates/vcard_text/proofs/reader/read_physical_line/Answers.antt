use Rattle.std.proofs.Common.{ap, sym, ◌∙◌, string_bytes}
use Rattle.std.proofs.lemmas.Result.{err_from_is_err_and}
use Rattle.vcard_lines.specs.Unfolding.{line_so_far, unfold_from}
use Rattle.vcard_text.specs.Scanning.{scan_from}
use Rattle.vcard_lines.proofs.UnfoldingLemmas.{goes_on, ends}
use Rattle.vcard_text.proofs.reader.read_physical_line.Goals as goal

pub returns-then-continues-clause-advances : goal.returns-then-continues-clause-advances
returns-then-continues-clause-advances c = λ pieces.
    ap (scan_from c.args.scan.now) (goes_on (line_so_far c.args.first.now
    (string_bytes c.args.joined.now)) c.args.piece.now pieces (sym c.if-continues.ensures)
    ∙ ap (λ l. unfold_from l pieces) (sym c.in_ok-join.ensures))

pub returns-in_err-scan_nonempty_line-clause-fails :
    goal.returns-in_err-scan_nonempty_line-clause-fails
returns-in_err-scan_nonempty_line-clause-fails c =
    let p = err_from_is_err_and c.from_residual-in_err-scan_nonempty_line.result
    c.from_residual-in_err-scan_nonempty_line.ensures.1 in
    rw (p.1, p.2) (λ n pieces.
    ap (scan_from c.args.scan.now) (ends (line_so_far c.args.first.now
    (string_bytes c.args.joined.now)) c.args.piece.now pieces (sym c.if-continues.ensures))
    ∙ rw c.line_so_far.ensures at (c.in_err-scan_nonempty_line.ensures.fails n
    (unfold_from c.args.piece.now pieces)))

pub returns-clause-advances : goal.returns-clause-advances
returns-clause-advances c = λ pieces.
    ap (scan_from c.args.scan.now) (ends (line_so_far c.args.first.now
    (string_bytes c.args.joined.now)) c.args.piece.now pieces (sym c.if-continues.ensures))
    ∙ rw c.line_so_far.ensures at (c.in_ok-scan_nonempty_line.ensures.advances
    (unfold_from c.args.piece.now pieces))
    ∙ ap (λ l. scan_from c.scan_nonempty_line.new.scan (unfold_from (line_so_far c.args.piece.now l)
    pieces)) (sym c.clear.ensures.bytes)
