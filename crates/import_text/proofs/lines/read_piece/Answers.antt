use Rattle.std.proofs.Common.{◌≡◌, ◌+◌, ◌++◌, append_assoc, sym, ap, ◌∙◌}
use Rattle.import_text.specs.RawLines.{joined, nonempty, raw_line, lines_from}
use Rattle.import_text.proofs.RawLineLemmas.{goes_on, begins}
use Rattle.import_text.proofs.lines.read_piece.Goals as goal

pub returns-then-branch-clause-lines : goal.returns-then-branch-clause-lines
returns-then-branch-clause-lines c = λ pieces.
    let line : c.join.new.self.octets.items ≡ joined c.args.folding c.args.line.now.octets.items
    c.args.piece.now = rw c.if-branch.true at c.in_ok-join.ensures.octets in
    ap (λ l. c.args.lines.now.items ++ lines_from c.args.folding (raw_line c.join.new.self.place l)
    (c.args.place + 1) pieces) line
    ∙ ap (λ p. c.args.lines.now.items ++ lines_from c.args.folding
    (raw_line p (joined c.args.folding c.args.line.now.octets.items c.args.piece.now))
    (c.args.place + 1) pieces) c.in_ok-join.ensures.place
    ∙ ap (λ ls. c.args.lines.now.items ++ ls) (goes_on c.args.folding c.args.line.now.place
    c.args.line.now.octets.items c.args.place c.args.piece.now pieces
    (sym c.in_ok-join.ensures.test ∙ c.if-branch.true))

pub returns-clause-lines : goal.returns-clause-lines
returns-clause-lines c = λ pieces.
    let kept : c.join.new.self.octets.items ≡ c.args.line.now.octets.items =
    rw c.if-branch.false at c.in_ok-join.ensures.octets in
    let ended : c.replace-ended.result.octets.items ≡ c.args.line.now.octets.items =
    ap (λ l. l.octets.items) c.replace-ended.ensures.value ∙ kept in
    let ended_place : c.replace-ended.result.place ≡ c.args.line.now.place =
    ap (λ l. l.place) c.replace-ended.ensures.value ∙ c.in_ok-join.ensures.place in
    let next : c.replace-ended.new.dest.octets.items ≡ c.args.piece.now =
    ap (λ l. l.octets.items) c.replace-ended.ensures.after ∙ c.new.ensures.octets
    ∙ c.in_ok-octets.ensures.items in
    let next_place : c.replace-ended.new.dest.place ≡ c.args.place =
    ap (λ l. l.place) c.replace-ended.ensures.after ∙ c.new.ensures.place in
    let more = lines_from c.args.folding (raw_line c.replace-ended.new.dest.place
    c.replace-ended.new.dest.octets.items) (c.args.place + 1) pieces in
    ap (λ ls. ls ++ more) c.in_ok-push_nonempty.ensures
    ∙ append_assoc c.args.lines.now.items
    (nonempty (raw_line c.replace-ended.result.place c.replace-ended.result.octets.items)) more
    ∙ ap (λ l. c.args.lines.now.items ++ (nonempty (raw_line c.replace-ended.result.place l)
    ++ more)) ended
    ∙ ap (λ p. c.args.lines.now.items ++ (nonempty (raw_line p c.args.line.now.octets.items)
    ++ more)) ended_place
    ∙ ap (λ l. c.args.lines.now.items
    ++ (nonempty (raw_line c.args.line.now.place c.args.line.now.octets.items)
    ++ lines_from c.args.folding (raw_line c.replace-ended.new.dest.place l) (c.args.place + 1)
    pieces)) next
    ∙ ap (λ p. c.args.lines.now.items
    ++ (nonempty (raw_line c.args.line.now.place c.args.line.now.octets.items)
    ++ lines_from c.args.folding (raw_line p c.args.piece.now) (c.args.place + 1) pieces))
    next_place
    ∙ ap (λ ls. c.args.lines.now.items ++ ls) (begins c.args.folding c.args.line.now.place
    c.args.line.now.octets.items c.args.place c.args.piece.now pieces
    (sym c.in_ok-join.ensures.test ∙ c.if-branch.false))
