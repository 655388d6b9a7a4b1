use Rattle.std.proofs.Common.{◌≡◌, ◌+◌, ◌∷◌, [], ◌++◌, map, drop, sym, ap, ◌∙◌}
use Rattle.std.proofs.lemmas.List.{drop_all}
use Rattle.import_text.specs.RawLines.{lines_from, raw_line, without_returns}
use Rattle.import_text.specs.internal.Heads.{head_of}
use Rattle.import_text.proofs.RawLineLemmas.{ends, texts, one_taken}
use Rattle.import_text.proofs.lines.read_raw_lines.Goals as goal

pub loop-place-init : goal.loop-place-init
loop-place-init c =
    let items : c.new-line.result.octets.items ≡ [] = c.new-line.ensures.octets
    ∙ c.new.ensures.items in (
      c.new-line.ensures.head ∙ ap head_of (sym c.new-line.ensures.octets),
      ap (λ ls. ls ++ lines_from c.args.folding (raw_line c.new-line.result.place
          c.new-line.result.octets.items) 0 (texts c.deref-piece-items.result.now))
          c.new-lines.ensures.items
          ∙ ap (λ l. lines_from c.args.folding (raw_line c.new-line.result.place l) 0
          (texts c.deref-piece-items.result.now)) items
          ∙ ap (λ p. lines_from c.args.folding (raw_line p []) 0
          (texts c.deref-piece-items.result.now)) c.new-line.ensures.place
          ∙ ap (λ ps. lines_from c.args.folding (raw_line 0 []) 0 (texts ps))
          c.deref-piece-items.ensures.value
          ∙ ap (λ ps. lines_from c.args.folding (raw_line 0 []) 0 (map without_returns ps))
          c.in_ok-pieces.ensures,
    )

pub read_piece-requires : goal.read_piece-requires
read_piece-requires c = c.loop-place.invariant.0

pub loop-place-preserved : goal.loop-place-preserved
loop-place-preserved c =
    let item = c.without_returns-piece.ensures in
    let pieces = c.deref-piece-items.result.now in
    let line = raw_line c.loop-place.line.place c.loop-place.line.octets.items in (
      c.in_ok-read_piece.ensures.head,
      c.in_ok-read_piece.ensures.lines (texts (drop (c.loop-place.place + 1) pieces))
          ∙ ap (λ p. c.loop-place.lines.items ++ lines_from c.args.folding line c.loop-place.place
          (p ∷ texts (drop (c.loop-place.place + 1) pieces))) item
          ∙ ap (λ ps. c.loop-place.lines.items ++ lines_from c.args.folding line c.loop-place.place
          ps) (one_taken pieces c.loop-place.place _ c.loop-place-test.true)
          ∙ c.loop-place.invariant.1,
    )

pub returns : goal.returns
returns c =
    let line = raw_line c.loop-place.line.place c.loop-place.line.octets.items in
    c.in_ok-push_nonempty.ensures
    ∙ ap (λ ls. c.loop-place.lines.items ++ ls) (ends c.args.folding line c.loop-place.place)
    ∙ ap (λ ps. c.loop-place.lines.items ++ lines_from c.args.folding line c.loop-place.place
    (texts ps)) (sym (drop_all c.loop-place.place c.deref-piece-items.result.now
    c.loop-place-test.false))
    ∙ c.loop-place.invariant.1
