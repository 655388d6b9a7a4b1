use Rattle.std.proofs.Common.{length, ap, arith, [], ◌∷◌}
use Rattle.std.proofs.lemmas.List.{length-append}
use Rattle.vcard_lines.specs.internal.FoldingLoop.{fold_line}
use Rattle.vcard_lines.proofs.FoldingLoopLemmas.{folded_is}
use Rattle.vcard_lines.proofs.folded_count.folded_len.Goals as goal

pub returns : goal.returns
returns c =
    let all = c.count_text.ensures [] c.empty_line_count-count.ensures in
    let whole = length-append (fold_line c.args.line.now).octets (13 ∷ 10 ∷ []) in
    omega (
      arith,
      c.saturating_add.ensures,
      all.counted.octets_are,
      whole,
      ap length (folded_is c.args.line.now),
    )
