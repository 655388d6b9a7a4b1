use Rattle.store_rows.proofs.StripLemmas.{then_strips}
use Rattle.store_rows.proofs.canonical.strip_end.Goals as goal

pub returns : goal.returns
returns c = then_strips c.args.text.now c.args.piece.now _ c.in-Some.after_piece.now
    c.strip-2.result c.in-Some.ensures c.strip-2.ensures
