use Rattle.std.proofs.Common.{eq-eqb, eqb-true}
use Rattle.std.proofs.lemmas.Slice.Eq.{strip_prefix_is}
use Rattle.store_rows.proofs.canonical.strip.Goals as goal

pub returns : goal.returns
returns c = strip_prefix_is (λ a b. (eqb-true a b, eq-eqb a b)) c.args.text.now c.args.part.now
    c.strip_prefix.result c.strip_prefix.ensures.cases
