use Rattle.std.proofs.Common.{◌≡◌, ◌∙◌, false, codes, eqb, sym}
use Rattle.std.specs.List.{ends_with}
use Rattle.std.proofs.lemmas.Str.Pattern.{ends_text}
use Rattle.cli_orders.proofs.finding.names_card.Goals as goal

pub returns-else-ends_with : goal.returns-else-ends_with
returns-else-ends_with c =
    let first : ends_with eqb c.args.name.now (codes ".vcf") ≡ false =
    sym (ends_text c.ends_with.result (codes ".vcf") c.args.name.now c.ends_with.ensures.cases)
    ∙ c.if-ends_with.false in
    rw first (ends_text c.ends_with-else-ends_with.result (codes ".VCF") c.args.name.now
    c.ends_with-else-ends_with.ensures.cases)
