use Rattle.std.proofs.Common.{rules, ◌≡◌, Option, Some, None, sym, ap, ◌∙◌}
use Rattle.std.specs.FinMap as finite
use Rattle.base_types.proofs.TextMapLemmas.{get-texts, texts-insert}
use Rattle.base_types.proofs.text_map.TextMap.replace.Goals as goal

pub returns-in_err-there-clause-value : goal.returns-in_err-there-clause-value
returns-in_err-there-clause-value g c =
    let none : ◌≡◌ {A = Option g.row.V.Denot} c.from_residual.result None = search rules in
    none ∙ c.in_err-there.ensures.value ∙ sym (get-texts c.self.inside.inner c.args.key.now)
    ∙ ap (λ m. finite.get m c.args.key.now) c.self.view_is

pub returns-clause-value : goal.returns-clause-value
returns-clause-value g c =
    ap Some c.replace.ensures.value ∙ c.in_ok-there.ensures.value
    ∙ sym (get-texts c.self.inside.inner c.args.key.now)
    ∙ ap (λ m. finite.get m c.args.key.now) c.self.view_is

pub returns-clause-written : goal.returns-clause-written
returns-clause-written g c =
    let there = c.replace.new.dest in
    texts-insert c.args.key.now c.self.inside.inner (c.get_mut.follows.lender there) there
    ((c.get_mut.follows.holds there).3 (search rules))
    ∙ ap (λ m. finite.insert m c.args.key.now there) c.self.view_is
    ∙ ap (finite.insert c.args.self.now c.args.key.now) c.replace.ensures.after
