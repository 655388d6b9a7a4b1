use Rattle.std.proofs.Common.{◌≡◌, ◌∙◌, length, take, IfSome, ap, sym, subst, rules}
use Rattle.std.proofs.lemmas.List.{take_at}
use Rattle.cli_orders.proofs.OctetLemmas.{prefix_read}
use Rattle.cli_orders.proofs.reading.read_at_most.Goals as goal

pub returns-clause-read : goal.returns-clause-read
returns-clause-read g c =
    let full : length c.fill.new.room ≡ c.resize.new.self.len = search (rules) in
    let all : length c.fill.new.room ≡ c.args.most = search (rules) in
    let items : c.truncate.new.self.items ≡ take c.in_ok-count.count c.fill.new.room =
    c.truncate.ensures.items ∙ ap (take c.in_ok-count.count)
    (take_at c.fill.new.room _ c.resize.new.self.len full) in
    subst (λ xs. IfSome (g.R.Read.remaining c.args.reader.now) (λ input. xs
    ≡ take c.args.most input)) (sym items)
    (prefix_read _ _ c.in_ok-count.count c.args.most c.fill.new.room all c.in_ok-count.ensures.count
    c.in_ok-count.ensures.read c.in_ok-count.ensures.end)
