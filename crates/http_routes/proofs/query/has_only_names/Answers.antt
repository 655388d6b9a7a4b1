use Rattle.std.proofs.Common.{◌∙◌, ◌&&◌, ap, sym}
use Rattle.http_routes.proofs.QueryLemmas.{at_most_once, only-is}
use Rattle.http_routes.proofs.query.has_only_names.Goals as goal

pub returns-then-all_known : goal.returns-then-all_known
returns-then-all_known c =
    c.none_repeated.ensures
    ∙ sym (only-is c.args.names.now c.args.pairs.now
    ∙ ap (λ v. v && at_most_once c.args.names.now c.args.pairs.now) (sym c.all_known.ensures
    ∙ c.if-all_known.true))

pub returns-else-all_known : goal.returns-else-all_known
returns-else-all_known c =
    c.if-all_known.false
    ∙ sym (only-is c.args.names.now c.args.pairs.now
    ∙ ap (λ v. v && at_most_once c.args.names.now c.args.pairs.now) (sym c.all_known.ensures
    ∙ c.if-all_known.false))
