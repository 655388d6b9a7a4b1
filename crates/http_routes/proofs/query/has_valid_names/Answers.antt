use Rattle.std.proofs.Common.{◌∙◌, sym}
use Rattle.http_routes.proofs.QueryLemmas.{names-asked, names-other, names-twice}
use Rattle.http_routes.proofs.query.has_valid_names.Goals as goal

pub returns-then-not-all_known : goal.returns-then-not-all_known
returns-then-not-all_known c =
    names-other c.args.action c.args.pairs.now c.names_of-names.result.now
    c.required_names-required.result.now c.names_of-names.ensures
    c.required_names-required.ensures (sym c.all_known.ensures ∙ c.if-not-all_known.true)

pub returns-then-not-none_repeated : goal.returns-then-not-none_repeated
returns-then-not-none_repeated c =
    names-twice c.args.action c.args.pairs.now c.names_of-names.result.now
    c.required_names-required.result.now c.names_of-names.ensures
    c.required_names-required.ensures (sym c.all_known.ensures ∙ c.if-not-all_known.false)
    (sym c.none_repeated.ensures ∙ c.if-not-none_repeated.true)

pub returns : goal.returns
returns c =
    c.each_once.ensures
    ∙ names-asked c.args.action c.args.pairs.now c.names_of-names.result.now
    c.required_names-required.result.now c.names_of-names.ensures
    c.required_names-required.ensures (sym c.all_known.ensures ∙ c.if-not-all_known.false)
    (sym c.none_repeated.ensures ∙ c.if-not-none_repeated.false)
