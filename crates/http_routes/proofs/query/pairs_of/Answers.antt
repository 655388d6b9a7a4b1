use Rattle.std.proofs.Common.{◌≡◌, ◌∙◌, ap, arith, map, take}
use Rattle.std.proofs.lemmas.List.{take_all}
use Rattle.form_urlencoded.specs.Form.{pair_text}
use Rattle.http_routes.proofs.QueryLemmas.{pairs-are, texts_of}
use Rattle.http_routes.proofs.query.pairs_of.Goals as goal

pub returns : goal.returns
returns c =
    let items = c.deref-pair-items.result.now in
    let all : take c.loop-pair.pair-index items ≡ items =
    take_all c.loop-pair.pair-index items (omega arith) in
    c.loop-pair.invariant
    ∙ ap (map texts_of) all
    ∙ pairs-are items c.args.query.now (ap (map pair_text) c.deref-pair-items.ensures.value
    ∙ c.in_ok-raw.ensures)
