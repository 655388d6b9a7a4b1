use Rattle.std.proofs.lemmas.Iterator.Consumers.{YieldsList-from_first, map_from_collect}
use Rattle.form_urlencoded.specs.Form.{pair_text, raw_pairs}
use Rattle.form_urlencoded.specs.Parse.{raw_pairs_left}
use Rattle.http_routes.proofs.query.raw_pairs_of.Goals as goal

pub returns : goal.returns
returns c = map_from_collect _ c.collect.ensures.ran (YieldsList-from_first pair_text raw_pairs_left
    (raw_pairs c.args.query.now) c.raw_pairs.ensures.value)
