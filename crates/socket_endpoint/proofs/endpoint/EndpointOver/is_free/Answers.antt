use Rattle.std.proofs.Common.{◌∙◌, ◌<◌, None, ap, arith, inl, inr, is_some, length, not, sym}
use Rattle.std.proofs.lemmas.List.{get_or_read}
use Rattle.socket_endpoint.proofs.endpoint.EndpointOver.is_free.Goals as goal

pub returns-then-place-len-clause-taken : goal.returns-then-place-len-clause-taken
returns-then-place-len-clause-taken g c = λ taken. inr (omega arith)

pub returns-clause-free : goal.returns-clause-free
returns-clause-free g c = λ is.
    let there : c.args.place < length c.args.self.now.places.items = omega arith in
    let found = get_or_read c.args.self.now.places.items c.args.place c.index.result.now there
    c.index.ensures None in
    (there, ap is_some (sym found) ∙ c.is_none.ensures ∙ ap not is)

pub returns-clause-taken : goal.returns-clause-taken
returns-clause-taken g c = λ is.
    let there : c.args.place < length c.args.self.now.places.items = omega arith in
    let found = get_or_read c.args.self.now.places.items c.args.place c.index.result.now there
    c.index.ensures None in
    inl (ap is_some (sym found) ∙ c.is_none.ensures ∙ ap not is)
