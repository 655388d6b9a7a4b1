use Rattle.std.proofs.Common.{ap, sym, ◌∙◌, length, subst, ◌<◌, ◌≤◌}
use Rattle.import_text.proofs.InsideLemmas.{count_of, place_within}
use Rattle.import_text.proofs.pieces.step_in.Goals as goal

pub returns-in-Some-clause-within : goal.returns-in-Some-clause-within
returns-in-Some-clause-within c = λ count e.
    let same = ap count_of e in
    let within = place_within c.args.octets.now c.in-Some.count
    (sym c.begin_inside.ensures ∙ c.in-Some.is) in
    subst (λ n. n ≤ length c.args.octets.now) same within.1

pub returns-in-Some-clause-nonempty : goal.returns-in-Some-clause-nonempty
returns-in-Some-clause-nonempty c = λ begun count e.
    let same = ap count_of e in
    let within = place_within c.args.octets.now c.in-Some.count
    (sym c.begin_inside.ensures ∙ c.in-Some.is) in
    subst (λ n. 0 < n) same within.0
