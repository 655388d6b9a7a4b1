use Rattle.std.proofs.Common.{◌∙◌, List, ℕ, [], ◌∷◌, ◌++◌, ap, codes}
use Rattle.std.proofs.lemmas.List.{append_assoc}
use Rattle.request_log.specs.LogLines.{request_words}
use Rattle.request_log.proofs.lines.write_lost.Goals as goal

pub returns : goal.returns
returns c =
    let ending : List ℕ = codes " fault no-memory" ++ 10 ∷ [] in
    c.in_ok-extend_from_slice.ensures.items
    ∙ ap (λ (t : List ℕ). t ++ ending) c.in_ok-write_request.ensures
    ∙ append_assoc c.args.out.now.items (request_words c.args.head.now.method
    c.args.head.now.target) ending
