use Rattle.std.proofs.Common.{string_bytes, sym, ap, ◌∙◌}
use Rattle.std.specs.FinMap as finite
use Rattle.base_types.proofs.TextMapLemmas.{on_err_from, get-texts, texts-insert}
use Rattle.base_types.proofs.text_map.TextMap.insert.Goals as goal

pub returns-clause-ok : goal.returns-clause-ok
returns-clause-ok g c =
    texts-insert (string_bytes c.args.key) c.self.inside.inner c.insert.new.self c.args.value
    c.in_ok-insert.ensures.updates
    ∙ ap (λ m. finite.insert m (string_bytes c.args.key) c.args.value) c.self.view_is

pub returns-in_err-insert-clause-absent : goal.returns-in_err-insert-clause-absent
returns-in_err-insert-clause-absent g c = on_err_from c.from_residual.result
    (sym (ap (λ m. finite.get m (string_bytes c.args.key)) c.self.view_is)
    ∙ get-texts c.self.inside.inner (string_bytes c.args.key) ∙ c.in_err-insert.ensures.absent)
