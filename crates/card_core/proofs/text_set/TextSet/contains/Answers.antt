use Rattle.std.proofs.Common.{ℕ, List, ◌↔◌, IsTrue, sym, subst, ◌∙◌}
use Rattle.std.specs.List.{Contains}
use Rattle.card_core.proofs.TextSetLemmas.{has_text, text_had}
use Rattle.card_core.proofs.text_set.TextSet.contains.Goals as goal

pub returns : goal.returns
returns c =
    subst (λ (texts : List (List ℕ)). IsTrue c.contains.result ↔ Contains texts c.args.text.now)
    c.self.view_is (
      λ e. has_text c.self.inside.inner c.args.text.now (sym c.contains.ensures ∙ e),
      λ had. c.contains.ensures ∙ text_had c.self.inside.inner c.args.text.now had,
    )
