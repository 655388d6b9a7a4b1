use Rattle.std.proofs.Common.{◌≡◌, IfOk, string_bytes, subst}
use Rattle.cli_orders.specs.Sentences.{row_words}
use Rattle.cli_orders.proofs.sentences.numbered_text.Goals as goal

pub returns : goal.returns
returns c = subst (λ cause. IfOk c.cause_text.result (λ text. string_bytes text ≡ row_words cause))
    c.cause_numbered.ensures c.cause_text.ensures
