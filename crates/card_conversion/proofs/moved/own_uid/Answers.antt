use Rattle.std.proofs.Common.{◌∙◌}
use Rattle.std.proofs.lemmas.Result.{IfOk-weaker}
use Rattle.card_conversion.proofs.MovedLemmas.{is_own}
use Rattle.card_conversion.proofs.moved.own_uid.Goals as goal

pub returns : goal.returns
returns c =
    IfOk-weaker c.derived_uid.result _ _ (λ uid is. is
    ∙ is_own c.args.octets.now c.args.made.now c.as_slice.result.now (c.as_slice.ensures.value
    ∙ c.in_ok-text.ensures)) c.derived_uid.ensures
