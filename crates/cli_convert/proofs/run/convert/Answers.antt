use Rattle.std.proofs.lemmas.Result.{IfOk-weaker}
use Rattle.cli_convert.proofs.DoesLemmas.{does_known, opened_known}
use Rattle.cli_convert.proofs.run.convert.Goals as goal

pub returns : goal.returns
returns g c = IfOk-weaker c.convert_text.result _ _
    (λ summary does. does_known _ _ _ _ _ _ _ _ summary (opened_known _ _ _ _ _ _ _
    c.as_slice.ensures.value c.in_ok-encoding.ensures c.in_ok-front.ensures
    c.in_ok-text.ensures) does) c.convert_text.ensures
