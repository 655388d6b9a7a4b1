use Rattle.std.proofs.Common.{IfOk, subst}
use Rattle.std.proofs.lemmas.Result.{IfOk-weaker}
use Rattle.convert_posts.specs.ConvertReplies.{part, unconverted}
use Rattle.convert_posts.specs.Parts.{IsPart}
use Rattle.convert_posts.proofs.answering.conversion_reply.Goals as goal

pub returns-in-Ok : goal.returns-in-Ok
returns-in-Ok c =
    IfOk-weaker c.part_reply.result _ _
    (λ reply is. part c.in-Ok.part
    (subst (λ done. IfOk done (IsPart c.args.body.now)) c.in-Ok.is c.in_ok-part.ensures) is)
    c.part_reply.ensures

pub returns-in-Err : goal.returns-in-Err
returns-in-Err c =
    IfOk-weaker c.unconverted_reply.result _ _
    (λ reply is. unconverted c.in-Err.fault is) c.unconverted_reply.ensures
