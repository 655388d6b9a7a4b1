use Rattle.std.proofs.Common.{◌∙◌, ap}
use Rattle.std.proofs.lemmas.Result.{IfOk-weaker}
use Rattle.http_replies.specs.Replies.{json_octets}
use Rattle.serde_json.specs.Written.{has_float}
use Rattle.convert_posts.proofs.FloatLemmas.{part_has_no_float}
use Rattle.convert_posts.proofs.answering.part_reply.Goals as goal

pub returns : goal.returns
returns c =
    IfOk-weaker c.json_bytes.result _ _
    (λ reply is. is ∙ ap (λ value. json_octets 200 value c.args.close) c.in_ok-value.ensures)
    (c.json_bytes.ensures (ap has_float c.in_ok-value.ensures ∙ part_has_no_float c.args.part.now))
