use Rattle.std.proofs.Common.{◌∙◌, ℕ, List, None, ap, codes}
use Rattle.std.proofs.lemmas.Result.{IfOk-weaker}
use Rattle.http_replies.specs.Messages.{Message, message_octets}
use Rattle.http_replies.proofs.replies.json_bytes.Goals as goal

abbrev json_message : ℕ → List ℕ → Message
json_message status body = record {
  status = status;
  media_type = codes "application/json";
  more = None;
  body = body;
}

pub returns : goal.returns
returns c sound =
    IfOk-weaker c.message_octets.result _ _
    (λ octets is. is ∙ ap (λ body. message_octets (json_message c.args.status body) c.args.close)
    (c.in_ok-to_vec.ensures.text sound))
    c.message_octets.ensures
