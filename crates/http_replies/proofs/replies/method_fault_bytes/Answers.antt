use Rattle.std.proofs.Common.{◌∙◌, ℕ, List, Some, ap, codes}
use Rattle.std.proofs.lemmas.Result.{IfOk-weaker}
use Rattle.http_replies.specs.Messages.{Message, message_octets}
use Rattle.http_replies.proofs.replies.method_fault_bytes.Goals as goal

abbrev json_message : List ℕ → List ℕ → Message
json_message methods body = record {
  status = 405;
  media_type = codes "application/json";
  more = Some (codes "Allow", methods);
  body = body;
}

pub returns : goal.returns
returns c =
    IfOk-weaker c.message_octets.result _ _
    (λ octets is. is ∙ ap (λ body. message_octets (json_message c.args.methods.now body)
    c.args.close) c.in_ok-fault_json.ensures)
    c.message_octets.ensures
