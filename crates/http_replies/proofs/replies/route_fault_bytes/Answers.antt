use Rattle.std.proofs.Common.{◌≡◌, ◌∙◌, ℕ, Bool, List, Option, codes, refl}
use Rattle.std.proofs.lemmas.Result.{IfOk-weaker}
use Rattle.http_replies.specs.Messages.{Message, message_octets}
use Rattle.http_replies.proofs.replies.route_fault_bytes.Goals as goal

abbrev json_message : ℕ → Option (List ℕ × List ℕ) → List ℕ → Message
json_message status more body = record {
  status = status;
  media_type = codes "application/json";
  more = more;
  body = body;
}

same : (s t : ℕ) (a b : Option (List ℕ × List ℕ)) (x y : List ℕ) (close : Bool) → s ≡ t → a ≡ b
    → x ≡ y → message_octets (json_message s a x) close ≡ message_octets (json_message t b y) close
same s t a b x y close statuses fields bodies = rw (statuses, fields, bodies) refl

pub returns : goal.returns
returns c =
    let body = rw (c.text.ensures, c.number.ensures) at c.in_ok-body.ensures in
    IfOk-weaker c.message_octets.result _ _
    (λ octets is. is ∙ same _ _ _ _ _ _ c.args.close (c.in-Ok.ensures.1 ∙ c.status.ensures)
    c.allow_field.ensures body)
    c.message_octets.ensures
