use Rattle.std.proofs.Common.{◌≡◌, ◌∙◌, ℕ, List, [], Option, Some, None, Bor, ap, refl, option_map}
use Rattle.std.proofs.Common.{unwrap_or}
use Rattle.http_replies.specs.Messages.{phrase_of}
use Rattle.http_replies.proofs.message.phrase_of.Goals as goal

same : (phrase : Option (Bor (List ℕ))) (other : Bor (List ℕ)) → (unwrap_or phrase other).now
    ≡ unwrap_or (option_map (λ text. text.now) phrase) other.now
same None other = refl
same (Some phrase) other = refl

pub returns : goal.returns
unfolding phrase_of
returns c =
    ap (λ text. text.now) c.unwrap_or.ensures ∙ same c.canonical_reason.result _
    ∙ ap (λ phrase. unwrap_or phrase []) c.canonical_reason.ensures.value
