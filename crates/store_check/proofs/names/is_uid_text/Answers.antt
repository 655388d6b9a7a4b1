use Rattle.std.proofs.Common.{◌≡◌, true≢false, sym, ap, ◌∙◌}
use Rattle.vcard_text.specs.Cards.{is_uid}
use Rattle.store_check.proofs.names.is_uid_text.Goals as goal

pub returns-in-Ok : goal.returns-in-Ok
returns-in-Ok c =
    let legal : c.is_uid.result ≡ is_uid c.args.octets.now = c.is_uid.ensures
    ∙ ap is_uid c.in-Ok.ensures.cases.0 in
    (λ t. record { utf8 = c.in-Ok.ensures.cases.1; legal = sym legal ∙ t }, λ h. legal ∙ h.legal)

pub returns-in-Err : goal.returns-in-Err
returns-in-Err c = (λ t. absurd (true≢false (sym t)), λ h. absurd (c.in-Err.ensures.cases.0 h.utf8))
