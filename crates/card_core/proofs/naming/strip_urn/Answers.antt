use Rattle.std.proofs.Common.{◌≡◌, false, refl, sym, ◌∙◌, ap, option_copied}
use Rattle.std.proofs.lemmas.Bool.{both_ways, cond-false, false_from_ne_true}
use Rattle.card_core.specs.Groups.{begins_with_urn}
use Rattle.card_core.proofs.NamingLemmas.{boundary_after_urn}
use Rattle.card_core.proofs.naming.strip_urn.Goals as goal

pub returns-in_err-front : goal.returns-in_err-front
returns-in_err-front c =
    let other : begins_with_urn c.args.value.now ≡ false =
    false_from_ne_true _ (λ e. both_ways false refl (c.in_err-front.ensures.variant.1
    (boundary_after_urn c.args.value.now c.utf8.value e))) in
    ap option_copied c.from_residual.ensures ∙ sym (cond-false _ _ _ other)
