-- A text without a prefix.
use Rattle.std.proofs.Common.{◌≡◌, ℕ, true, false, cond, Option, Some, None, List, length, drop}
use Rattle.std.proofs.Common.{nat_eq, refl, sym, ap, ◌∙◌}
use Rattle.std.specs.List.{starts_with}
use Rattle.std.specs.Prelude.{MatchOption, unwrap_or}
use Rattle.std.specs.Str.Pattern.{FindsTextPrefix, StripsPrefix}
use denote.Bor.{Bor}
use Rattle.std.proofs.lemmas.Slice.Eq.{starts_is}
use Rattle.std.proofs.lemmas.Bool.Decides.{Decides-eqb}
use Rattle.vcard_export.specs.Forms.{without_prefix}

-- what is left once the prefix was stripped, if it was there
pub stripped : (text : Bor (List ℕ)) (prefix : List ℕ) (rest : Option (Bor (List ℕ)))
    → MatchOption rest (FindsTextPrefix prefix text.now None)
    (λ x. StripsPrefix (FindsTextPrefix prefix) text.now x.now)
    → (unwrap_or rest text).now ≡ without_prefix prefix text.now
stripped text prefix None cases =
    let front = starts_is Decides-eqb text.now prefix (starts_with nat_eq text.now prefix) refl in
    elim (starts_with nat_eq text.now prefix) as (λ t. starts_with nat_eq text.now prefix ≡ t
    → text.now ≡ cond t (drop (length prefix) text.now) text.now) [
      | true ↦ λ e. absurd (cases (drop (length prefix) text.now) (front.0 e))
      | false ↦ λ e. refl
    ] refl
stripped text prefix (Some x) cases =
    let front = starts_is Decides-eqb text.now prefix (starts_with nat_eq text.now prefix) refl in
    cases.2 ∙ ap (λ k. drop k text.now) cases.1.0
    ∙ sym (ap (λ b. cond b (drop (length prefix) text.now) text.now)
    (front.1 (drop cases.0 text.now) cases.1.1))
