use Rattle.std.proofs.Common.{◌≡◌, ◌∙◌, subst, string_bytes}
use Rattle.std.specs.Prelude.{IfOk}
use Rattle.vcard_changes.specs.DerivedUid.{derived_uid}
use Rattle.contact_csv.proofs.uid.row_uid.Goals as goal

pub returns : goal.returns
returns c = subst (λ octets. IfOk c.derived_uid.result (λ uid. string_bytes uid
    ≡ derived_uid octets)) (c.as_slice.ensures.value ∙ c.in_ok-octets.ensures) c.derived_uid.ensures
