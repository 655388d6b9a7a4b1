use Rattle.std.proofs.Common.{◌≡◌, subst, string_bytes, rules}
use Rattle.std.specs.Prelude.{IfOk}
use Rattle.vcard_changes.specs.DerivedUid.{derived_uid}
use Rattle.contact_csv.specs.RowUids.{cell_octets}
use Rattle.contact_csv.proofs.uid.cell_uid.Goals as goal

pub returns : goal.returns
returns c =
    let octets : c.as_slice.result.now ≡ cell_octets c.args.column.now c.args.text.now =
    search rules in
    subst (λ octets. IfOk c.derived_uid.result (λ uid. string_bytes uid ≡ derived_uid octets))
    octets c.derived_uid.ensures
