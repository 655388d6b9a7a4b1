use Rattle.std.proofs.Common.{◌≡◌, ◌∙◌, ap}
use Rattle.vcard_property.specs.NewTypes.{may_have_pref, new_params, new_types}
use Rattle.vcard_values.specs.Types.{is_preferred}
use Rattle.vcard_property.proofs.typed_params.typed_line.Goals as goal

pub returns-clause-typed : goal.returns-clause-typed
returns-clause-typed c = λ clear.
    let types = c.in_ok-types.types in
    let octets = c.args.octets.now in
    let others = c.args.line.params in
    let values : types.values ≡ new_types octets = c.in_ok-types.ensures.values clear in
    let pref : types.is_preferred ≡ is_preferred octets = c.in_ok-types.ensures.pref clear in
    record {
      others = others;
      params = c.in_ok-params.ensures
          ∙ ap (λ own. new_params types.values types.is_preferred own others) c.may_have_pref.ensures
          ∙ ap (λ values. new_params values types.is_preferred (may_have_pref octets) others) values
          ∙ ap (λ pref. new_params (new_types octets) pref (may_have_pref octets) others) pref;
    }
