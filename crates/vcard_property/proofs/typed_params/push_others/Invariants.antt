use Rattle.std.proofs.Common.{◌≡◌, ◌++◌, filter}
use Rattle.vcard_property.specs.NewTypes.{is_other_param}
use Rattle.vcard_property.proofs.typed_params.push_others.Given as goal

-- of the parameters so far the others were appended
abbrev pub invariant-loop-param : goal.invariant-loop-param
invariant-loop-param l = l.params ≡ l.fn.params
    ++ filter (is_other_param l.may_have_pref) l.yielded
