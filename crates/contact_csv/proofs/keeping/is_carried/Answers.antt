use Rattle.std.proofs.Common.{◌≡◌, ◌∙◌, codes, Some, None, ap, sym, subst, rules}
use Rattle.contact_columns.specs.Components.{component_of}
use Rattle.contact_csv.specs.Carrying.{as_label, component_in}
use Rattle.contact_csv.specs.internal.Keeping.{IsCarriedWhole, IsComponentCarried}
use Rattle.contact_csv.proofs.KeepLemmas.{carried_whole, component_carried}
use Rattle.contact_csv.proofs.ResultLemmas.{ok_then}
use Rattle.contact_csv.proofs.keeping.is_carried.Goals as goal

pub returns-then-eq : goal.returns-then-eq
returns-then-eq c =
    let property : c.args.column.now.property ≡ codes "X-ABLABEL" = search rules in
    ok_then c.holds_label.result (λ carried held t place changes. as_label (held t).0 property
    (held t).1 (held t).2) c.holds_label.ensures

pub returns-in-Some : goal.returns-in-Some
returns-in-Some c =
    let column = c.args.column.now in
    let some : component_in column ≡ Some c.in-Some.index =
    sym (c.in-Some.ensures ∙ ap (λ p. component_of p c.as_str.result.now)
    c.as_str-property.ensures ∙ ap (component_of column.property) c.as_str.ensures) in
    ok_then c.is_component_carried.result (λ carried held t place changes. component_carried column
    place c.args.text.now c.args.lines.now changes c.in-Some.index some
    (subst (λ p. IsComponentCarried p c.in-Some.index c.args.text.now c.args.lines.now)
    c.as_str-property.ensures (held t))) c.is_component_carried.ensures

pub returns-in-None : goal.returns-in-None
returns-in-None c =
    let column = c.args.column.now in
    let none : component_in column ≡ None =
    sym (c.in-None.ensures ∙ ap (λ p. component_of p c.as_str.result.now)
    c.as_str-property.ensures ∙ ap (component_of column.property) c.as_str.ensures) in
    ok_then c.is_carried_whole.result (λ carried held t place changes. carried_whole column place
    c.args.text.now c.args.lines.now changes none
    (subst (λ p. IsCarriedWhole p c.args.text.now c.args.lines.now) c.as_str-property.ensures
    (held t))) c.is_carried_whole.ensures
