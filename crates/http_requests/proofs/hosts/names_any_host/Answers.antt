use Rattle.std.proofs.Common.{◌∙◌, ap, refl, sym}
use Rattle.std.specs.List.{list_any}
use Rattle.std.proofs.lemmas.List.{take_all}
use Rattle.std.proofs.lemmas.List.Folds.{list_any_at, list_any_more}
use Rattle.http_requests.specs.Guards.{names_host}
use Rattle.http_requests.proofs.hosts.names_any_host.Goals as goal

pub returns-then-names_host : goal.returns-then-names_host
returns-then-names_host c =
    let same = c.as_bytes.ensures.value ∙ c.as_str.ensures ∙ c.index-names-i.is in
    let here = ap (names_host c.args.value.now) (sym same) ∙ sym c.names_host.ensures
    ∙ c.if-names_host.true in
    sym (ap (list_any (names_host c.args.value.now)) (sym c.as_slice-names.ensures)
    ∙ list_any_at (names_host c.args.value.now) c.as_slice-names.result.now c.loop-i.i
    c.index-names-i.result c.loop-i-test.true here)

pub loop-i-preserved : goal.loop-i-preserved
loop-i-preserved c =
    let same = c.as_bytes.ensures.value ∙ c.as_str.ensures ∙ c.index-names-i.is in
    let here = ap (names_host c.args.value.now) (sym same) ∙ sym c.names_host.ensures
    ∙ c.if-names_host.false in
    list_any_more (names_host c.args.value.now) c.as_slice-names.result.now c.loop-i.i
    c.index-names-i.result c.loop-i-test.true
    ∙ rw (c.loop-i.invariant, here) refl

pub returns : goal.returns
returns c =
    let all = take_all c.loop-i.i c.as_slice-names.result.now c.loop-i-test.false in
    sym (ap (list_any (names_host c.args.value.now)) (sym c.as_slice-names.ensures ∙ sym all)
    ∙ c.loop-i.invariant)
