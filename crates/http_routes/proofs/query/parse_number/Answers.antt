use Rattle.std.proofs.Common.{◌≡◌, ◌∙◌, length, ap, arith, rules, sym, tests}
use Rattle.std.specs.Char.{is_ascii_digit}
use Rattle.std.specs.List.{list_all}
use Rattle.std.proofs.lemmas.Iterator.{YieldsList-from_slice}
use Rattle.std.proofs.lemmas.Iterator.Search.{all_from_yields_List}
use Rattle.http_routes.proofs.QueryLemmas.{not_empty, number-err, number-ok}
use Rattle.http_routes.proofs.query.parse_number.Goals as goal

pub returns-in-Ok : goal.returns-in-Ok
returns-in-Ok c =
    let all : c.all.result ≡ list_all is_ascii_digit c.as_bytes.result.now =
    all_from_yields_List is_ascii_digit _ _ c.all.result c.all.ensures.ran
    (YieldsList-from_slice c.as_bytes.result.now cc) (λ x b q k. search (rules, tests)) in
    number-ok c.args.text.now c.parse.result c.in-Ok.number c.in-Ok.is c.parse.ensures.value.0
    (not_empty (length c.args.text.now) (sym c.is_empty.ensures ∙ c.if-is_empty.false))
    (omega (arith, c.if-text-gt15.false))
    (sym (all ∙ ap (list_all is_ascii_digit) c.as_bytes.ensures.value) ∙ c.if-not-all.false)

pub returns-in-Err : goal.returns-in-Err
returns-in-Err c =
    let all : c.all.result ≡ list_all is_ascii_digit c.as_bytes.result.now =
    all_from_yields_List is_ascii_digit _ _ c.all.result c.all.ensures.ran
    (YieldsList-from_slice c.as_bytes.result.now cc) (λ x b q k. search (rules, tests)) in
    number-err c.args.text.now c.parse.result c.in-Err.field-0 c.in-Err.is c.parse.ensures.value.0
    (not_empty (length c.args.text.now) (sym c.is_empty.ensures ∙ c.if-is_empty.false))
    (omega (arith, c.if-text-gt15.false))
    (sym (all ∙ ap (list_all is_ascii_digit) c.as_bytes.ensures.value) ∙ c.if-not-all.false)
