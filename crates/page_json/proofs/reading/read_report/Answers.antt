use Rattle.std.proofs.lemmas.Result.{IfOk-weaker, err_from_is_err_and}
use Rattle.serde_json.specs.View.{view}
use Rattle.page_json.specs.PageJson.{IsTextOfPage}
use Rattle.page_json.specs.FirstFaults.{of_shape, of_texts}
use Rattle.page_json.specs.internal.ParsedTexts.{texts_of_parts}
use Rattle.page_json.proofs.FaultLemmas.{err_map}
use Rattle.page_json.proofs.OneFaultLemmas.{answers_page}
use Rattle.page_json.proofs.reading.read_report.Goals as goal

pub returns-in_err-parts-clause-fault : goal.returns-in_err-parts-clause-fault
returns-in_err-parts-clause-fault c =
    let p = err_from_is_err_and c.from_residual-in_err-parts.result
    c.from_residual-in_err-parts.ensures.1 in
    rw (p.1, p.2) (λ n.
    let bad = c.in_err-parts.ensures.fault n in
    of_shape bad.0 (view c.in_ok-value.value) c.in_ok-value.ensures.json bad.1)

pub returns-in_err-parts-clause-every : goal.returns-in_err-parts-clause-every
returns-in_err-parts-clause-every c =
    answers_page c.args.text.now (c.texts_determine_pages.ensures c.args.text.now)
    (c.pages_have_no_first_fault.ensures c.args.text.now) c.from_residual-in_err-parts.result
    (let p = err_from_is_err_and c.from_residual-in_err-parts.result
    c.from_residual-in_err-parts.ensures.1 in rw p.1 tt)
    (let p = err_from_is_err_and c.from_residual-in_err-parts.result
    c.from_residual-in_err-parts.ensures.1 in
    rw (p.1, p.2) (λ n.
    let bad = c.in_err-parts.ensures.fault n in
    of_shape bad.0 (view c.in_ok-value.value) c.in_ok-value.ensures.json bad.1))

pub returns-clause-fault : goal.returns-clause-fault
returns-clause-fault c =
    err_map c.page_of.result (λ fault is n. of_texts (view c.in_ok-value.value)
    c.in_ok-value.ensures.json (texts_of_parts c.in_ok-parts.parts) c.in_ok-parts.ensures.shape
    (is n)) c.page_of.ensures.fault

pub returns-clause-every : goal.returns-clause-every
returns-clause-every c =
    answers_page c.args.text.now (c.texts_determine_pages.ensures c.args.text.now)
    (c.pages_have_no_first_fault.ensures c.args.text.now) c.page_of.result
    (IfOk-weaker c.page_of.result _ (λ page. IsTextOfPage c.args.text.now page)
    (λ page describes. record {
      value = view c.in_ok-value.value;
      json = c.in_ok-value.ensures.json;
      page_of = record {
        texts = texts_of_parts c.in_ok-parts.parts;
        shape = c.in_ok-parts.ensures.shape;
        describes = describes;
      };
    })
    c.page_of.ensures.page)
    (err_map c.page_of.result (λ fault is n. of_texts (view c.in_ok-value.value)
    c.in_ok-value.ensures.json (texts_of_parts c.in_ok-parts.parts) c.in_ok-parts.ensures.shape
    (is n)) c.page_of.ensures.fault)
