use Rattle.std.proofs.Common.{inl, subst, sym}
use Rattle.std.proofs.lemmas.Result.{err_from_is_err_and}
use Rattle.vcard_text.specs.Spelling.{Spells}
use Rattle.page_json.proofs.FaultLemmas.{bad_card_fault}
use Rattle.page_json.proofs.member.card_of.Goals as goal

pub returns-in_err-card-clause-fault : goal.returns-in_err-card-clause-fault
returns-in_err-card-clause-fault c =
    let p = err_from_is_err_and c.from_residual.result c.from_residual.ensures.1 in
    let fault = c.in_err-card.field-0.0 in
    rw p.1 (λ n.
    let described = bad_card_fault fault _ p.2 n in
    inl (
      described.0,
      λ card spells. cc (c.in_err-card.ensures.every card
          (subst (λ text. Spells text card) (sym c.as_bytes.ensures.value) spells)
          (λ e. described.1 (cc e))),
    ))
