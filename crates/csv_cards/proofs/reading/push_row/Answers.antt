use Rattle.std.proofs.lemmas.Result.{err_from_is_err_and, IfErr-weaker}
use Rattle.csv.specs.Records.{fields_of}
use Rattle.csv_cards.proofs.CauseLemmas.{repeated_least}
use Rattle.csv_cards.proofs.reading.push_row.Goals as goal

pub returns-in_err-card-clause-cause : goal.returns-in_err-card-clause-cause
returns-in_err-card-clause-cause c =
    let p = err_from_is_err_and c.from_residual.result c.from_residual.ensures.1 in
    rw (p.1, p.2) (λ n. c.in_err-card.ensures.cause n c.args.cards.now.items)

pub returns-clause-cause : goal.returns-clause-cause
returns-clause-cause c =
    let represents = c.in_ok-card.ensures.card in
    IfErr-weaker c.push_card.result _ _ (λ why is n.
    let repeated = is n in
    rw repeated.0 (repeated_least c.args.form c.args.cards.now.items (fields_of c.args.row.now)
    represents.fields represents.utf8 c.card_is_unique.ensures
    (record { card = c.in_ok-card.card; represents = represents; repeated = repeated.1 })))
    c.push_card.ensures.repeated
