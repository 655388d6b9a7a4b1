use Rattle.std.proofs.Common.{inl, inr}
use Rattle.std.proofs.lemmas.Result.{err_from_is_err_and, IfErr-weaker}
use Rattle.csv_cards.proofs.FirstFaultLemmas.{answers_cards, is_memory}
use Rattle.csv_cards.proofs.reading.read_rows.Goals as goal

pub returns-in_err-form-clause-fault : goal.returns-in_err-form-clause-fault
returns-in_err-form-clause-fault c =
    let p = err_from_is_err_and c.from_residual.result c.from_residual.ensures.1 in
    rw (p.1, p.2) (λ n. inl (c.in_err-form.ensures.fault c.args.text.now c.reader_of-reader.ensures
    n))

pub returns-clause-fault : goal.returns-clause-fault
returns-clause-fault c =
    IfErr-weaker c.read_cards.result _ _ (λ fault is n. inr (is n))
    (c.read_cards.ensures.fault c.args.text.now (c.in_ok-form.ensures.form c.args.text.now
    c.reader_of-reader.ensures))

pub returns-in_err-form-clause-every : goal.returns-in_err-form-clause-every
returns-in_err-form-clause-every c =
    let p = err_from_is_err_and c.from_residual.result c.from_residual.ensures.1 in
    rw (p.1, p.2) (λ cards are. is_memory _ (λ n. c.first_fault_without_cards.ensures.not_both
    c.args.text.now cards _ are (inl (c.in_err-form.ensures.fault c.args.text.now
    c.reader_of-reader.ensures n))))

pub returns-clause-every : goal.returns-clause-every
returns-clause-every c =
    let has_read = c.in_ok-form.ensures.form c.args.text.now c.reader_of-reader.ensures in
    answers_cards (λ read. read.items) c.args.text.now (c.cards_of_rows_are_unique.ensures
    c.args.text.now) (c.first_fault_without_cards.ensures.not_both c.args.text.now)
    c.read_cards.result
    (c.read_cards.ensures.cards c.args.text.now has_read)
    (IfErr-weaker c.read_cards.result _ _ (λ fault is n. inr (is n))
    (c.read_cards.ensures.fault c.args.text.now has_read))
