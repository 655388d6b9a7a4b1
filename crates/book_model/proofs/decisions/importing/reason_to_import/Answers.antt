use Rattle.std.proofs.Common.{rules}
use Rattle.book_model.proofs.PutLemmas.{reason_same, reason_other}
use Rattle.book_model.proofs.decisions.importing.reason_to_import.Goals as goal

pub returns-then-is_same : goal.returns-then-is_same
returns-then-is_same c = reason_same c.args.card.now _ c.in-Some.stored c.args.live c.in-Some.is
    (search rules)

pub returns : goal.returns
returns c = reason_other c.args.card.now _ c.in-Some.stored c.args.live c.in-Some.is (search rules)
