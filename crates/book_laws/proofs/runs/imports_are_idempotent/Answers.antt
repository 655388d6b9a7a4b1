use Rattle.book_laws.proofs.IdempotenceLemmas.{imports_are_idempotent}
use Rattle.book_laws.proofs.runs.imports_are_idempotent.Goals as goal

pub returns : goal.returns
returns c = imports_are_idempotent
