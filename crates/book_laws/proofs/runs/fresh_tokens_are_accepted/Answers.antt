use Rattle.book_laws.proofs.TokenLemmas.{fresh_tokens_are_accepted}
use Rattle.book_laws.proofs.runs.fresh_tokens_are_accepted.Goals as goal

pub returns : goal.returns
returns c = fresh_tokens_are_accepted
