use Rattle.book_laws.proofs.TokenLemmas.{tokens_stay_valid}
use Rattle.book_laws.proofs.runs.tokens_stay_valid.Goals as goal

pub returns : goal.returns
returns c = tokens_stay_valid
