use Rattle.book_laws.proofs.RunLemmas.{rows_match_histories_after_calls}
use Rattle.book_laws.proofs.runs.rows_match_histories_after_calls.Goals as goal

pub returns : goal.returns
returns c = rows_match_histories_after_calls
