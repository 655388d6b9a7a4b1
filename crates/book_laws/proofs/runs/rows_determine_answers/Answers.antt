use Rattle.book_laws.proofs.RunLemmas.{rows_determine_answers}
use Rattle.book_laws.proofs.runs.rows_determine_answers.Goals as goal

pub returns : goal.returns
returns c = rows_determine_answers
