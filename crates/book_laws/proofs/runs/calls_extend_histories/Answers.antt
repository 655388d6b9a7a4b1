use Rattle.book_laws.proofs.ExtensionLemmas.{calls_extend_histories}
use Rattle.book_laws.proofs.runs.calls_extend_histories.Goals as goal

pub returns : goal.returns
returns c = calls_extend_histories
