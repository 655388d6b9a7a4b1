use Rattle.sync_core.proofs.OneTokenLemmas.{token_texts_unique}
use Rattle.sync_core.proofs.token_laws.token_texts_are_unique.Goals as goal

pub returns : goal.returns
returns c = token_texts_unique
