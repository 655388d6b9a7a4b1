use Rattle.book_laws.proofs.RunLemmas.{stays_sound}
use Rattle.book_laws.proofs.runs.histories_stay_sound.Goals as goal

pub returns : goal.returns
returns c = stays_sound
