use Rattle.book_service.proofs.LifeLemmas.{lives_stay_well_formed}
use Rattle.book_service.proofs.lives.lives_stay_well_formed.Goals as goal

pub returns : goal.returns
returns c = lives_stay_well_formed c.runs_stay_well_formed.ensures
