use Rattle.book_laws.proofs.WellFormedBooks.{well_none}
use Rattle.book_laws.proofs.well_formed.new_stores_are_well_formed.Goals as goal

pub returns : goal.returns
returns c = well_none
