use Rattle.book_laws.proofs.WellFormedCalls.{calls_keep_form}
use Rattle.book_laws.proofs.well_formed.calls_keep_books_well_formed.Goals as goal

pub returns : goal.returns
returns c = calls_keep_form
