use Rattle.book_laws.proofs.WellFormedSteps.{creating_keeps_form, putting_keeps_form}
use Rattle.book_laws.proofs.WellFormedSteps.{removing_keeps_form, moving_keeps_form}
use Rattle.book_laws.proofs.WellFormedSteps.{importing_keeps_form, forgetting_keeps_form}
use Rattle.book_laws.proofs.well_formed.steps_keep_books_well_formed.Goals as goal

pub returns-clause-create : goal.returns-clause-create
returns-clause-create c = creating_keeps_form

pub returns-clause-put : goal.returns-clause-put
returns-clause-put c = putting_keeps_form

pub returns-clause-remove : goal.returns-clause-remove
returns-clause-remove c = removing_keeps_form

pub returns-clause-move_card : goal.returns-clause-move_card
returns-clause-move_card c = moving_keeps_form

pub returns-clause-import : goal.returns-clause-import
returns-clause-import c = importing_keeps_form

pub returns-clause-forget : goal.returns-clause-forget
returns-clause-forget c = forgetting_keeps_form
