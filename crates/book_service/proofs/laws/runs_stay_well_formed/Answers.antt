use Rattle.book_service.proofs.PromiseLemmas.{rows_stay_well_formed}
use Rattle.book_service.proofs.laws.runs_stay_well_formed.Goals as goal

pub returns : goal.returns
returns c = rows_stay_well_formed c.histories_stay_sound.ensures
    c.rows_match_histories_after_calls.ensures c.calls_keep_books_well_formed.ensures
