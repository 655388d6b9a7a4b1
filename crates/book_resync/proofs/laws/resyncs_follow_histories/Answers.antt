use Rattle.book_resync.proofs.AllBooksLemmas.{resyncs_match_histories, resyncs_keep_well_formed}
use Rattle.book_resync.proofs.laws.resyncs_follow_histories.Goals as goal

pub returns-clause-histories : goal.returns-clause-histories
returns-clause-histories c = resyncs_match_histories

pub returns-clause-well_formed : goal.returns-clause-well_formed
returns-clause-well_formed c = resyncs_keep_well_formed
