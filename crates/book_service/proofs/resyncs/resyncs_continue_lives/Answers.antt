use Rattle.book_service.specs.Resyncs.{ResyncsAreRuns}
use Rattle.book_service.proofs.ResyncLifeLemmas.{resyncs_continue_lives}
use Rattle.book_service.proofs.ResyncRunLemmas.{resyncs_are_runs}
use Rattle.book_service.proofs.resyncs.resyncs_continue_lives.Goals as goal

pub returns-clause-runs : goal.returns-clause-runs
returns-clause-runs c =
    resyncs_are_runs c.canonical_text_spells.ensures c.put_refines_histories.ensures
    c.remove_refines_histories.ensures c.forget_refines_histories.ensures
    c.resync_is_commands.ensures.books c.resync_is_commands.ensures.legal_spare
    c.resync_is_commands.ensures.legal

pub returns-clause-lives : goal.returns-clause-lives
returns-clause-lives c =
    let runs : ResyncsAreRuns =
    resyncs_are_runs c.canonical_text_spells.ensures c.put_refines_histories.ensures
    c.remove_refines_histories.ensures c.forget_refines_histories.ensures
    c.resync_is_commands.ensures.books c.resync_is_commands.ensures.legal_spare
    c.resync_is_commands.ensures.legal in
    resyncs_continue_lives c.lives_keep_the_promise.ensures.one_run
    c.lives_keep_the_promise.ensures.parts c.lives_stay_well_formed.ensures
    c.cards_stay_legal.ensures.stay runs
