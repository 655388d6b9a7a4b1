use Rattle.book_service.proofs.RestoreLemmas.{lost_tokens_are_refused, lost_versions_name_one_card}
use Rattle.book_service.proofs.restores.restores_are_noticed.Goals as goal

pub returns-clause-tokens : goal.returns-clause-tokens
returns-clause-tokens c =
    lost_tokens_are_refused c.histories_stay_sound.ensures c.calls_extend_histories.ensures
    c.rows_match_histories_after_calls.ensures c.rows_are_per_book.ensures
    c.reports_refine_histories.ensures c.token_texts_are_unique.ensures
    c.lost_times_never_return.ensures.tokens

pub returns-clause-versions : goal.returns-clause-versions
returns-clause-versions c =
    lost_versions_name_one_card c.calls_extend_histories.ensures
    c.rows_match_histories_after_calls.ensures c.rows_are_per_book.ensures
    c.live_cards_are_stored_last.ensures c.versions_are_last.ensures
    c.lost_times_never_return.ensures.versions
