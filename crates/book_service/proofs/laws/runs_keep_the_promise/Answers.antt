use Rattle.book_service.specs.Promise.{NextStateIsSound, HistoriesExtend, MovesTransferOneCard}
use Rattle.book_service.specs.Promise.{DevicesStayConsistent, LastPagesComplete}
use Rattle.book_service.proofs.IdempotenceLemmas.{imports_are_idempotent}
use Rattle.book_service.proofs.PromiseLemmas.{counts_balance, calls_extend_histories}
use Rattle.book_service.proofs.PromiseLemmas.{moves_transfer_one_card, devices_stay_consistent}
use Rattle.book_service.proofs.PromiseLemmas.{last_pages_complete}
use Rattle.book_service.proofs.StepLemmas.{always, steps_keep_sound}
use Rattle.book_service.proofs.TokenLemmas.{tokens_expire}
use Rattle.book_service.proofs.laws.runs_keep_the_promise.Goals as goal

pub returns-clause-sound : goal.returns-clause-sound
returns-clause-sound c = always c.histories_stay_sound.ensures NextStateIsSound
    (steps_keep_sound c.histories_stay_sound.ensures)

pub returns-clause-sums : goal.returns-clause-sums
returns-clause-sums c = counts_balance c.changes_are_counted.ensures.events
    c.changes_are_counted.ensures.live

pub returns-clause-live : goal.returns-clause-live
returns-clause-live c = λ model name history w found. c.live_cards_are_stored_last.ensures
    history.log

pub returns-clause-counts : goal.returns-clause-counts
returns-clause-counts c = λ model name history w found. c.changes_are_counted.ensures.reasons
    history.log

pub returns-clause-books : goal.returns-clause-books
returns-clause-books c = always c.histories_stay_sound.ensures HistoriesExtend
    (calls_extend_histories c.calls_extend_histories.ensures)

pub returns-clause-moves : goal.returns-clause-moves
returns-clause-moves c = always c.histories_stay_sound.ensures MovesTransferOneCard
    (moves_transfer_one_card c.moves_transfer_one_card.ensures)

pub returns-clause-starts : goal.returns-clause-starts
returns-clause-starts c = c.devices_start_consistent.ensures

pub returns-clause-devices : goal.returns-clause-devices
returns-clause-devices c =
    always c.histories_stay_sound.ensures DevicesStayConsistent
    (devices_stay_consistent c.devices_stay_consistent_over_calls.ensures
    c.devices_stay_consistent_among_books.ensures.parts
    c.devices_stay_consistent_among_books.ensures.pages)

pub returns-clause-last_pages : goal.returns-clause-last_pages
returns-clause-last_pages c = always c.histories_stay_sound.ensures LastPagesComplete
    (last_pages_complete c.last_pages_complete_copies.ensures.devices)

pub returns-clause-tokens : goal.returns-clause-tokens
returns-clause-tokens c = tokens_expire c.histories_stay_sound.ensures
    c.token_texts_are_unique.ensures c.tokens_stay_valid.ensures

pub returns-clause-imports : goal.returns-clause-imports
returns-clause-imports c = imports_are_idempotent c.imports_are_idempotent.ensures
