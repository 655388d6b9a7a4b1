use Rattle.book_service.specs.Promise.{NextStateIsSound, HistoriesExtend, MovesTransferOneCard}
use Rattle.book_service.specs.Promise.{DevicesStayConsistent, LastPagesComplete}
use Rattle.book_service.proofs.LifeLemmas.{in_lives, lives_are_runs, parts_are_runs}
use Rattle.book_service.proofs.lives.lives_keep_the_promise.Goals as goal

pub returns-clause-one_run : goal.returns-clause-one_run
returns-clause-one_run c = lives_are_runs

pub returns-clause-sound : goal.returns-clause-sound
returns-clause-sound c = in_lives NextStateIsSound c.runs_keep_the_promise.ensures.sound

pub returns-clause-live : goal.returns-clause-live
returns-clause-live c = c.runs_keep_the_promise.ensures.live

pub returns-clause-sums : goal.returns-clause-sums
returns-clause-sums c = c.runs_keep_the_promise.ensures.sums

pub returns-clause-counts : goal.returns-clause-counts
returns-clause-counts c = c.runs_keep_the_promise.ensures.counts

pub returns-clause-books : goal.returns-clause-books
returns-clause-books c = in_lives HistoriesExtend c.runs_keep_the_promise.ensures.books

pub returns-clause-moves : goal.returns-clause-moves
returns-clause-moves c = in_lives MovesTransferOneCard c.runs_keep_the_promise.ensures.moves

pub returns-clause-starts : goal.returns-clause-starts
returns-clause-starts c = c.runs_keep_the_promise.ensures.starts

pub returns-clause-devices : goal.returns-clause-devices
returns-clause-devices c = in_lives DevicesStayConsistent c.runs_keep_the_promise.ensures.devices

pub returns-clause-last_pages : goal.returns-clause-last_pages
returns-clause-last_pages c = in_lives LastPagesComplete c.runs_keep_the_promise.ensures.last_pages

pub returns-clause-parts : goal.returns-clause-parts
returns-clause-parts c = parts_are_runs c.runs_keep_the_promise.ensures.sound

pub returns-clause-tokens : goal.returns-clause-tokens
returns-clause-tokens c = c.runs_keep_the_promise.ensures.tokens

pub returns-clause-imports : goal.returns-clause-imports
returns-clause-imports c = c.runs_keep_the_promise.ensures.imports
