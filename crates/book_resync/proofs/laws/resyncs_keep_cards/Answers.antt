use Rattle.book_resync.proofs.AllBooksLemmas.{resyncs_change_each_book}
use Rattle.book_resync.proofs.ResyncedLemmas.{resynced_rows_are_live, resyncs_keep_cards}
use Rattle.book_resync.proofs.ResyncedLemmas.{resyncs_keep_versions}
use Rattle.book_resync.proofs.laws.resyncs_keep_cards.Goals as goal

pub returns-clause-each : goal.returns-clause-each
returns-clause-each c = resyncs_change_each_book

pub returns-clause-rows : goal.returns-clause-rows
returns-clause-rows c = resynced_rows_are_live

pub returns-clause-cards : goal.returns-clause-cards
returns-clause-cards c = resyncs_keep_cards

pub returns-clause-versions : goal.returns-clause-versions
returns-clause-versions c = resyncs_keep_versions
