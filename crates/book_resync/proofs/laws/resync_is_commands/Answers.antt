use Rattle.book_resync.proofs.BookResyncLemmas.{book_resyncs_are_commands}
use Rattle.book_resync.proofs.AllBooksLemmas.{resyncs_are_commands, spare_cards_exist}
use Rattle.book_resync.proofs.SpareCardLemmas.{legal_spare_cards_exist}
use Rattle.book_resync.proofs.LegalCallLemmas.{resync_calls_are_legal}
use Rattle.book_resync.proofs.laws.resync_is_commands.Goals as goal

pub returns-clause-book : goal.returns-clause-book
returns-clause-book c = book_resyncs_are_commands

pub returns-clause-books : goal.returns-clause-books
returns-clause-books c = resyncs_are_commands

pub returns-clause-spare : goal.returns-clause-spare
returns-clause-spare c = spare_cards_exist

pub returns-clause-legal_spare : goal.returns-clause-legal_spare
returns-clause-legal_spare c = legal_spare_cards_exist

pub returns-clause-legal : goal.returns-clause-legal
returns-clause-legal c = resync_calls_are_legal
