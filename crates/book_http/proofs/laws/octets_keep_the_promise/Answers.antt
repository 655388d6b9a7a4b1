use Rattle.book_http.proofs.ConnectionLemmas.{connections_run, faults_leave_runs}
use Rattle.book_http.proofs.CutRunLemmas.{cuts_run_alike}
use Rattle.book_http.proofs.OctetRunLemmas.{lost_pieces_run, requests_run, sessions_run}
use Rattle.book_http.proofs.ReaderLemmas.{readers_are_devices}
use Rattle.book_http.proofs.laws.octets_keep_the_promise.Goals as goal

pub returns-clause-requests : goal.returns-clause-requests
returns-clause-requests g c = requests_run g.S.BookStore.model

pub returns-clause-sessions : goal.returns-clause-sessions
returns-clause-sessions g c = sessions_run g.S.BookStore.model

pub returns-clause-cuts : goal.returns-clause-cuts
returns-clause-cuts g c = cuts_run_alike g.S.BookStore.model (record {
  cards = c.card_is_unique.ensures;
  card_faults = c.first_fault_without_card.ensures.one;
  no_card_has_fault = c.first_fault_without_card.ensures.not_both;
  rows_are_one = c.cards_of_rows_are_unique.ensures;
  row_faults = c.first_fault_without_cards.ensures.one;
  no_rows_have_fault = c.first_fault_without_cards.ensures.not_both;
  tokens = c.token_texts_are_unique.ensures;
  expansions = c.expansion_is_unique.ensures;
})

pub returns-clause-out_of_memory : goal.returns-clause-out_of_memory
returns-clause-out_of_memory g c = lost_pieces_run g.S.BookStore.model

pub returns-clause-connections : goal.returns-clause-connections
returns-clause-connections g c = connections_run g.S.BookStore.model

pub returns-clause-faults : goal.returns-clause-faults
returns-clause-faults g c = faults_leave_runs g.S.BookStore.model

pub returns-clause-devices : goal.returns-clause-devices
returns-clause-devices g c = readers_are_devices c.token_texts_are_unique.ensures
    c.texts_determine_pages.ensures
