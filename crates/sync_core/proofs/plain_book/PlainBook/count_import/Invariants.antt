use Rattle.std.proofs.Common.{◌≡◌, ◌+◌, take}
use Rattle.book_model.specs.Books.{live_at}
use Rattle.book_model.specs.Importing.{import_state}
use Rattle.book_model.specs.ImportLaws.{CountsImportedCards}
use Rattle.sync_core.proofs.plain_book.PlainBook.count_import.Given as goal

-- the cards so far are counted, each once
abbrev pub invariant-loop-card : goal.invariant-loop-card
invariant-loop-card l = record {
  counted : CountsImportedCards live_at l.self (take l.card-index l.cards)
      (import_state l.self l.counts.added l.counts.edited l.counts.same);
  all : l.counts.added + l.counts.edited + l.counts.same ≡ l.card-index;
}
