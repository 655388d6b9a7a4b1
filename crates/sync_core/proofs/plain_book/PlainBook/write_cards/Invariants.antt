use Rattle.std.proofs.Common.{◌≡◌, fold, take}
use Rattle.sync_core.specs.ImportedRows.{rows_restored, with_imported}
use Rattle.sync_core.proofs.plain_book.PlainBook.write_cards.Given as goal

-- the cards so far are stored, and the earlier rows are saved
abbrev pub invariant-loop-card : goal.invariant-loop-card
invariant-loop-card l = record {
  stored : l.self ≡ fold with_imported l.fn.self (take l.card-index l.cards);
  noted : rows_restored l.written.items l.self.members ≡ rows_restored l.fn.written.items
      l.fn.self.members;
}
