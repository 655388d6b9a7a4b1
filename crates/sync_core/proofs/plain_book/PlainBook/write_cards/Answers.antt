use Rattle.sync_core.proofs.ImportLemmas.{room_for_next}
use Rattle.sync_core.proofs.plain_book.PlainBook.write_cards.Goals as goal

pub import_card-requires : goal.import_card-requires
import_card-requires c =
    room_for_next c.args.self.now c.loop-card.self c.args.cards.now c.loop-card.card-index
    c.card-item.result c.requires c.loop-card.invariant.stored c.loop-card-test.true
    c.card-item.is
