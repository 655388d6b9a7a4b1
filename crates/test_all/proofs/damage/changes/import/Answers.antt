use Rattle.std.proofs.Common.{sym, subst}
use Rattle.book_model.specs.ImportLaws.{HaveDistinctUids}
use Rattle.book_service.proofs.ImportLemmas.{are_distinct}
use Rattle.test_all.proofs.damage.changes.import.Goals as goal

pub import_in_book-tally-requires : goal.import_in_book-tally-requires
import_in_book-tally-requires g c = record {
  settled = c.requires;
  distinct = subst HaveDistinctUids (sym c.as_slice.ensures.value)
      (are_distinct _ c.in-Ok.cards.items c.in-Ok.ensures.cards);
}
