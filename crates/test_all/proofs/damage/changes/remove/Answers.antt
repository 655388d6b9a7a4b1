use Rattle.test_all.proofs.damage.changes.remove.Goals as goal

pub remove_in_book-number-requires : goal.remove_in_book-number-requires
remove_in_book-number-requires g c = record {
  settled = c.requires;
  counts = λ order sound. c.new-counts.ensures.right _;
}
