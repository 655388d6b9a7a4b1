use Rattle.test_all.proofs.damage.changes.move_card.Goals as goal

pub move_in_tables-moved-requires : goal.move_in_tables-moved-requires
move_in_tables-moved-requires g c = record {
  settled = c.requires;
  counts = λ order sound. c.new-counts.ensures.right _;
}
