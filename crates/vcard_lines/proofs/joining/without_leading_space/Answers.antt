use Rattle.vcard_lines.proofs.FrontLemmas.{boundary_after_space}
use Rattle.vcard_lines.proofs.joining.without_leading_space.Goals as goal

pub range_from-requires : goal.range_from-requires
range_from-requires c _ = boundary_after_space c.args.piece.now c.utf8.piece c.requires
