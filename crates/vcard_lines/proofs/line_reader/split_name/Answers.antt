use Rattle.std.proofs.Common.{subst, sym, IsCharBoundary}
use Rattle.vcard_lines.proofs.FrontLemmas.{boundary_after_name}
use Rattle.vcard_lines.proofs.line_reader.split_name.Goals as goal

pub split_at-requires : goal.split_at-requires
split_at-requires c = subst (IsCharBoundary c.args.text.now) (sym c.name_len.ensures)
    (boundary_after_name c.args.text.now c.utf8.text)
