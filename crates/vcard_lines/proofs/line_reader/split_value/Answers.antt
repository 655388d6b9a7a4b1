use Rattle.std.proofs.Common.{subst, sym, IsCharBoundary}
use Rattle.vcard_lines.proofs.FrontLemmas.{boundary_after_value}
use Rattle.vcard_lines.proofs.line_reader.split_value.Goals as goal

pub split_at-requires : goal.split_at-requires
split_at-requires c = subst (IsCharBoundary c.args.text.now) (sym c.value_len.ensures)
    (boundary_after_value c.args.quoted c.args.text.now c.utf8.text)
