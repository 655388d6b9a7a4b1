use Rattle.std.proofs.Common.{◌+◌, refl, string_bytes, sym, subst}
use Rattle.sync_core.specs.BookInvariants.{HasSoundNumbers}
use Rattle.sync_core.proofs.DropLemmas.{bound_changed}
use Rattle.sync_core.proofs.RowLemmas.{Rows, numbered}
use Rattle.sync_core.proofs.plain_book.PlainBook.apply.Goals as goal

pub invariant_of-self-2 : goal.invariant_of-self-2
invariant_of-self-2 c = (
  subst (λ (m : Rows). HasSoundNumbers (c.self.inside.number + 1) c.add.new.self m)
      (sym c.in_ok-insert.ensures.ok)
      (numbered c.self.inside.number c.self.inside.counts c.add.new.self c.self.inside.members
      (string_bytes c.args.uid) _ c.args.change c.self.invariant.0 c.add.ensures refl),
  bound_changed c.self.inside.horizon c.self.inside.remembered_bound
      c.bound_after-self-inside.result c.len.result c.is_none-is_removal.result
      c.self.inside.members _ (string_bytes c.args.uid) _ _ c.self.invariant.1
      c.in_ok-insert.ensures.ok c.is_none-is_removal.ensures c.len.ensures
      c.bound_after-self-inside.ensures,
)
