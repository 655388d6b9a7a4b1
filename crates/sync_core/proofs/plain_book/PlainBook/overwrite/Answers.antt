use Rattle.std.proofs.Common.{◌+◌, refl, sym, subst}
use Rattle.sync_core.specs.BookInvariants.{HasSoundNumbers}
use Rattle.sync_core.proofs.DropLemmas.{bound_changed}
use Rattle.sync_core.proofs.RowLemmas.{Rows, numbered}
use Rattle.sync_core.proofs.plain_book.PlainBook.overwrite.Goals as goal

pub invariant_of-self-2 : goal.invariant_of-self-2
invariant_of-self-2 c = (
  subst (λ (m : Rows). HasSoundNumbers (c.self.inside.number + 1) c.add.new.self m)
      (sym c.in_ok-card.ensures.written)
      (numbered c.self.inside.number c.self.inside.counts c.add.new.self c.self.inside.members
      c.args.uid.now _ c.args.change c.self.invariant.0 c.add.ensures refl),
  bound_changed c.self.inside.horizon c.self.inside.remembered_bound
      c.bound_after-self-inside.result c.len.result c.is_none-is_removal.result
      c.self.inside.members _ c.args.uid.now _ _ c.self.invariant.1 c.in_ok-card.ensures.written
      c.is_none-is_removal.ensures c.len.ensures c.bound_after-self-inside.ensures,
)
