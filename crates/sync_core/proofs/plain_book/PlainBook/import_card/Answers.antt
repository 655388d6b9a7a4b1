use Rattle.std.proofs.Common.{◌+◌, sym, ap, subst}
use Rattle.book_model.specs.declared.change.Change.TheVariants.{Stores}
use Rattle.book_model.specs.declared.row.Row.{Row}
use Rattle.sync_core.specs.BookInvariants.{HasSoundNumbers}
use Rattle.sync_core.proofs.DropLemmas.{bound_stored}
use Rattle.sync_core.proofs.RowLemmas.{Rows, numbered}
use Rattle.sync_core.proofs.plain_book.PlainBook.import_card.Goals as goal

pub invariant_of-self-2 : goal.invariant_of-self-2
invariant_of-self-2 c = (
  subst (λ (m : Rows). HasSoundNumbers (c.self.inside.number + 1) c.add.new.self m)
      (sym c.in_ok-write_row.ensures.ok)
      (numbered c.self.inside.number c.self.inside.counts c.add.new.self c.self.inside.members
      c.uid-2.result.now c.row_after-row.result (Stores c.in_ok-try_copy.field-0
      c.in-Some.reason) c.self.invariant.0 c.add.ensures (ap (λ (r : Row). r.changed)
      c.row_after-row.ensures)),
  bound_stored c.self.inside.horizon c.self.inside.remembered_bound c.self.inside.members _
      c.uid-2.result.now c.row_after-row.result _ c.self.invariant.1 c.in_ok-write_row.ensures.ok
      (ap (λ (r : Row). r.card) c.row_after-row.ensures),
)
