use Rattle.std.proofs.Common.{◌≡◌, ℕ, ◌≤◌, sym, ap, ◌∙◌, subst}
use Rattle.book_model.specs.Forgetting.{rows_after_forget}
use Rattle.book_model.specs.BookQueries.{tombstone_count_after}
use Rattle.sync_core.specs.BookInvariants.{HasSoundNumbers}
use Rattle.sync_core.proofs.DropLemmas.{removed_short}
use Rattle.sync_core.proofs.RowLemmas.{Rows}
use Rattle.sync_core.proofs.ForgetLemmas.{numbered_still}
use Rattle.sync_core.proofs.plain_book.PlainBook.forget.Goals as goal

pub invariant_of-self : goal.invariant_of-self
invariant_of-self c =
    let rows : c.from_map.result ≡ rows_after_forget c.self.inside.members c.args.upto =
    c.from_map.ensures ∙ c.drop_rows-dropped.ensures.rows
    ∙ ap (λ (m : Rows). rows_after_forget m c.args.upto) (c.into_map-rows.ensures
    ∙ c.replace-members.ensures.value) in
    let numbered = subst (λ (m : Rows). HasSoundNumbers c.self.inside.number c.self.inside.counts m)
    (sym rows)
    (numbered_still c.self.inside.number c.args.upto c.self.inside.counts c.self.inside.members
    c.self.invariant.0) in (
      numbered,
      subst (λ (k : ℕ). tombstone_count_after c.from_map.result c.args.upto ≤ k)
          (sym c.len.ensures) (removed_short c.args.upto c.from_map.result),
    )
