use Rattle.std.proofs.Common.{◌≡◌, IsSome, List, ◌∙◌, subst}
use Rattle.std.specs.FinMap as finite
use Rattle.vcard_lines.specs.declared.line.Line.{Line}
use Rattle.book_model.specs.BookChanges.{book_after_change}
use Rattle.book_model.specs.declared.change.Change.TheVariants.{Stores}
use Rattle.book_model.specs.declared.change.StoreReason.TheVariants.{MoveIn}
use Rattle.sync_core.proofs.RowLemmas.{live_card_at}
use Rattle.sync_core.proofs.plain_book.move_between.Goals as goal

pub returns-in-Some-clause-target : goal.returns-in-Some-clause-target
returns-in-Some-clause-target c =
    let room = subst (λ u. IsSome (finite.get c.reserve_row.new.self.members u)) c.requires.key
    c.in_ok-reserve_row.ensures.row in
    live_card_at (finite.get c.args.source.now.members c.args.uid.now) c.in-Some.card
    (λ (k : List Line). c.overwrite.new.self ≡ book_after_change c.args.target.now c.args.uid.now
    (Stores k MoveIn))
    c.in-Some.ensures.card
    (c.overwrite.ensures.written room
    ∙ subst (λ u. book_after_change c.reserve_row.new.self u (Stores c.in-Some.card MoveIn)
    ≡ book_after_change c.args.target.now u (Stores c.in-Some.card MoveIn)) c.requires.key
    (c.in_ok-reserve_row.ensures.change (Stores c.in-Some.card MoveIn)))
