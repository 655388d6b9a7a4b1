use Rattle.std.proofs.Common.{◌≡◌, ◌<◌, IfSome, IsSomeAnd, Option, Some, sym, ap, ◌∙◌, subst}
use Rattle.std.specs.FinMap as finite
use Rattle.book_model.specs.declared.answers.Stored.{Stored}
use Rattle.book_model.specs.declared.change.Change.TheVariants.{Stores, TakesAway}
use Rattle.book_model.specs.declared.change.RemovalReason.TheVariants.{MoveOut}
use Rattle.book_model.specs.declared.change.StoreReason.TheVariants.{MoveIn}
use Rattle.book_model.specs.Books.{Book, Books, live_at}
use Rattle.book_model.specs.BookChanges.{book_after_change}
use Rattle.sync_core.proofs.MapLemmas.{on_ok_map, on_err_map, on_ok_both, on_err_both, if_some_map}
use Rattle.sync_core.proofs.MapLemmas.{both_in_place, none_there, insert_same, get_other}
use Rattle.sync_core.proofs.plain_store.move_within.Goals as goal

pub returns-in_default-replace-clause-ok : goal.returns-in_default-replace-clause-ok
returns-in_default-replace-clause-ok c =
    absurd (none_there (finite.get c.args.books.now c.args.to.now)
    (λ (t : Book). t.number < 9223372036854775808)
    (sym (get_other c.args.books.now c.args.from.now c.args.to.now c.new.result
    (λ e. c.requires.apart (sym e))) ∙ ap (λ (m : Books). finite.get m c.args.to.now)
    (sym c.in-Some.ensures.written) ∙ sym c.replace-2.ensures.value ∙ c.in_default-replace.is)
    c.requires.target)

pub move_between-done-requires-clause-to_room : goal.move_between-done-requires-clause-to_room
move_between-done-requires-clause-to_room c =
    subst (λ (o : Option Book). IsSomeAnd o (λ (t : Book). t.number < 9223372036854775808))
    (sym (get_other c.args.books.now c.args.from.now c.args.to.now c.new.result
    (λ e. c.requires.apart (sym e))) ∙ ap (λ (m : Books). finite.get m c.args.to.now)
    (sym c.in-Some.ensures.written) ∙ sym c.in-Some-replace.ensures.value)
    c.requires.target

pub returns-clause-ok : goal.returns-clause-ok
returns-clause-ok c = on_ok_map c.move_between-done.result (on_ok_both c.move_between-done.result _
    _ c.move_between-done.ensures.source c.move_between-done.ensures.target) (λ both.
    let at_to : finite.get c.args.books.now c.args.to.now ≡ Some c.in-Some-replace.target =
    sym (get_other c.args.books.now c.args.from.now c.args.to.now c.new.result
    (λ e. c.requires.apart (sym e))) ∙ ap (λ (m : Books). finite.get m c.args.to.now)
    (sym c.in-Some.ensures.written) ∙ sym c.in-Some-replace.ensures.value in
    let wrote = both_in_place c.args.books.now c.replace.new.self c.replace-2.new.self
    c.replace-3.new.self c.replace-4.new.self c.args.from.now c.args.to.now c.new.result
    c.new-2.result
    c.move_between-done.new.target c.move_between-done.new.source c.replace-3.result
    c.replace-4.result c.requires.apart
    c.in-Some.ensures.written c.in-Some-replace.ensures.written c.replace-3.ensures.value
    c.replace-3.ensures.written c.replace-4.ensures.value c.replace-4.ensures.written in
    subst (λ (o : Option Book). IfSome o (λ source. IfSome (live_at source c.args.uid.now)
    (λ (stored : Stored). IfSome (finite.get c.args.books.now c.args.to.now) (λ target.
    c.replace-4.new.self ≡ finite.insert (finite.insert c.args.books.now c.args.to.now
    (book_after_change target c.args.uid.now (Stores stored.card MoveIn))) c.args.from.now
    (book_after_change source c.args.uid.now (TakesAway MoveOut))))))
    c.in-Some.ensures.value
    (if_some_map (live_at c.in-Some.source c.args.uid.now) _ _ both.1 (λ stored came.
    subst (λ (o : Option Book). IfSome o (λ target.
    c.replace-4.new.self ≡ finite.insert (finite.insert c.args.books.now c.args.to.now
    (book_after_change target c.args.uid.now (Stores stored.card MoveIn))) c.args.from.now
    (book_after_change c.in-Some.source c.args.uid.now (TakesAway MoveOut))))
    (sym at_to)
    (wrote ∙ ap (λ t. finite.insert (finite.insert c.args.books.now c.args.to.now t) c.args.from.now
    c.move_between-done.new.source) came
    ∙ ap (finite.insert (finite.insert c.args.books.now c.args.to.now
    (book_after_change c.in-Some-replace.target c.args.uid.now (Stores stored.card MoveIn)))
    c.args.from.now) both.0))))

pub returns-clause-err : goal.returns-clause-err
returns-clause-err c = on_err_map c.move_between-done.result (on_err_both c.move_between-done.result
    _ _ c.move_between-done.ensures.source_unchanged c.move_between-done.ensures.target_unchanged)
    (λ both.
    let at_to : finite.get c.args.books.now c.args.to.now ≡ Some c.in-Some-replace.target =
    sym (get_other c.args.books.now c.args.from.now c.args.to.now c.new.result
    (λ e. c.requires.apart (sym e))) ∙ ap (λ (m : Books). finite.get m c.args.to.now)
    (sym c.in-Some.ensures.written) ∙ sym c.in-Some-replace.ensures.value in
    let wrote = both_in_place c.args.books.now c.replace.new.self c.replace-2.new.self
    c.replace-3.new.self c.replace-4.new.self c.args.from.now c.args.to.now c.new.result
    c.new-2.result
    c.move_between-done.new.target c.move_between-done.new.source c.replace-3.result
    c.replace-4.result c.requires.apart
    c.in-Some.ensures.written c.in-Some-replace.ensures.written c.replace-3.ensures.value
    c.replace-3.ensures.written c.replace-4.ensures.value c.replace-4.ensures.written in
    wrote ∙ ap (λ t. finite.insert (finite.insert c.args.books.now c.args.to.now t) c.args.from.now
    c.move_between-done.new.source) both.1
    ∙ ap (λ (m : Books). finite.insert m c.args.from.now c.move_between-done.new.source)
    (insert_same c.args.books.now c.args.to.now c.in-Some-replace.target at_to)
    ∙ ap (finite.insert c.args.books.now c.args.from.now) both.0
    ∙ insert_same c.args.books.now c.args.from.now c.in-Some.source (sym c.in-Some.ensures.value))
