use Rattle.std.proofs.Common.{◌≡◌, IfSome, Option, string_bytes, sym, ap, ◌∙◌, subst}
use Rattle.std.specs.FinMap as finite
use Rattle.book_model.specs.Books.{Book}
use Rattle.book_model.specs.BookChanges.{book_with_row}
use Rattle.sync_core.proofs.MapLemmas.{on_ok_map, on_err_map, in_place, insert_same}
use Rattle.sync_core.proofs.plain_store.apply_to.Goals as goal

pub returns-clause-ok : goal.returns-clause-ok
returns-clause-ok c = on_ok_map c.apply-done.result c.apply-done.ensures.ok (λ e.
    subst (λ (o : Option Book). IfSome o (λ book. c.replace-2.new.self
    ≡ finite.insert c.args.books.now c.args.name.now
    (book_with_row book (string_bytes c.args.uid) c.args.change))) c.in-Some.ensures.value
    (in_place c.args.books.now c.replace.new.self c.replace-2.new.self c.args.name.now c.new.result
    c.apply-done.new.self c.replace-2.result c.in-Some.ensures.written c.replace-2.ensures.value
    c.replace-2.ensures.written
    ∙ ap (finite.insert c.args.books.now c.args.name.now) e))

pub returns-clause-err : goal.returns-clause-err
returns-clause-err c = on_err_map c.apply-done.result c.apply-done.ensures.err (λ e.
    in_place c.args.books.now c.replace.new.self c.replace-2.new.self c.args.name.now c.new.result
    c.apply-done.new.self c.replace-2.result c.in-Some.ensures.written c.replace-2.ensures.value
    c.replace-2.ensures.written
    ∙ ap (finite.insert c.args.books.now c.args.name.now) e
    ∙ insert_same c.args.books.now c.args.name.now c.in-Some.book (sym c.in-Some.ensures.value))
